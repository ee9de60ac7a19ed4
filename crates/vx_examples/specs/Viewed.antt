-- The code's codes, and keys of terms, computed by hand: a key mixes two as `(31 a + b) % 65536`.
use Rattle.std.specs.Prelude.{ℕ, negsuc, List, [], ◌∷◌}
use Rattle.vx_ast.specs.Syntax as syntax
use Rattle.vx_resolved.specs.declared.Operator.{Operator as SettledOperator}
use Rattle.vx_resolved.specs.declared.Operator.TheVariants as settled'
use Rattle.vx_resolved.specs.declared.Connective.{Connective as Connective'}
use Rattle.vx_resolved.specs.declared.Connective.TheVariants as connective'
use Rattle.vx_terms.specs.Sorts as sort
use Rattle.vx_terms.specs.declared.sort.Sort.{Sort as Sort'}
use Rattle.vx_terms.specs.declared.sort.Sort.TheVariants as sort'
use Rattle.vx_terms.specs.declared.term.Symbol.{Symbol as Symbol'}
use Rattle.vx_terms.specs.declared.term.Symbol.TheVariants as symbol'
use Rattle.vx_terms.specs.declared.term.Operator.{Operator as Operator'}
use Rattle.vx_terms.specs.declared.term.Operator.TheVariants as operator'
use Rattle.vx_terms.specs.Sorts.{Sort, IntSort, BoolSort, RealSort, RefSort, SnapSort, Symbol, Standard, Function, Variable, Named, Operator}
use Rattle.vx_terms.specs.Terms as term
use Rattle.vx_terms.specs.Terms.{Term, NoTerms}
use Rattle.vx_rules.specs.declared.code.Code.{Code as Code'}
use Rattle.vx_rules.specs.declared.code.Code.TheVariants as code'
use Rattle.vx_rules.specs.Trees.{Code, AssertCode, PermissionCode, AmountCode, DivisorCode, CallCode, FunctionCode, PostCode, EntryCode, KeptCode, FoldCode, UnfoldCode, MeasureCode}
use Rattle.vx_examples.specs.Words.{int, bool, snap, number, denied, plus, chosen_term, first}
use Rattle.vx_examples.specs.Simplified.{truth, half}

abbrev pub of_codes : List (Code' × Code)
of_codes =
    (code'.Assert, AssertCode) ∷ (code'.Permission, PermissionCode) ∷ (code'.Amount, AmountCode) ∷ (code'.Divisor, DivisorCode) ∷ (code'.Call, CallCode) ∷ (code'.Function, FunctionCode)
    ∷ (code'.Postcondition, PostCode) ∷ (code'.Entry, EntryCode) ∷ (code'.Kept, KeptCode) ∷ (code'.Fold, FoldCode) ∷ (code'.Unfold, UnfoldCode) ∷ (code'.Measure, MeasureCode) ∷ []

abbrev pub of_symbols : List (Symbol × ℕ)
of_symbols = (Standard 3, 3) ∷ (Function 65537, 1) ∷ (Variable 65536, 0) ∷ (Variable 7, 7) ∷ (Named (1 ∷ []), 0) ∷ []

abbrev pub of_operators : List (Operator × ℕ)
of_operators =
    (sort.And, 1) ∷ (sort.Or, 2) ∷ (sort.Implies, 3) ∷ (sort.Equal, 4) ∷ (sort.Less, 5) ∷ (sort.LessEqual, 6) ∷ (sort.Add, 7) ∷ (sort.Subtract, 8) ∷ (sort.Multiply, 9) ∷ (sort.Div, 10) ∷ (sort.Mod, 11) ∷ []

-- by three layers; a fourth counts as 0
abbrev pub of_keys : List (Term × ℕ)
of_keys =
    (number 5, 5) ∷ (term.Number (negsuc 4), 5) ∷ (number 65537, 1) ∷ (int 7, 7) ∷ (truth, 1)
    -- 31 * 3 + (31 * 7 + 0)
    ∷ (first (snap 7), 310)
    -- 31 * 1 + 1, and 31 * 13 + 0
    ∷ (half, 32) ∷ (term.AllOf NoTerms, 403)
    -- 31 * 12 + 7
    ∷ (denied (bool 7), 379)
    -- 31 * (31 * 7 + 2) + 5
    ∷ (plus (int 2) (number 5), 6794)
    -- 31 * (31 * 1 + 2) + 3
    ∷ (chosen_term (bool 1) (int 2) (int 3), 1026)
    -- 31 * 12 + (31 * 12 + (31 * 12 + (31 * 12 + 7))), and one deeper, where what is denied isn't seen: 31 * 12 five times
    ∷ (denied (denied (denied (denied (bool 7)))), 1495) ∷ (denied (denied (denied (denied (denied (bool 7))))), 1860) ∷ []

abbrev pub of_sorts : List (Sort' × Sort)
of_sorts = (sort'.Int, IntSort) ∷ (sort'.Bool, BoolSort) ∷ (sort'.Real, RealSort) ∷ (sort'.Ref, RefSort) ∷ (sort'.Snap, SnapSort) ∷ []

abbrev pub of_term_symbols : List (Symbol' × Symbol)
of_term_symbols = (symbol'.Standard 3, Standard 3) ∷ (symbol'.Function 4, Function 4) ∷ (symbol'.Variable 5, Variable 5) ∷ []

abbrev pub of_term_operators : List (Operator' × Operator)
of_term_operators =
    (operator'.And, sort.And) ∷ (operator'.Or, sort.Or) ∷ (operator'.Implies, sort.Implies) ∷ (operator'.Equal, sort.Equal) ∷ (operator'.Less, sort.Less) ∷ (operator'.LessEqual, sort.LessEqual)
    ∷ (operator'.Add, sort.Add) ∷ (operator'.Subtract, sort.Subtract) ∷ (operator'.Multiply, sort.Multiply) ∷ (operator'.Div, sort.Div) ∷ (operator'.Mod, sort.Mod) ∷ []

abbrev pub of_settled_operators : List (SettledOperator × syntax.Operator)
of_settled_operators =
    (settled'.Equal, syntax.Equal) ∷ (settled'.Less, syntax.Less) ∷ (settled'.LessEqual, syntax.LessEqual) ∷ (settled'.Greater, syntax.Greater) ∷ (settled'.GreaterEqual, syntax.GreaterEqual)
    ∷ (settled'.Add, syntax.Add) ∷ (settled'.Subtract, syntax.Subtract) ∷ (settled'.Multiply, syntax.Multiply) ∷ []

abbrev pub of_settled_connectives : List (Connective' × syntax.Connective)
of_settled_connectives = (connective'.And, syntax.And) ∷ (connective'.Or, syntax.Or) ∷ (connective'.Implies, syntax.Implies) ∷ []
