-- The tokens of a command.
use Rattle.std.specs.Prelude.{ℕ, zero, suc, ◌+◌, ◌==◌, ℤ, pos, negsuc, Bool, true, false, List, [], ◌∷◌, ◌++◌, codes, map, if◌then◌else◌}
use Rattle.std.specs.Int.Digits.{digits_of}
use Rattle.vx_sexp.specs.declared.token.Kind.TheVariants as kind
use Rattle.vx_sexp.specs.declared.token.Token.{Token}
use Rattle.vx_sexp.specs.declared.token.Token.TheVariants.{Open, Close, Atom}
use Rattle.vx_terms.specs.Sorts.{Sort, IntSort, BoolSort, RealSort, RefSort, SnapSort, OtherSort, Symbol, Standard, Function, Variable, Named, Operator, And, Or, Implies, Equal, Less, LessEqual, Add, Subtract, Multiply, Div, Mod}
use Rattle.vx_terms.specs.Terms.{Term, Truth, Number, Part, Constant, Apply, Not, Binary, Ite, AllOf, SomeOf, Terms, NoTerms, MoreTerms}
use Rattle.vx_smt_meaning.specs.Commands.{Command, SetOption, SetLogic, DeclareSort, DeclareFun, Assert, Push, Pop, CheckSat, GetProof, Exit}

-- a number's decimal digits
unfoldable pub digits : ℕ → List ℕ
digits n = map (λ d. 48 + d) (digits_of 10 n)

unfoldable pub numeral : ℕ → List ℕ
numeral n = if n == 0 then (48 ∷ []) else digits n

unfoldable pub decimal : ℕ → List ℕ
decimal n = numeral n ++ (46 ∷ 48 ∷ [])

abbrev pub sort_word : Sort → List ℕ
sort_word IntSort = codes "Int"
sort_word BoolSort = codes "Bool"
sort_word RealSort = codes "Real"
sort_word RefSort = codes "Ref"
sort_word SnapSort = codes "Snap"
sort_word (OtherSort x) = x

abbrev pub symbol_word : Symbol → List ℕ
symbol_word (Standard n) = 115 ∷ numeral n
symbol_word (Function n) = 102 ∷ numeral n
symbol_word (Variable n) = 118 ∷ numeral n
symbol_word (Named x) = x

abbrev pub operator_word : Operator → List ℕ
operator_word And = codes "and"
operator_word Or = codes "or"
operator_word Implies = codes "=>"
operator_word Equal = codes "="
operator_word Less = codes "<"
operator_word LessEqual = codes "<="
operator_word Add = codes "+"
operator_word Subtract = codes "-"
operator_word Multiply = codes "*"
operator_word Div = codes "div"
operator_word Mod = codes "mod"

-- ---- tokens

abbrev pub word : List ℕ → Token
word text = Atom kind.Symbol text

abbrev pub listed : List Token → List Token
listed ts = Open ∷ ts ++ Close ∷ []

-- a number below 0 stands behind a minus, in a list
abbrev pub signed_tokens : ℤ → (ℕ → List Token) → List Token
signed_tokens (pos n) f = f n
signed_tokens (negsuc n) f = listed (word (codes "-") ∷ f (n + 1))

abbrev pub quotient_tokens : ℕ → ℕ → List Token
quotient_tokens p zero = Atom kind.Decimal (decimal p) ∷ []
quotient_tokens p (suc d) = listed (word (codes "/") ∷ Atom kind.Decimal (decimal p) ∷ Atom kind.Decimal (decimal (suc d + 1)) ∷ [])

abbrev mutual
  pub term_tokens : Term → List Token
  term_tokens (Truth true) = word (codes "true") ∷ []
  term_tokens (Truth false) = word (codes "false") ∷ []
  term_tokens (Number z) = signed_tokens z (λ n. Atom kind.Numeral (numeral n) ∷ [])
  term_tokens (Part a) = signed_tokens a.numerator (λ p. quotient_tokens p a.below)
  term_tokens (Constant f a) = word (symbol_word f) ∷ []
  term_tokens (Apply f a ts) = listed (word (symbol_word f) ∷ terms_tokens ts)
  term_tokens (Not t) = listed (word (codes "not") ∷ term_tokens t)
  term_tokens (Binary o t u) = listed (word (operator_word o) ∷ term_tokens t ++ term_tokens u)
  term_tokens (Ite c t u) = listed (word (codes "ite") ∷ term_tokens c ++ term_tokens t ++ term_tokens u)
  term_tokens (AllOf ts) = listed (word (codes "and") ∷ terms_tokens ts)
  term_tokens (SomeOf ts) = listed (word (codes "or") ∷ terms_tokens ts)

  pub terms_tokens : Terms → List Token
  terms_tokens NoTerms = []
  terms_tokens (MoreTerms t ts) = term_tokens t ++ terms_tokens ts

abbrev pub sorts_tokens : List Sort → List Token
sorts_tokens [] = []
sorts_tokens (a ∷ as') = word (sort_word a) ∷ sorts_tokens as'

abbrev pub truth_word : Bool → List ℕ
truth_word true = codes "true"
truth_word false = codes "false"

abbrev pub command_tokens : Command → List Token
command_tokens (SetOption x b) = listed (word (codes "set-option") ∷ Atom kind.Keyword x ∷ word (truth_word b) ∷ [])
command_tokens (SetLogic x) = listed (word (codes "set-logic") ∷ word x ∷ [])
command_tokens (DeclareSort x) = listed (word (codes "declare-sort") ∷ word x ∷ Atom kind.Numeral (numeral 0) ∷ [])
command_tokens (DeclareFun d) = listed (word (codes "declare-fun") ∷ word (symbol_word d.symbol) ∷ listed (sorts_tokens d.takes) ++ word (sort_word d.gives) ∷ [])
command_tokens (Assert t) = listed (word (codes "assert") ∷ term_tokens t)
command_tokens (Push n) = listed (word (codes "push") ∷ Atom kind.Numeral (numeral n) ∷ [])
command_tokens (Pop n) = listed (word (codes "pop") ∷ Atom kind.Numeral (numeral n) ∷ [])
command_tokens CheckSat = listed (word (codes "check-sat") ∷ [])
command_tokens GetProof = listed (word (codes "get-proof") ∷ [])
command_tokens Exit = listed (word (codes "exit") ∷ [])
