-- Questions that are well-sorted over declared symbols.
use Rattle.std.specs.Prelude.{◌≡◌, ℕ, List, [], ◌++◌, Some, ⊤}
use Rattle.vx_ast.specs.Syntax.{Name, Program, Kind, Method, member_named}
use Rattle.vx_terms.specs.Sorts.{Sort, BoolSort, OtherSort}
use Rattle.vx_terms.specs.Interpretations.{Each}
use Rattle.vx_terms.specs.Formed.{Formed}
use Rattle.vx_smt_meaning.specs.Commands.{Declared}
use Rattle.vx_smt_meaning.specs.Over.{IsOver}
use Rattle.vx_smt_meaning.specs.Standard.{standard_symbols}
use Rattle.vx_rules.specs.Trees.{Question, Tree, End, Impossible, On, Step, Ask, Probe, Fork}
use Rattle.vx_rules.specs.Members.{tree, method_tree}
use Rattle.vx_types.specs.Typing.{IsTypedMethod}
use Rattle.vx_types.specs.Premises.{IsTypedProgram}
use Rattle.vx_types.specs.Closure.{InClosure}
use Rattle.vx_live.specs.Functions.{function_symbols}

-- one of the five sorts that every dialogue knows
abbrev pub IsBuiltIn : Sort → Type 0
IsBuiltIn (OtherSort x) = ⊥
IsBuiltIn a = ⊤

-- its condition and its path are of sort Bool, over symbols below one number, with the standard symbols and those of functions as
-- they are declared and each v at one sort, which is built in
pub record IsLive (functions : List Declared) (q : Question) : Type 0 where
  pub next : ℕ
  pub sorts : ℕ → Sort
  pub built_in : (n : ℕ) → IsBuiltIn (sorts n)
  pub condition : Formed next q.condition BoolSort
  pub path : Each (λ t. Formed next t BoolSort) q.path
  pub condition_over : IsOver (standard_symbols ++ functions) sorts q.condition
  pub path_over : Each (IsOver (standard_symbols ++ functions) sorts) q.path

abbrev pub AllLive : List Declared → Tree → Type 0
AllLive functions End = Unit {0}
AllLive functions (Impossible s) = Unit {0}
AllLive functions (On t s) = Unit {0}
AllLive functions (Step t) = AllLive functions t
AllLive functions (Ask q t) = IsLive functions q × AllLive functions t
AllLive functions (Probe q a b) = IsLive functions q × AllLive functions a × AllLive functions b
AllLive functions (Fork a b) = AllLive functions a × AllLive functions b

-- for the methods of a part of the language, in which no function is applied
abbrev pub LiveLaw : (Method → Type 0) → Type 0
LiveLaw IsOfPart = (p : Program) (m : Method) → IsTypedMethod p m → IsOfPart m → AllLive [] (method_tree p m)

-- For a member of a typed program that leads only to members of a part of the language, none of which is a function: of what it
-- calls the contract is read, which is of that part too then.
abbrev pub LiveClosureLaw : (Kind → Type 0) → Type 0
LiveClosureLaw IsOfPart =
    (p : Program) (x : Name) (k : Kind) → IsTypedProgram p → member_named p x ≡ Some k → ((y : Name) (l : Kind) → InClosure p x y → member_named p y ≡ Some l → IsOfPart l) → AllLive [] (tree p x k)

-- for each member of a typed program, with the symbols of its functions
abbrev pub LiveProgramLaw : Type 0
LiveProgramLaw = (p : Program) (x : Name) (k : Kind) → IsTypedProgram p → member_named p x ≡ Some k → AllLive (function_symbols p) (tree p x k)
