-- Sorts and live symbols that are computed.
use Rattle.std.specs.Prelude.{◌≡◌, ℕ, pos, true, false, List, [], ◌∷◌, Some, None}
use Rattle.vx_terms.specs.Sorts.{IntSort, BoolSort, RealSort, RefSort, Variable, And, Equal, Less, Add, Div}
use Rattle.vx_terms.specs.Terms.{Term, Truth, Number, Constant, Apply, Not, Binary, AllOf, NoTerms, MoreTerms}
use Rattle.vx_smt_meaning.specs.Commands.{Declared}
use Rattle.cs_sorts.specs.Sorting.{takes, of_operands, of_choice, of_bool, sort_in, same_sorts, declares, is_live}

abbrev pub integer : ℕ → Term
integer n = Constant (Variable n) IntSort

abbrev pub applied : Term → Term
applied t = Apply (Variable 3) IntSort (MoreTerms t NoTerms)

-- v0, an Int, and v3, of an Int to an Int
abbrev pub symbols : List Declared
symbols = record { symbol = Variable 0; takes = []; gives = IntSort } ∷ record { symbol = Variable 3; takes = IntSort ∷ []; gives = IntSort } ∷ []

pub record Examples : Type 0 where
  pub and_of_bool : takes And BoolSort ≡ true
  pub and_of_int : takes And IntSort ≡ false
  pub equal_of_any : takes Equal RefSort ≡ true
  pub less_of_real : takes Less RealSort ≡ true
  pub less_of_bool : takes Less BoolSort ≡ false
  pub div_of_int : takes Div IntSort ≡ true
  pub div_of_real : takes Div RealSort ≡ false
  pub sum : of_operands Add IntSort IntSort ≡ Some IntSort
  pub mixed_sum : of_operands Add IntSort RealSort ≡ None
  pub choice : of_choice BoolSort RefSort RefSort ≡ Some RefSort
  pub choice_by_int : of_choice IntSort RefSort RefSort ≡ None
  pub mixed_choice : of_choice BoolSort RefSort IntSort ≡ None
  pub negation : of_bool BoolSort ≡ Some BoolSort
  pub no_negation : of_bool IntSort ≡ None
  pub comparison : sort_in (Binary Less (integer 0) (Number (pos 1))) ≡ Some BoolSort
  pub application : sort_in (applied (integer 0)) ≡ Some IntSort
  pub ill_sorted_part : sort_in (applied (Not (integer 0))) ≡ None
  pub bools : sort_in (AllOf (MoreTerms (Truth true) NoTerms)) ≡ Some BoolSort
  pub no_bools : sort_in (AllOf (MoreTerms (integer 0) NoTerms)) ≡ None
  pub one_sort : same_sorts (IntSort ∷ []) (IntSort ∷ []) ≡ true
  pub fewer_sorts : same_sorts (IntSort ∷ []) [] ≡ false
  pub declared : declares symbols (Variable 3) (IntSort ∷ []) IntSort ≡ true
  pub other_arguments : declares symbols (Variable 3) [] IntSort ≡ false
  pub live : is_live symbols (applied (integer 0)) ≡ true
  pub not_live : is_live symbols (Binary Less (integer 0) (integer 1)) ≡ false
