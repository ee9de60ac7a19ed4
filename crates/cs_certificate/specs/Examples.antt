-- Clauses of steps that are computed.
use Rattle.std.specs.Prelude.{◌≡◌, ℕ, pos, List, [], ◌∷◌, Some, None}
use Rattle.vx_terms.specs.Sorts.{Sort, IntSort, BoolSort, RefSort, Variable, Operator, Equal, Less, LessEqual, Add, Multiply, Div, Mod}
use Rattle.cs_certificate.specs.Terms.{Head, NumberHead, ConstantHead, ApplyHead, BinaryHead, NotHead, IteHead}
use Rattle.cs_certificate.specs.Nodes.{Node}
use Rattle.cs_certificate.specs.Steps.{plain, denial, define_clause, chain_clause, congruence_clause, split_clause, trichotomy_clause, pick_clause, divide_clause}

abbrev pub node : Head → List ℕ → Sort → Node
node h ps a = record { head = h; parts = ps; sort = a }

abbrev pub reference : ℕ → Node
reference n = node (ConstantHead (Variable n) RefSort) [] RefSort

abbrev pub integer : ℕ → Node
integer n = node (ConstantHead (Variable n) IntSort) [] IntSort

abbrev pub two : Operator → ℕ → ℕ → Sort → Node
two o a b sort = node (BinaryHead o) (a ∷ b ∷ []) sort

-- `(= a b)`, `(= b c)`, `(not (= (g a) (g c)))`, and `(= a c)`
abbrev pub equalities : List Node
equalities =
    two Equal 1 2 BoolSort ∷ reference 0 ∷ reference 1 ∷ two Equal 2 4 BoolSort ∷ reference 2 ∷ node NotHead (6 ∷ []) BoolSort ∷ two Equal 7 8 BoolSort
    ∷ node (ApplyHead (Variable 3) IntSort) (1 ∷ []) IntSort ∷ node (ApplyHead (Variable 3) IntSort) (4 ∷ []) IntSort ∷ two Equal 1 4 BoolSort ∷ []

-- x, 5, 6, `(<= x 5)`, `(<= 6 x)`, y, `(< x y)`, `(= y x)`, `(< y x)`; x by 5, its remainder, 5 times the quotient, the sum, x as the sum;
-- 0, and the remainder from 0 to 5; b, `(ite b x y)`, and it as x and as y
abbrev pub numbers : List Node
numbers =
    integer 0 ∷ node (NumberHead (pos 5)) [] IntSort ∷ node (NumberHead (pos 6)) [] IntSort ∷ two LessEqual 0 1 BoolSort ∷ two LessEqual 2 0 BoolSort
    ∷ integer 1 ∷ two Less 0 5 BoolSort ∷ two Equal 5 0 BoolSort ∷ two Less 5 0 BoolSort
    ∷ two Div 0 1 IntSort ∷ two Mod 0 1 IntSort ∷ two Multiply 1 9 IntSort ∷ two Add 11 10 IntSort ∷ two Equal 0 12 BoolSort
    ∷ node (NumberHead (pos 0)) [] IntSort ∷ two LessEqual 14 10 BoolSort ∷ two Less 10 1 BoolSort
    ∷ node (ConstantHead (Variable 2) BoolSort) [] BoolSort ∷ node IteHead (17 ∷ 0 ∷ 5 ∷ []) IntSort ∷ two Equal 18 0 BoolSort ∷ two Equal 5 18 BoolSort ∷ []

pub record Examples : Type 0 where
  pub definition : define_clause equalities 5 0 ≡ Some (denial 5 ∷ denial 6 ∷ [])
  pub no_third_row : define_clause equalities 5 2 ≡ None
  pub no_bool_row : define_clause equalities 6 0 ≡ None
  pub chain : chain_clause equalities (1 ∷ 2 ∷ 4 ∷ []) ≡ Some (denial 0 ∷ denial 3 ∷ plain 9 ∷ [])
  pub chain_back : chain_clause equalities (4 ∷ 2 ∷ 1 ∷ []) ≡ Some (denial 3 ∷ denial 0 ∷ plain 9 ∷ [])
  pub no_link : chain_clause equalities (1 ∷ 4 ∷ 7 ∷ []) ≡ None
  pub congruence : congruence_clause equalities 7 8 ≡ Some (denial 9 ∷ plain 6 ∷ [])
  pub other_heads : congruence_clause equalities 7 1 ≡ None
  pub split : split_clause numbers 0 (pos 5) ≡ Some (plain 3 ∷ plain 4 ∷ [])
  pub no_bound : split_clause numbers 0 (pos 4) ≡ None
  pub not_whole : split_clause numbers 17 (pos 5) ≡ None
  pub trichotomy : trichotomy_clause numbers 0 5 ≡ Some (plain 6 ∷ plain 7 ∷ plain 8 ∷ [])
  pub no_order : trichotomy_clause numbers 0 17 ≡ None
  pub quotient : divide_clause numbers 0 1 0 ≡ Some (plain 13 ∷ [])
  pub remainder : divide_clause numbers 0 1 1 ≡ Some (plain 15 ∷ [])
  pub bounded : divide_clause numbers 0 1 2 ≡ Some (plain 16 ∷ [])
  pub no_fourth_row : divide_clause numbers 0 1 3 ≡ None
  pub by_zero : divide_clause numbers 0 14 0 ≡ None
  pub pick : pick_clause numbers 18 0 ≡ Some (denial 17 ∷ plain 19 ∷ [])
  pub pick_else : pick_clause numbers 18 1 ≡ Some (plain 17 ∷ plain 20 ∷ [])
  pub no_choice : pick_clause numbers 0 0 ≡ None
