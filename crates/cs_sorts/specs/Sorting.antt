-- The sort of a well-sorted term, and whether its symbols are live.
use Rattle.std.specs.Prelude.{Bool, true, false, ◌&&◌, if◌then◌else◌, List, [], ◌∷◌, map, Option, Some, None}
use Rattle.std.specs.List.{list_any}
use Rattle.vx_frac.specs.Fractions.{lowest}
use Rattle.vx_terms.specs.Sorts.{Sort, IntSort, BoolSort, RealSort, Symbol, Operator, And, Or, Implies, Equal, Less, LessEqual, Add, Subtract, Multiply, Div, Mod, same_sort, same_symbol, gives}
use Rattle.vx_terms.specs.Terms.{Term, Truth, Number, Part, Constant, Apply, Not, Binary, Ite, AllOf, SomeOf, Terms, NoTerms, MoreTerms, identical, sort_of}
use Rattle.vx_smt_meaning.specs.Commands.{Declared}
use Rattle.cs_certificate.specs.Terms.{items}
use Rattle.cs_certificate.specs.Steps.{◌>>=◌, is_number_sort}

-- whether an operator takes operands of this sort
abbrev pub takes : Operator → Sort → Bool
takes And a = same_sort a BoolSort
takes Or a = same_sort a BoolSort
takes Implies a = same_sort a BoolSort
takes Equal a = true
takes Less a = is_number_sort a
takes LessEqual a = is_number_sort a
takes Add a = is_number_sort a
takes Subtract a = is_number_sort a
takes Multiply a = is_number_sort a
takes Div a = same_sort a IntSort
takes Mod a = same_sort a IntSort

abbrev pub of_operands : Operator → Sort → Sort → Option Sort
of_operands o a b = if takes o a && same_sort b a then Some (gives o a) else None

abbrev pub of_choice : Sort → Sort → Sort → Option Sort
of_choice c a b = if same_sort c BoolSort && same_sort b a then Some a else None

abbrev pub of_bool : Sort → Option Sort
of_bool a = if same_sort a BoolSort then Some BoolSort else None

abbrev mutual
  pub sort_in : Term → Option Sort
  sort_in (Truth b) = Some BoolSort
  sort_in (Number z) = Some IntSort
  sort_in (Part a) = if identical (lowest a) a then Some RealSort else None
  sort_in (Constant f a) = Some a
  sort_in (Apply f a ts) = are_sorted ts >>= λ u. Some a
  sort_in (Not t) = sort_in t >>= of_bool
  sort_in (Binary o t u) = sort_in t >>= λ a. (sort_in u >>= of_operands o a)
  sort_in (Ite c t u) = sort_in c >>= λ x. (sort_in t >>= λ a. (sort_in u >>= of_choice x a))
  sort_in (AllOf ts) = are_bools ts >>= λ u. Some BoolSort
  sort_in (SomeOf ts) = are_bools ts >>= λ u. Some BoolSort

  -- each is well-sorted
  pub are_sorted : Terms → Option (Unit {0})
  are_sorted NoTerms = Some tt
  are_sorted (MoreTerms t ts) = sort_in t >>= λ a. are_sorted ts

  -- and Bool
  pub are_bools : Terms → Option (Unit {0})
  are_bools NoTerms = Some tt
  are_bools (MoreTerms t ts) = sort_in t >>= λ a. (of_bool a >>= λ b. are_bools ts)

abbrev pub same_sorts : List Sort → List Sort → Bool
same_sorts [] [] = true
same_sorts (a ∷ as') (b ∷ bs) = same_sort a b && same_sorts as' bs
same_sorts _ _ = false

abbrev pub is_declaration : Symbol → List Sort → Sort → Declared → Bool
is_declaration f ss a d = same_symbol f d.symbol && (same_sorts ss d.takes && same_sort a d.gives)

abbrev pub declares : List Declared → Symbol → List Sort → Sort → Bool
declares ds f ss a = list_any (is_declaration f ss a) ds

abbrev mutual
  pub is_live : List Declared → Term → Bool
  is_live ds (Truth b) = true
  is_live ds (Number z) = true
  is_live ds (Part a) = true
  is_live ds (Constant f a) = declares ds f [] a
  is_live ds (Apply f a ts) = declares ds f (map sort_of (items ts)) a && are_live ds ts
  is_live ds (Not t) = is_live ds t
  is_live ds (Binary o t u) = is_live ds t && is_live ds u
  is_live ds (Ite c t u) = is_live ds c && (is_live ds t && is_live ds u)
  is_live ds (AllOf ts) = are_live ds ts
  is_live ds (SomeOf ts) = are_live ds ts

  pub are_live : List Declared → Terms → Bool
  are_live ds NoTerms = true
  are_live ds (MoreTerms t ts) = is_live ds t && are_live ds ts
