-- When an assignment agrees with the rows of Bool terms and with congruence.
use Rattle.std.specs.Prelude.{◌≡◌, ◌↔◌, ℕ, Bool, true, false, not, ◌||◌, if◌then◌else◌, List, [], ◌∷◌}
use Rattle.vx_terms.specs.Sorts.{Sort, BoolSort, Symbol}
use Rattle.vx_terms.specs.Terms.{Term, Constant, Apply, Ite, Terms, sort_of}
use Rattle.cs_certificate.specs.Terms.{items, parts, equal, HasSort}
use Rattle.cs_certificate.specs.Certificate.{Literal, Yes, No, Clause, Contains, Defines, IsNumberSort}
use Rattle.cs_numbers.specs.Laws.{IsSorted}
use Rattle.cs_classes.specs.Elements.{Assignment, element_of, elements_of}

-- whether the literal is true
abbrev pub holds : Assignment → Literal → Bool
holds s (Yes t) = s.truth t
holds s (No t) = not (s.truth t)

-- whether some literal of the clause is
abbrev pub satisfies : Assignment → Clause → Bool
satisfies s [] = false
satisfies s (l ∷ c) = holds s l || satisfies s c

-- the term is a symbol of a sort on these arguments; a constant is one on none
pub data IsCall : Term → Symbol → Sort → List Term → Type 0 where
  constant : (f : Symbol) (a : Sort) → IsCall (Constant f a) f a []
  applies : (f : Symbol) (a : Sort) (ts : Terms) → IsCall (Apply f a ts) f a (items ts)

-- well-sorted terms, and with each term its parts
pub record IsWhole (all : List Term) : Type 0 where
  pub sorted : (t : Term) → Contains all t → IsSorted t
  pub parted : (t x : Term) → Contains all t → Contains (parts t) x → Contains all x

-- none of the terms is an Int or a Real
abbrev pub HasNoNumber : List Term → Type 0
HasNoNumber all = (t : Term) → Contains all t → ¬ (IsNumberSort (sort_of t))

-- an assignment that agrees, on these terms, with the rows that define Bool terms, and with `ite`, equality and congruence
pub record Agrees (all : List Term) (s : Assignment) : Type 0 where
  -- each row of a Bool term is satisfied
  pub rows : (t : Term) (k : ℕ) (c : Clause) → Contains all t → HasSort t BoolSort → Defines t k c → satisfies s c ≡ true
  -- an `ite` that isn't Bool is in the class of the case that its condition picks
  pub picks : (c x y : Term) → Contains all (Ite c x y) → ¬ (HasSort x BoolSort) → s.class (Ite c x y) ≡ s.class (if s.truth c then x else y)
  -- an equality of terms that aren't Bool is true exactly where they are in one class
  pub equalities : (x y : Term) → Contains all (equal x y) → ¬ (HasSort x BoolSort) → (s.truth (equal x y) ≡ true) ↔ (s.class x ≡ s.class y)
  -- calls of one symbol on the same elements have the same element
  pub congruent : (t u : Term) (f : Symbol) (a : Sort) (xs ys : List Term) → Contains all t → Contains all u → IsCall t f a xs → IsCall u f a ys → elements_of s xs ≡ elements_of s ys → element_of s t ≡ element_of s u
