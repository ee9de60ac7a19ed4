-- The heads and parts of terms, their sorts, and their numbers.
use Rattle.std.specs.Prelude.{ℕ, ℤ, Bool, cond, List, [], ◌∷◌, ◌++◌}
use Rattle.vx_frac.specs.Fractions.{Fraction}
use Rattle.vx_terms.specs.Sorts.{Sort, Symbol, Operator, Equal}
use Rattle.vx_terms.specs.Terms.{Term, Truth, Number, Part, Constant, Apply, Not, Binary, Ite, AllOf, SomeOf, Terms, NoTerms, MoreTerms, same}
use Rattle.vx_terms.specs.Formed.{Formed}

-- what stands before a term's parts
pub data Head : Type 0 where
  TruthHead : Bool → Head
  NumberHead : ℤ → Head
  PartHead : Fraction → Head
  ConstantHead ApplyHead : Symbol → Sort → Head
  BinaryHead : Operator → Head
  NotHead IteHead AllHead SomeHead : Head

abbrev pub head : Term → Head
head (Truth b) = TruthHead b
head (Number z) = NumberHead z
head (Part a) = PartHead a
head (Constant f a) = ConstantHead f a
head (Apply f a ts) = ApplyHead f a
head (Not t) = NotHead
head (Binary o t u) = BinaryHead o
head (Ite c t u) = IteHead
head (AllOf ts) = AllHead
head (SomeOf ts) = SomeHead

abbrev pub items : Terms → List Term
items NoTerms = []
items (MoreTerms t ts) = t ∷ items ts

abbrev pub parts : Term → List Term
parts (Apply f a ts) = items ts
parts (Not t) = t ∷ []
parts (Binary o t u) = t ∷ u ∷ []
parts (Ite c t u) = c ∷ t ∷ u ∷ []
parts (AllOf ts) = items ts
parts (SomeOf ts) = items ts
parts _ = []

abbrev pub equal : Term → Term → Term
equal a b = Binary Equal a b

-- a term and its parts, outer before inner, left to right
abbrev mutual
  pub subterms : Term → List Term
  subterms (Apply f a ts) = Apply f a ts ∷ all_subterms ts
  subterms (Not t) = Not t ∷ subterms t
  subterms (Binary o t u) = Binary o t u ∷ (subterms t ++ subterms u)
  subterms (Ite c t u) = Ite c t u ∷ (subterms c ++ (subterms t ++ subterms u))
  subterms (AllOf ts) = AllOf ts ∷ all_subterms ts
  subterms (SomeOf ts) = SomeOf ts ∷ all_subterms ts
  subterms t = t ∷ []

  pub all_subterms : Terms → List Term
  all_subterms NoTerms = []
  all_subterms (MoreTerms t ts) = subterms t ++ all_subterms ts

abbrev pub without : Term → List Term → List Term
without t [] = []
without t (u ∷ us) = cond (same t u) (without t us) (u ∷ without t us)

-- the first occurrence of each
abbrev pub distinct : List Term → List Term
distinct [] = []
distinct (t ∷ ts) = t ∷ without t (distinct ts)

abbrev pub parts_of : List Term → List Term
parts_of [] = []
parts_of (t ∷ ts) = subterms t ++ parts_of ts

-- the term at place n has the number n
abbrev pub numbered : List Term → List Term
numbered ts = distinct (parts_of ts)

-- well-sorted, over some numbered symbols
abbrev pub HasSort : Term → Sort → Type 0
HasSort t a = (n : ℕ) × Formed n t a
