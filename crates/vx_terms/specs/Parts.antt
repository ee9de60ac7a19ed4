-- How many terms and lists of terms a term is made of, itself included.
use Rattle.std.specs.Prelude.{ℕ, ◌+◌}
use Rattle.vx_terms.specs.Terms.{Term, Truth, Number, Part, Constant, Apply, Not, Binary, Ite, AllOf, SomeOf, Terms, NoTerms, MoreTerms}

abbrev mutual
  pub parts : Term → ℕ
  parts (Truth b) = 1
  parts (Number z) = 1
  parts (Part a) = 1
  parts (Constant f a) = 1
  parts (Apply f a ts) = 1 + parts_in ts
  parts (Not t) = 1 + parts t
  parts (Binary o t u) = 1 + (parts t + parts u)
  parts (Ite c t u) = 1 + (parts c + (parts t + parts u))
  parts (AllOf ts) = 1 + parts_in ts
  parts (SomeOf ts) = 1 + parts_in ts

  pub parts_in : Terms → ℕ
  parts_in NoTerms = 1
  parts_in (MoreTerms t ts) = 1 + (parts t + parts_in ts)
