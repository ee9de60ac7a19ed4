-- Marks on numbered terms: which literals are assumed.
use Rattle.std.specs.Prelude.{◌≡◌, ℕ, ◌<◌, Bool, not, nat_eq, if◌then◌else◌, List, [], ◌∷◌, length, slice_index, cond}
use Rattle.cs_certificate.specs.declared.literal.Literal.{Literal}
use Rattle.cs_certificate.specs.declared.literal.Left.{Left}
use Rattle.cs_certificate.specs.declared.marks.Marks.{Marks}
use Rattle.cs_certificate.specs.Hints.{with, denied}

-- a literal is marked by the number of the round
abbrev pub is_marked : Marks → Literal → Bool
is_marked m l = nat_eq (slice_index (if l.positive then m.plain.items else m.negated.items) l.number) m.round

-- the numbers that can be marked
abbrev pub terms_in : Marks → ℕ
terms_in m = length m.plain.items

abbrev pub rounds_in : Marks → ℕ
rounds_in m = m.round

abbrev pub flip : Literal → Literal
flip l = record { positive = not l.positive; number = l.number }

-- the marked literals are the assumed ones
abbrev pub AreMarked : Marks → List Literal → Type 0
AreMarked m assumed = (l : Literal) → is_marked m (flip l) ≡ denied assumed l

-- what is left of a clause without the literals that a test denies
abbrev pub left_by : (Literal → Bool) → Left → List Literal → Left
left_by test found [] = found
left_by test found (l ∷ ls) = left_by test (cond (test l) found (with found l)) ls

abbrev pub IsBelow : ℕ → Literal → Type 0
IsBelow n l = l.number < n
