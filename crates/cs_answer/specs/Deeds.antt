-- What steps show to have been done: clauses that were learned, and cases that were told, each of them new.
use Rattle.std.specs.Prelude.{ℕ, ◌+◌, ℤ, Bool, true, false, not, ◌&&◌, ◌||◌, nat_eq, if◌then◌else◌, List, [], ◌∷◌, ◌++◌}
use Rattle.std.specs.List.{list_all, list_any}
use Rattle.std.specs.Ordering.{int_eq}
use Rattle.vx_terms.specs.Terms.{same_bool}
use Rattle.cs_reader.specs.declared.step.Literal.{Literal}
use Rattle.cs_proof.specs.declared.step.Step.{Step}
use Rattle.cs_proof.specs.declared.step.Step.TheVariants as steps

-- an attempt that shows so many deeds has done what it may
abbrev pub wanted : ℕ
wanted = 1000

abbrev pub same_literal : Literal → Literal → Bool
same_literal a b = nat_eq a.number b.number && same_bool a.positive b.positive

-- each of some literals is one of these
abbrev pub are_among : List Literal → (some : List Literal) → Bool
are_among ls some = list_all (λ l. list_any (same_literal l) ls) some

-- by a sum or by hints, the step derives a clause of some of these literals
abbrev pub learns_within : List Literal → Step → Bool
learns_within ls (steps.Farkas ks ms) = are_among ls ks.items
learns_within ls (steps.Propagate ks hs) = are_among ls ks.items
learns_within ls s = false

abbrev pub splits_at : ℕ → ℤ → Step → Bool
splits_at t z (steps.Split u y) = nat_eq t u && int_eq z y
splits_at t z s = false

-- the two terms in either order
abbrev pub tells_apart : ℕ → ℕ → Step → Bool
tells_apart a b (steps.Trichotomy c d) = (nat_eq a c && nat_eq b d) || (nat_eq a d && nat_eq b c)
tells_apart a b s = false

-- an earlier step leaves nothing of a step: its clause is contained in that of the step, or it tells the same cases
abbrev pub leaves_nothing : Step → (earlier : Step) → Bool
leaves_nothing (steps.Farkas ls ms) e = learns_within ls.items e
leaves_nothing (steps.Propagate ls hs) e = learns_within ls.items e
leaves_nothing (steps.Split t z) e = splits_at t z e
leaves_nothing (steps.Trichotomy a b) e = tells_apart a b e
leaves_nothing s e = false

-- it derives a clause by a sum or by hints, or tells cases of numbers
abbrev pub is_work : Step → Bool
is_work (steps.Farkas ls ms) = true
is_work (steps.Propagate ls hs) = true
is_work (steps.Split t z) = true
is_work (steps.Trichotomy a b) = true
is_work s = false

-- behind these steps: work of which none of them leaves nothing
abbrev pub is_deed : (before : List Step) → Step → Bool
is_deed before s = is_work s && not (list_any (leaves_nothing s) before)

abbrev pub deeds_behind : (before : List Step) → List Step → ℕ
deeds_behind before [] = 0
deeds_behind before (s ∷ rest) = (if is_deed before s then 1 else 0) + deeds_behind (before ++ s ∷ []) rest

-- how many of the steps are deeds
abbrev pub deeds : List Step → ℕ
deeds ss = deeds_behind [] ss
