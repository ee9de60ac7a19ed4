-- The parts of a term that are still to be looked at.
use Rattle.std.specs.Prelude.{ℕ, ◌+◌, Bool, true, ◌&&◌, List, [], ◌∷◌}
use Rattle.vx_terms.specs.Parts.{parts, parts_in}
use Rattle.vx_terms.specs.Views.{term, terms}
use Rattle.cs_writable.specs.Tests.{is_writable_term, are_writable_terms}
use Rattle.cs_writable.specs.declared.term_walk.Pending.{Pending}
use Rattle.cs_writable.specs.declared.term_walk.Pending.TheVariants as pending'

abbrev pub one_writable : Pending → Bool
one_writable (pending'.Term t) = is_writable_term (term t.now)
one_writable (pending'.Parts ts) = are_writable_terms (terms ts.now)

-- of a list, the last first
abbrev pub all_writable : List Pending → Bool
all_writable [] = true
all_writable (p ∷ ps) = all_writable ps && one_writable p

-- so many steps are enough to look at it
abbrev pub load_of : Pending → ℕ
load_of (pending'.Term t) = parts (term t.now)
load_of (pending'.Parts ts) = parts_in (terms ts.now)

abbrev pub load : List Pending → ℕ
load [] = 0
load (p ∷ ps) = load_of p + load ps
