-- The parts of a term whose symbols are still to be added.
use Rattle.std.specs.Prelude.{ℕ, ◌+◌, List, [], ◌∷◌}
use Rattle.vx_terms.specs.Parts.{parts, parts_in}
use Rattle.vx_terms.specs.Views.{term, terms}
use Rattle.vx_smt_meaning.specs.Commands.{Declared}
use Rattle.vx_dialogue.specs.Symbols.{with_variables, with_all_variables}
use Rattle.vx_dialogue.specs.declared.pending.Pending.{Pending}
use Rattle.vx_dialogue.specs.declared.pending.Pending.TheVariants as pending'

abbrev pub with_one : List Declared → Pending → List Declared
with_one ds (pending'.Term t) = with_variables ds (term t.now)
with_one ds (pending'.Parts ts) = with_all_variables ds (terms ts.now)

-- of a list, the last first
abbrev pub with_pending : List Declared → List Pending → List Declared
with_pending ds [] = ds
with_pending ds (p ∷ ps) = with_one (with_pending ds ps) p

-- so many steps are enough to add them
abbrev pub load_of : Pending → ℕ
load_of (pending'.Term t) = parts (term t.now)
load_of (pending'.Parts ts) = parts_in (terms ts.now)

abbrev pub load : List Pending → ℕ
load [] = 0
load (p ∷ ps) = load_of p + load ps
