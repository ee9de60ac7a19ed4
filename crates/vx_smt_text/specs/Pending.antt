-- What is still to be written of a term.
use Rattle.std.specs.Prelude.{⊤, ℕ, ◌+◌, ◌*◌, List, [], ◌∷◌, ◌++◌, codes}
use Rattle.vx_terms.specs.Parts.{parts, parts_in}
use Rattle.vx_terms.specs.Views.{term, terms}
use Rattle.vx_smt_text.specs.Text.{term_text, terms_text}
use Rattle.vx_smt_text.specs.Small.{IsSmallTerm, AreSmallTerms}
use Rattle.vx_smt_text.specs.declared.terms.Pending.{Pending}
use Rattle.vx_smt_text.specs.declared.terms.Pending.TheVariants as pending'

abbrev pub pending_text : Pending → List ℕ
pending_text (pending'.Term t) = term_text (term t.now)
pending_text (pending'.Next t) = codes " " ++ term_text (term t.now)
pending_text (pending'.Args ts) = terms_text (terms ts.now)
pending_text pending'.Close = codes ")"

-- of a list, the last first
abbrev pub texts : List Pending → List ℕ
texts [] = []
texts (p ∷ ps) = texts ps ++ pending_text p

-- so many steps are enough to write it
abbrev pub load_of : Pending → ℕ
load_of (pending'.Term t) = 4 * parts (term t.now)
load_of (pending'.Next t) = 1 + 4 * parts (term t.now)
load_of (pending'.Args ts) = 4 * parts_in (terms ts.now)
load_of pending'.Close = 1

abbrev pub load : List Pending → ℕ
load [] = 0
load (p ∷ ps) = load_of p + load ps

-- its numbers fit
abbrev pub IsSmallPending : Pending → Type 0
IsSmallPending (pending'.Term t) = IsSmallTerm (term t.now)
IsSmallPending (pending'.Next t) = IsSmallTerm (term t.now)
IsSmallPending (pending'.Args ts) = AreSmallTerms (terms ts.now)
IsSmallPending pending'.Close = ⊤

abbrev pub ArePendingSmall : List Pending → Type 0
ArePendingSmall [] = ⊤
ArePendingSmall (p ∷ ps) = IsSmallPending p × ArePendingSmall ps
