-- The example: its asking tree, and that its precondition is held firmly.
use Rattle.std.proofs.Common.{◌≡◌, ℕ, ℤ, pos, true, false, None, refl}
use Rattle.vx_terms.specs.Interpretations.{IntLeaf, Pair}
use Rattle.vx_sound_funcs.specs.Told.{precondition_of}
use Rattle.vx_sound.specs.Snapshots.{assertion_tree, tree_by}
use Rattle.vx_sound_preds.specs.Covered.{IsProper}
use Rattle.vx_sound_funcs.specs.Firm.{HoldsFirmly}
use Rattle.vx_sound_preds.specs.Asking.{IsAskingTreeOf}
use Rattle.vx_sound_funcs.specs.AskingExamples.{part, parts, tagged, both_held}

pub its_tree : (z : ℤ) → IsAskingTreeOf tagged (both_held z) (precondition_of parts) (Pair (IntLeaf (pos 0)) (IntLeaf z))
its_tree z = (1, refl)

pub no_tree : (z : ℤ) (n : ℕ) → assertion_tree tagged (tree_by tagged n (both_held z).heap) (both_held z) (precondition_of parts) ≡ None
no_tree z n = refl

not_held : {A : Type 0} (e : false ≡ true) → A
not_held e = cc

pub held_firmly : (z : ℤ) → HoldsFirmly tagged (IsProper tagged part) (precondition_of parts) (both_held z)
held_firmly z = record { given = (2, both_held z, refl, refl); rigid = (tt, tt); good = λ i e. not_held e }
