-- One byte of a run.
use Rattle.std.proofs.Common.{◌≡◌, ℕ, List, ◌∷◌, ◌+◌, ◌<◌, length, drop, get_or, add-one, arith, sym, ap}
use Rattle.std.proofs.Math.Seq.{drop-cons}
use Rattle.std.proofs.lemmas.Grind.{common_steps}
use Rattle.vx_sexp.specs.declared.scan.Mode.{Mode}
use Rattle.vx_sexp.specs.declared.scan.Mode.TheVariants as mode
use Rattle.vx_sexp.specs.declared.scan.Move.TheVariants as move
use Rattle.vx_sexp.specs.Scanning.{move_of, scan, scan_by}
use Rattle.vx_sexp.specs.Views.{family}

in_family : (m n : Mode) (b : ℕ) → move.On n ≡ move_of m b → family n ≡ family m
unfolding move_of
in_family mode.Space n b e = grind (arith, common_steps)
in_family mode.Comment n b e = grind (arith, common_steps)
in_family mode.Word n b e = grind (arith, common_steps)
in_family mode.Text n b e = grind (arith, common_steps)
in_family mode.Quote n b e = grind (arith, common_steps)
in_family mode.Bars n b e = grind (arith, common_steps)

pub run_step : (m n : Mode) (b : ℕ) (bs : List ℕ) → move.On n ≡ move_of m b → (scan m (b ∷ bs) ≡ scan n bs) × (family n ≡ family m)
unfolding scan
run_step m n b bs e = (ap (λ x. scan_by x b bs (λ k. scan k bs)) (sym e), in_family m n b e)

pub at_byte : (bytes : List ℕ) (i : ℕ) → i < length bytes → drop i bytes ≡ get_or bytes i 0 ∷ drop (i + 1) bytes
at_byte bytes i e = rw add-one (drop-cons bytes i 0 e)
