use Rattle.std.proofs.Common.{arith, ap}
use Rattle.std.proofs.lemmas.Grind.{common_steps}
use Rattle.std.proofs.lemmas.Simd.{map-map}
use Rattle.vx_frac.specs.Fraction.{fraction}
use Rattle.cs_proof.specs.Views.{numbered}
use Rattle.cs_text.specs.Text.{listed, literal_text, multiplier_text}
use Rattle.cs_text.proofs.text.put_farkas.Goals as goal

pub returns : goal.returns
returns c =
    let literals = ap listed (map-map literal_text numbered c.args.literals.now) in
    let multipliers = ap listed (map-map multiplier_text fraction c.args.multipliers.now) in
    grind (arith, common_steps)
