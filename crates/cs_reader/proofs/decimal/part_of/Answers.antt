use Rattle.std.proofs.Common.{rules, arith, ◌≡◌, ◌++◌, ◌∷◌, [], Some, None}
use Rattle.std.proofs.lemmas.Grind.{common_steps}
use Rattle.vx_frac.specs.Fraction.{fraction}
use Rattle.cs_reader.specs.Spelling.{led_by}
use Rattle.cs_reader.proofs.Lists.{part_goes_on, part_fails}
use Rattle.cs_reader.proofs.decimal.part_of.Goals as goal

pub loop-last-preserved : goal.loop-last-preserved
loop-last-preserved c =
    let split : c.loop-last.rest.now ≡ c.in-Some.front.now ++ c.in-Some.last.now ∷ [] = search rules in
    let led : led_by c.in-Some.last.now (fraction c.loop-last.part) ≡ Some (fraction c.in_ok-part.part) = search rules in
    part_goes_on _ _ _ _ _ _ c.loop-last.invariant split led

pub returns-in_err-part : goal.returns-in_err-part
returns-in_err-part c =
    let split : c.loop-last.rest.now ≡ c.in-Some.front.now ++ c.in-Some.last.now ∷ [] = search rules in
    let led : led_by c.in-Some.last.now (fraction c.loop-last.part) ≡ None = search rules in
    let none = part_fails _ _ _ _ _ c.loop-last.invariant split led in
    search rules

pub returns : goal.returns
returns c = grind (arith, common_steps)
