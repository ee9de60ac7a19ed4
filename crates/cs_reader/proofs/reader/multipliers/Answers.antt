use Rattle.std.proofs.Common.{◌≡◌, ◌+◌, ◌-◌, [], ◌∷◌, ◌++◌, length, map, ap, ◌∙◌}
use Rattle.std.proofs.lemmas.List.{map-append}
use Rattle.vx_frac.specs.Fraction.{fraction}
use Rattle.cs_reader.specs.Items.{with_front, items_for}
use Rattle.cs_reader.specs.Reading.{more_at}
use Rattle.cs_reader.proofs.Loops.{stops_here, ends_here, goes_on}
use Rattle.cs_reader.proofs.reader.multipliers.Goals as goal

pub returns-in-Ok-None-default : goal.returns-in-Ok-None-default
returns-in-Ok-None-default c =
    let e = rw c.in-Ok-None-default.field-0-0-is at c.in-Ok-None-default.ensures in
    ends_here more_at _ (length c.args.tokens.now) c.loop-count.count c.loop-count.rest.now _ _ c.loop-count-test.true c.loop-count.invariant e

pub returns-in-Err : goal.returns-in-Err
returns-in-Err c =
    stops_here more_at _ (length c.args.tokens.now) c.loop-count.count c.loop-count.rest.now c.in-Err.stop _ c.loop-count-test.true c.loop-count.invariant c.in-Err.ensures

pub loop-count-preserved : goal.loop-count-preserved
loop-count-preserved c =
    let e = rw c.in-Ok-Some-default.field-0-0-is at c.in-Ok-Some-default.ensures in
    let p : c.push.new.self.items ≡ c.loop-count.found.items ++ c.in-Ok-Some-default.amount ∷ [] = c.in_ok-push-in-Ok-Some-default.ensures.items in
    ap (λ xs. with_front xs (items_for more_at (length c.args.tokens.now - (c.loop-count.count + 1)) c.in-Ok-Some-default.behind.now))
    (ap (map fraction) p ∙ map-append fraction c.loop-count.found.items (c.in-Ok-Some-default.amount ∷ []))
    ∙ goes_on more_at _ (fraction c.in-Ok-Some-default.amount) (length c.args.tokens.now) c.loop-count.count c.loop-count.rest.now _ _ c.loop-count-test.true c.loop-count.invariant e
