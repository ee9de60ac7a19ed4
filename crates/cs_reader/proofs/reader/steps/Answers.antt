use Rattle.std.proofs.Common.{◌≡◌, ◌+◌, ◌-◌, [], ◌∷◌, ◌++◌, length, map, refl, sym, ap, ◌∙◌}
use Rattle.std.proofs.lemmas.List.{map-append}
use Rattle.cs_reader.specs.Steps.{step}
use Rattle.cs_reader.specs.Reading.{with_steps, steps_for}
use Rattle.cs_reader.proofs.Loops.{last_step, bad_step, good_step}
use Rattle.cs_reader.proofs.reader.steps.Goals as goal

pub returns-then-is_end : goal.returns-then-is_end
returns-then-is_end c =
    last_step _ (length c.args.tokens.now) c.loop-n.n c.loop-n.rest.now _ c.loop-n-test.true c.loop-n.invariant (sym c.is_end.ensures ∙ c.if-is_end.true)

pub returns-in-Err-Form : goal.returns-in-Err-Form
returns-in-Err-Form c =
    let e = rw c.in-Err-Form.field-0-is at c.in-Err-Form.ensures in
    (c.loop-n.n, refl, bad_step _ (length c.args.tokens.now) c.loop-n.n c.loop-n.rest.now _ c.loop-n-test.true c.loop-n.invariant (sym c.is_end.ensures ∙ c.if-is_end.false) e)

pub loop-n-preserved : goal.loop-n-preserved
loop-n-preserved c =
    let p : c.push.new.self.items ≡ c.loop-n.found.items ++ c.in-Ok.read ∷ [] = c.in_ok-push-in-Ok.ensures.items in
    ap (λ ss. with_steps ss (steps_for (length c.args.tokens.now - (c.loop-n.n + 1)) (c.loop-n.n + 1) c.in-Ok.behind.now))
    (ap (map step) p ∙ map-append step c.loop-n.found.items (c.in-Ok.read ∷ []))
    ∙ good_step _ (step c.in-Ok.read) (length c.args.tokens.now) c.loop-n.n c.loop-n.rest.now _ _ c.loop-n-test.true c.loop-n.invariant (sym c.is_end.ensures ∙ c.if-is_end.false) c.in-Ok.ensures
