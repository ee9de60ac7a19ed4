use Rattle.std.proofs.Common.{◌≡◌, ◌∙◌, ◌+◌, ◌++◌, ap, map, take, drop, set, subst, sym}
use Rattle.std.proofs.lemmas.List.Edits.{map_over_more}
use Rattle.vx_resting.specs.Held.{rested}
use Rattle.vx_resting.proofs.resting.rest_runs.Goals as goal

pub loop-run-preserved : goal.loop-run-preserved
loop-run-preserved c =
    let old = c.args.runs.now in
    let i = c.loop-run.run-index in
    let change = rested c.args.held.now in
    subst (λ r. set c.loop-run.runs i r ≡ map change (take (i + 1) old) ++ drop (i + 1) old) (sym (c.rest_run.ensures ∙ ap change (sym c.run-item.is)))
    (map_over_more change old c.loop-run.runs i c.run-item.result c.loop-run-test.true c.loop-run.invariant c.run-item.is)
