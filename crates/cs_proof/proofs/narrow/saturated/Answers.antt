use Rattle.std.proofs.Common.{◌++◌, [], ◌∷◌, map, sym, ap, ap₂, ◌∙◌}
use Rattle.std.proofs.lemmas.List.{map_more, take_all}
use Rattle.std.proofs.lemmas.Result.{IfOk-from_err}
use Rattle.cs_proof.specs.Prepared.{saturate}
use Rattle.cs_proof.proofs.narrow.saturated.Goals as goal

pub returns-in_err-push : goal.returns-in_err-push
returns-in_err-push c = IfOk-from_err _ _ c.from_residual.ensures.0

pub loop-hint-preserved : goal.loop-hint-preserved
loop-hint-preserved c =
    c.in_ok-push.ensures.items ∙ ap₂ (λ xs y. xs ++ y ∷ []) c.loop-hint.invariant c.saturate.ensures ∙ sym (map_more saturate c.args.hints.now c.loop-hint.hint-index 0 c.loop-hint-test.true)

pub returns : goal.returns
returns c = c.loop-hint.invariant ∙ ap (map saturate) (take_all c.loop-hint.hint-index c.args.hints.now c.loop-hint-test.false)
