use Rattle.std.proofs.Common.{◌++◌, [], ◌∷◌, map, sym, ap, ap₂, ◌∙◌}
use Rattle.std.proofs.lemmas.List.{map-append, map_more, take_all}
use Rattle.std.proofs.lemmas.Result.{IfOk-from_err}
use Rattle.vx_stack.specs.Stack.{side_tree}
use Rattle.vx_stack.proofs.conts.Conts.copy.Goals as goal

pub returns-in_err-copy : goal.returns-in_err-copy
returns-in_err-copy c = IfOk-from_err _ _ c.from_residual.ensures.0

pub returns-in_err-push : goal.returns-in_err-push
returns-in_err-push c = IfOk-from_err _ _ c.from_residual-in_err-push.ensures.0

pub loop-side-preserved : goal.loop-side-preserved
loop-side-preserved c p =
    ap (map (side_tree p)) c.in_ok-push.ensures.items
    ∙ map-append (side_tree p) c.loop-side.sides.items (c.in_ok-copy.field-0 ∷ [])
    ∙ ap₂ (λ xs y. xs ++ y ∷ []) (c.loop-side.invariant p) (c.in_ok-copy.ensures p ∙ ap (side_tree p) c.side-item.is)
    ∙ sym (map_more (side_tree p) c.deref-side-items.result.now c.loop-side.side-index c.side-item.result c.loop-side-test.true)

pub returns : goal.returns
returns c p = c.loop-side.invariant p ∙ ap (map (side_tree p)) (take_all c.loop-side.side-index c.deref-side-items.result.now c.loop-side-test.false ∙ c.deref-side-items.ensures.value)
