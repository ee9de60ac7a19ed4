use Rattle.std.proofs.Common.{◌∙◌, ◌++◌, ap, sym, map, length, append-nil}
use Rattle.vx_states.specs.SymStates.{binding}
use Rattle.vx_states.proofs.Pairs.{bound_over, one_is_over}
use Rattle.vx_states.proofs.entering.bound.Goals as goal

pub returns : goal.returns
returns c =
    let store = map binding c.loop-parameter.store.items in
    let ds = c.loop-parameter.parameter-iterator.a.rest.now in
    let ts = c.loop-parameter.parameter-iterator.b.rest.now in
    sym (append-nil store) ∙ ap (λ l. store ++ l) (sym (bound_over ds ts (one_is_over (length ds) (length ts) c.in-None.ensures.steps))) ∙ c.loop-parameter.invariant
