use Rattle.std.proofs.Common.{◌∙◌, ap, sym, length}
use Rattle.vx_rules.specs.States.{with_store}
use Rattle.vx_states.specs.SymStates.{state}
use Rattle.vx_states.proofs.Pairs.{assigned_over, one_is_over}
use Rattle.vx_states.proofs.state.SymState.assign_all.Goals as goal

pub returns : goal.returns
returns c =
    let s = state c.loop-name.self in
    let xs = c.loop-name.name-iterator.a.rest.now in
    let ts = c.loop-name.name-iterator.b.rest.now in
    ap (λ l. with_store l s) (sym (assigned_over xs ts s.store (one_is_over (length xs) (length ts) c.in-None.ensures.steps))) ∙ c.loop-name.invariant
