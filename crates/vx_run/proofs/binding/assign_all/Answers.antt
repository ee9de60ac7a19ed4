use Rattle.std.proofs.Common.{◌∙◌, sym, length}
use Rattle.vx_run.specs.Stores.{store}
use Rattle.vx_run.proofs.Bindings.{assigned_over, one_is_over}
use Rattle.vx_run.proofs.binding.assign_all.Goals as goal

pub returns : goal.returns
returns c =
    let xs = c.loop-name.name-iterator.a.rest.now in
    let vs = c.loop-name.name-iterator.b.rest.now in
    sym (assigned_over xs vs (store c.loop-name.variables.items) (one_is_over (length xs) (length vs) c.in-None.ensures.steps)) ∙ c.loop-name.invariant
