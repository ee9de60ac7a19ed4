use Rattle.std.proofs.Common.{◌∙◌, ◌++◌, ap, sym, length, append-nil}
use Rattle.vx_run.specs.Stores.{store}
use Rattle.vx_run.proofs.Bindings.{bound_over, one_is_over}
use Rattle.vx_run.proofs.binding.bind.Goals as goal

pub returns : goal.returns
returns c =
    let s = store c.loop-d.variables.items in
    let ds = c.loop-d.d-iterator.a.rest.now in
    let vs = c.loop-d.d-iterator.b.rest.now in
    sym (append-nil s) ∙ ap (λ l. s ++ l) (sym (bound_over ds vs (one_is_over (length ds) (length vs) c.in-None.ensures.steps))) ∙ c.loop-d.invariant
