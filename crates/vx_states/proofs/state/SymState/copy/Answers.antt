use Rattle.std.proofs.Common.{map, ap, ◌∙◌}
use Rattle.vx_heap.specs.Views.{heap}
use Rattle.vx_states.specs.SymStates.{binding, state, own}
use Rattle.vx_states.specs.Paths.{entries}
use Rattle.std.specs.Prelude.{option_map}
use Rattle.vx_states.proofs.state.SymState.copy.Goals as goal

pub returns : goal.returns
returns c =
    let s = state c.args.self.now in
    let h = heap c.in_ok-clone.field-0.value in
    let o = heap c.in_ok-clone-2.field-0.value in
    let p = entries c.in_ok-copy.field-0.path in
    let w = option_map own c.in_ok-copy_own.field-0 in
    ap (λ x. record s { store = x; heap = h; old = o; path = p; own = w }) (c.in_ok-copy_store.ensures ∙ ap (map binding) c.deref.ensures.value)
    ∙ ap (λ x. record s { heap = heap x; old = o; path = p; own = w }) c.in_ok-clone.ensures.cases
    ∙ ap (λ x. record s { old = heap x; path = p; own = w }) c.in_ok-clone-2.ensures.cases
    ∙ ap (λ x. record s { path = x; own = w }) c.in_ok-copy.ensures
    ∙ ap (λ x. record s { own = x }) c.in_ok-copy_own.ensures
