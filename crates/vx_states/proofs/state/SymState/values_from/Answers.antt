use Rattle.std.proofs.Common.{◌∙◌, ap, sym, map, drop, arith}
use Rattle.std.proofs.lemmas.List.{take_rest}
use Rattle.std.proofs.lemmas.Result.{IfOk-weaker}
use Rattle.vx_heap.specs.Views.{terms_of}
use Rattle.vx_rules.specs.States.{terms_in}
use Rattle.vx_states.specs.SymStates.{binding}
use Rattle.vx_states.proofs.Pairs.{no_values, values_dropped}
use Rattle.vx_states.proofs.state.SymState.values_from.Goals as goal

pub returns-then-first-len : goal.returns-then-first-len
returns-then-first-len c =
    let n = c.args.first in
    let xs = c.deref.result.now in
    IfOk-weaker c.values_in.result _ _
    (λ v h. h ∙ ap (λ y. terms_in (map binding y)) (take_rest xs n) ∙ ap (λ y. terms_in (map binding (drop n y))) c.deref.ensures.value ∙ values_dropped n c.args.self.now.store.items)
    c.values_in.ensures

pub returns : goal.returns
returns c =
    ap terms_of c.new.ensures.items
    ∙ sym (no_values c.args.first c.args.self.now.store.items (omega (arith, c.if-first-len.false, c.len.ensures)))
