use Rattle.std.proofs.Common.{◌≡◌, ◌+◌, true, false, subst}
use Rattle.vx_heap.specs.Views.{held_term}
use Rattle.vx_states.specs.Index.{is_even, IsExtended}
use Rattle.vx_states.proofs.Found.{even_is, odd_is, plus_one, on_even, on_odd}
use Rattle.vx_states.proofs.index.+with_term.Goals as goal

pub returns-in_ok-clone-in-Branch : goal.returns-in_ok-clone-in-Branch
returns-in_ok-clone-in-Branch s c = λ w.
    let t = held_term c.args.t.now in
    let even = c.in-Branch.even.value in
    rw (c.in-Branch.is, c.in_ok-new-in-Branch.ensures.ok, c.in_ok-clone-in-Branch.ensures.cases) (
    on_even even c.in-Branch.odd.value c.in_ok-even-in-Branch.even c.args.level t (subst (λ k. is_even k ≡ true) c.requires (even_is c.args.key c.if-key-eq0.true))
    (subst (λ m. IsExtended even c.in_ok-even-in-Branch.even m t) (plus_one c.args.level) (subst (λ i. IsExtended i c.in_ok-even-in-Branch.even (c.args.level + 1) t) c.deref-then-key-eq0.ensures c.in_ok-even-in-Branch.ensures)) w)

pub returns-in_ok-new-in-Branch-2 : goal.returns-in_ok-new-in-Branch-2
returns-in_ok-new-in-Branch-2 s c = λ w.
    let t = held_term c.args.t.now in
    let odd = c.in-Branch.odd.value in
    rw (c.in-Branch.is, c.in_ok-new-in-Branch-2.ensures.ok, c.in_ok-clone-in-Branch-2.ensures.cases) (
    on_odd c.in-Branch.even.value odd c.in_ok-odd-in-Branch.odd c.args.level t (subst (λ k. is_even k ≡ false) c.requires (odd_is c.args.key c.if-key-eq0.false))
    (subst (λ m. IsExtended odd c.in_ok-odd-in-Branch.odd m t) (plus_one c.args.level) (subst (λ i. IsExtended i c.in_ok-odd-in-Branch.odd (c.args.level + 1) t) c.deref-else-key-eq0.ensures c.in_ok-odd-in-Branch.ensures)) w)
