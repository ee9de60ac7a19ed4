use Rattle.std.proofs.Common.{◌≡◌, ◌||◌, true, false, arith, ap, subst, ◌∙◌}
use Rattle.std.proofs.lemmas.Result.{IfOk-weaker}
use Rattle.vx_heap.specs.Views.{held_term}
use Rattle.vx_terms.specs.Terms.{same}
use Rattle.vx_states.specs.Keys.{key_of}
use Rattle.vx_states.specs.Index.{is_even, down}
use Rattle.vx_states.proofs.Found.{AreTwo, even_is, odd_is, plus_one, below, in_one_place, first_even, first_odd, both_even, both_odd}
use Rattle.vx_states.proofs.index.+two.Goals as goal

pub returns-then-level-ge-LEVELS : goal.returns-then-level-ge-LEVELS
returns-then-level-ge-LEVELS s c = λ w.
    let t = held_term c.args.t.now in
    let u = held_term c.args.u.now in
    rw (c.in_ok-clone.ensures.cases, c.in_ok-rest.ensures.ok) (ap (λ b. same w t || b) (c.in_ok-alone.ensures (down c.args.level (key_of w 4)) w) ∙ in_one_place t u w)

pub two-requires : goal.two-requires
two-requires s c = (omega (arith, c.if-level-ge-LEVELS.false), (below c.args.level (key_of (held_term c.args.t.now) 4) c.args.key c.requires.key, below c.args.level (key_of (held_term c.args.u.now) 4) c.args.other c.requires.other))

pub returns-then-other-eq0 : goal.returns-then-other-eq0
returns-then-other-eq0 s c = λ w.
    let t = held_term c.args.t.now in
    let u = held_term c.args.u.now in
    let even = c.in_ok-even.even in
    rw c.in_ok-new.ensures.ok (
    both_even even c.in_ok-nothing.nothing.value c.args.level t u
    (subst (λ k. is_even k ≡ true) c.requires.key (even_is c.args.key c.if-key-eq0.true)) (subst (λ k. is_even k ≡ true) c.requires.other (even_is c.args.other c.if-other-eq0.true))
    c.in_ok-nothing.ensures.ok (subst (λ m. AreTwo even m t u) (plus_one c.args.level) c.in_ok-even.ensures) w)

pub returns-then-key-eq0 : goal.returns-then-key-eq0
returns-then-key-eq0 s c =
    IfOk-weaker c.apart.result _ _ (λ r h.
    first_even r c.args.level (held_term c.args.t.now) (held_term c.args.u.now)
    (subst (λ k. is_even k ≡ true) c.requires.key (even_is c.args.key c.if-key-eq0.true)) (subst (λ k. is_even k ≡ false) c.requires.other (odd_is c.args.other c.if-other-eq0.false)) h) c.apart.ensures

pub returns-then-other-eq0-2 : goal.returns-then-other-eq0-2
returns-then-other-eq0-2 s c =
    IfOk-weaker c.apart-then-other-eq0-2.result _ _ (λ r h.
    first_odd r c.args.level (held_term c.args.t.now) (held_term c.args.u.now)
    (subst (λ k. is_even k ≡ false) c.requires.key (odd_is c.args.key c.if-key-eq0.false)) (subst (λ k. is_even k ≡ true) c.requires.other (even_is c.args.other c.if-other-eq0-2.true)) h) c.apart-then-other-eq0-2.ensures

pub two-requires-2 : goal.two-requires-2
two-requires-2 s c = (omega (arith, c.if-level-ge-LEVELS.false), (below c.args.level (key_of (held_term c.args.t.now) 4) c.args.key c.requires.key, below c.args.level (key_of (held_term c.args.u.now) 4) c.args.other c.requires.other))

pub returns : goal.returns
returns s c = λ w.
    let t = held_term c.args.t.now in
    let u = held_term c.args.u.now in
    let odd = c.in_ok-odd.odd in
    rw c.in_ok-new-2.ensures.ok (
    both_odd odd c.in_ok-nothing-2.nothing.value c.args.level t u
    (subst (λ k. is_even k ≡ false) c.requires.key (odd_is c.args.key c.if-key-eq0.false)) (subst (λ k. is_even k ≡ false) c.requires.other (odd_is c.args.other c.if-other-eq0-2.false))
    c.in_ok-nothing-2.ensures.ok (subst (λ m. AreTwo odd m t u) (plus_one c.args.level) c.in_ok-odd.ensures) w)
