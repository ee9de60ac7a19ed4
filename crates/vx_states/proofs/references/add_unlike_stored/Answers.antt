use Rattle.std.proofs.Common.{◌≡◌, ◌+◌, Bool, true, false, List, ◌∷◌, ◌++◌, map, drop, refl, sym, ap, ◌∙◌}
use Rattle.std.specs.Prelude.{if◌then◌else◌}
use Rattle.std.proofs.lemmas.List.{at_drop_more, drop_all}
use Rattle.vx_terms.specs.Terms.{Term}
use Rattle.vx_heap.specs.Views.{terms_of, held_term}
use Rattle.vx_rules.specs.States.{terms_in}
use Rattle.vx_rules.specs.Members.{is_ref, unlike, unlike_stored}
use Rattle.vx_states.specs.declared.state.Binding.{Binding}
use Rattle.vx_states.specs.SymStates.{binding}
use Rattle.vx_states.proofs.references.add_unlike_stored.Goals as goal

before_rest : (b : Bool) (t : Term) (us rest : List Term) → (if b then t ∷ (us ++ rest) else us ++ rest) ≡ (if b then t ∷ us else us) ++ rest
before_rest true t us rest = refl
before_rest false t us rest = refl

pub loop-b-preserved : goal.loop-b-preserved
loop-b-preserved c = λ rest.
    let x = held_term c.args.x.now in
    let t = held_term c.b-item.result.value in
    let store = c.args.store.now in
    let k = c.loop-b.b-index in
    let us = unlike_stored x (terms_in (map binding (drop (k + 1) store))) in
    let front = terms_of c.loop-b.facts.items in
    c.in_ok-add_unlike.ensures (us ++ rest)
    ∙ ap (λ l. front ++ l) (before_rest (is_ref t) (unlike x t) us rest)
    ∙ ap (λ (b : Binding). front ++ (unlike_stored x (terms_in (map binding (b ∷ drop (k + 1) store))) ++ rest)) c.b-item.is
    ∙ sym (at_drop_more (λ l. front ++ (unlike_stored x (terms_in (map binding l)) ++ rest)) store k c.b-item.result c.loop-b-test.true)
    ∙ c.loop-b.invariant rest

pub returns : goal.returns
returns c = λ rest.
    ap (λ l. terms_of c.loop-b.facts.items ++ (unlike_stored (held_term c.args.x.now) (terms_in (map binding l)) ++ rest)) (sym (drop_all _ c.args.store.now c.loop-b-test.false)) ∙ c.loop-b.invariant rest
