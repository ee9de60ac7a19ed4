use Rattle.std.proofs.Common.{◌∙◌, ap, map, ◌∷◌, ◌++◌}
use Rattle.vx_heap.specs.Views.{heap, terms_of, held_term}
use Rattle.vx_rules.specs.Members.{unlike, unlike_stored, unlike_held}
use Rattle.vx_rules.specs.States.{terms_in}
use Rattle.vx_states.specs.SymStates.{binding}
use Rattle.vx_states.proofs.Stores.{all_added}
use Rattle.vx_terms.specs.Build.{null}
use Rattle.vx_states.proofs.state.SymState.distinct.Goals as goal

pub returns : goal.returns
returns c =
    let x = held_term c.args.x.now in
    all_added _ _ _ _ _ _ _ _ _ (ap terms_of c.new-facts.ensures.items) c.in_ok-add_not_null.ensures c.in_ok-add_unlike_stored.ensures c.in_ok-add_unlike.ensures c.in_ok-add_unlike-2.ensures
    ∙ ap (λ y. unlike x null ∷ ((unlike_stored x (terms_in (map binding y)) ++ unlike_held x (heap c.deref-2.result.now)) ++ unlike_held x (heap c.deref-3.result.now))) c.deref.ensures.value
    ∙ ap (λ y. unlike x null ∷ ((unlike_stored x (terms_in (map binding c.args.self.now.store.items)) ++ unlike_held x (heap y)) ++ unlike_held x (heap c.deref-3.result.now))) c.deref-2.ensures
    ∙ ap (λ y. unlike x null ∷ ((unlike_stored x (terms_in (map binding c.args.self.now.store.items)) ++ unlike_held x (heap c.args.self.now.heap.value)) ++ unlike_held x (heap y))) c.deref-3.ensures
