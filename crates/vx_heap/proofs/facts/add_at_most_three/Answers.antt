use Rattle.std.proofs.Common.{◌∙◌, ◌++◌, ◌∷◌, [], ap, sym}
use Rattle.std.proofs.lemmas.List.{map-append}
use Rattle.vx_terms.specs.Build.{less_equal, whole_amount}
use Rattle.vx_heap.specs.Views.{candidate, held_term, terms_of}
use Rattle.vx_heap.proofs.Heaps.{three_at_least}
use Rattle.vx_heap.proofs.facts.add_at_most_three.Goals as goal

pub returns-in_ok-push-in-len3-up : goal.returns-in_ok-push-in-len3-up
returns-in_ok-push-in-len3-up c =
    let facts = c.args.facts.now.items in
    let fact = c.in_ok-at_most_whole-in-len3-up.field-0 in
    ap terms_of c.in_ok-push-in-len3-up.ensures.items
    ∙ map-append held_term facts (fact ∷ [])
    ∙ ap (λ l. terms_of facts ++ l) (
    ap (λ t. t ∷ []) (c.in_ok-at_most_whole-in-len3-up.ensures ∙ ap (λ t. less_equal t whole_amount) c.in_ok-sum-in-len3-up.ensures)
    ∙ sym (three_at_least candidate (held_term c.args.receiver.now) c.args.candidates.now c.in-len3-up.len_at_least)
    )
