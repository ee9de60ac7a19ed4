use Rattle.std.proofs.Common.{◌≡◌, ◌∙◌, ◌∷◌, ◌++◌, ◌&&◌, ap, true, false}
use Rattle.vx_rules.specs.Chunks.{at_most_three, bounding, chosen, first_argument}
use Rattle.vx_heap.specs.Heaps.{apart_onto, rest_of, sum_fact}
use Rattle.vx_heap.specs.Views.{candidate, candidates_of, chunk, heap, shared, terms_of}
use Rattle.vx_heap.proofs.Picked.{apart_chosen}
use Rattle.vx_heap.proofs.facts.add_behind.Goals as goal

pub returns : goal.returns
returns c =
    let s = c.args.summed in
    let b = c.args.bounded in
    let w = shared c.args.whole.chunk in
    let h = heap c.args.held.now in
    let facts = terms_of c.args.facts.now.items in
    let rest = sum_fact (s && b) c.args.whole.number w h in
    let others : candidates_of c.in_ok-others.others.items ≡ chosen false w 0 h = c.in_ok-others.ensures ∙ ap (λ v. chosen false (chunk v) 0 h) c.deref.ensures in
    c.in_ok-add_sum.ensures
    ∙ ap (λ os. terms_of c.add_apart.new.facts.items ++ bounding (s && b) (at_most_three (first_argument w.arguments) (candidate c.args.whole ∷ (rest_of (chosen true w 0 h) ++ os)))) others
    ∙ c.in_ok-add_apart.ensures rest
    ∙ ap (λ v. facts ++ apart_onto s b (chunk v) (candidates_of c.deref-3.result.now) rest) c.deref-2.ensures
    ∙ ap (λ os. facts ++ apart_onto s b w os rest) (ap candidates_of c.deref-3.ensures.value ∙ others)
    ∙ ap (λ l. facts ++ l) (apart_chosen s b w 0 h rest)
