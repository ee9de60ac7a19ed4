use Rattle.std.proofs.Common.{◌∙◌, ap}
use Rattle.std.specs.Prelude.{false}
use Rattle.vx_heap.specs.Views.{held_term}
use Rattle.vx_rules.specs.Codes.{code}
use Rattle.vx_rules.specs.Chunks.{Candidate, reduced}
use Rattle.vx_rules.specs.Rules.{leads_inside}
use Rattle.vx_rules.specs.States.{State, with_heap}
use Rattle.vx_terms.specs.Sorts.{Sort}
use Rattle.vx_terms.specs.Terms.{Term}
use Rattle.vx_terms.specs.Views.{sort, term}
use Rattle.vx_stack.specs.declared.frame.Taken.{Taken}
use Rattle.vx_stack.specs.declared.waiting.Search.{Search}
use Rattle.vx_stack.specs.Stack.{finding, taking_none, with_taken}
use Rattle.vx_probes.proofs.probes.taking_on.Goals as goal

pub returns : goal.returns
returns c = λ p s.
    let on = λ (w : Taken) (t : Term) (i : Candidate). with_taken p w i.chunk.value (leads_inside i.chunk) (with_heap (reduced i t s.heap) s) in
    let others = λ (x : Search) (t : Term) (o : Sort) (w : Taken). finding x c.args.number s (on w t) (taking_none t o x.place (code x.code) s (λ (v : Term) (s1 : State). with_taken p w v false s1)) in
    let x = c.args.search.now.value in
    let a = held_term c.args.amount.now in
    let a1 = held_term c.in_ok-clone-2.field-0 in
    let o1 = sort c.in_ok-copy.field-0 in
    let w1 = c.in_ok-clone-3.field-0.value in
    ap (λ y. others y a1 o1 w1) c.in_ok-clone.ensures.cases
    ∙ ap (λ y. others x (term y) o1 w1) c.in_ok-clone-2.ensures.cases
    ∙ ap (λ y. others x a y w1) c.in_ok-copy.ensures
    ∙ ap (λ y. others x a (sort c.args.of.now) y) c.in_ok-clone-3.ensures.cases
