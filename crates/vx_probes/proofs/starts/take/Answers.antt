use Rattle.std.proofs.Common.{◌∙◌, ap, sym, Some, false}
use Rattle.vx_resolved.specs.Settled.{settled}
use Rattle.vx_heap.specs.Views.{heap, key, terms_of, held_term}
use Rattle.vx_rules.specs.Codes.{code}
use Rattle.vx_rules.specs.Chunks.{Candidate, candidates, reduced}
use Rattle.vx_rules.specs.Rules.{leads_inside}
use Rattle.vx_rules.specs.States.{State, with_heap}
use Rattle.vx_states.specs.SymStates.{state}
use Rattle.vx_stack.specs.declared.frame.Taken.{Taken}
use Rattle.vx_stack.specs.Stack.{finding, taking_none, with_taken}
use Rattle.vx_terms.specs.Terms.{Term}
use Rattle.vx_terms.specs.Views.{sort, term}
use Rattle.vx_probes.proofs.Firsts.{searched, stepped_by}
use Rattle.vx_probes.proofs.starts.take.Goals as goal

pub returns : goal.returns
returns c =
    let p = settled c.args.program.now in
    let a = held_term c.args.amount.now in
    let o = sort c.args.of.now in
    let k = key c.args.resource.now c.args.arguments.items in
    let s = state c.args.state in
    let x = c.in_ok-wanted.wanted.value in
    let found = c.in_ok-wanted.ensures in
    let on = λ (w : Taken) (i : Candidate). with_taken p w i.chunk.value (leads_inside i.chunk) (with_heap (reduced i a s.heap) s) in
    let none = λ (w : Taken) (v : Term) (s1 : State). with_taken p w v false s1 in
    stepped_by p c.take_from.result _ _ _ c.take_from.ensures _
    (searched x c.args.place (code c.args.code) (Some a) (terms_of c.args.arguments.items) (candidates k s.heap) s (on c.args.after) (λ at y. taking_none a o at y s (none c.args.after))
    found.place (ap code found.code) found.arguments (found.amount ∙ ap (λ y. Some (term y)) c.in_ok-clone.ensures.cases)
    (found.candidates ∙ ap (λ y. candidates k (heap y)) c.deref.ensures)
    ∙ ap (λ w. finding x 0 s (on w) (taking_none a o x.place (code x.code) s (none w))) (sym c.in_ok-after.ensures.ok))
