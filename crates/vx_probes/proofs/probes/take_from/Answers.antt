use Rattle.std.proofs.Common.{◌≡◌, ◌∙◌, ap, sym, refl, Some}
use Rattle.std.proofs.lemmas.Option.{slice_get_read}
use Rattle.std.specs.Prelude.{false, length, slice_get}
use Rattle.vx_resolved.specs.Settled.{settled}
use Rattle.vx_heap.specs.Views.{candidate, held_term}
use Rattle.vx_rules.specs.Codes.{code}
use Rattle.vx_rules.specs.Trees.{Tree}
use Rattle.vx_rules.specs.Chunks.{Candidate, reduced}
use Rattle.vx_rules.specs.Rules.{leads_inside, probe}
use Rattle.vx_states.specs.SymStates.{state}
use Rattle.vx_rules.specs.States.{State, with_heap}
use Rattle.vx_terms.specs.Terms.{Term}
use Rattle.vx_stack.specs.declared.frame.Taken.{Taken}
use Rattle.vx_stack.specs.Stack.{going, side_tree, taking_none, wanted, with_taken}
use Rattle.vx_terms.specs.Views.{sort}
use Rattle.vx_probes.proofs.Firsts.{one_left, stepped_by}
use Rattle.vx_probes.proofs.probes.take_from.Goals as goal

pub returns-in_ok-found-in-Some : goal.returns-in_ok-found-in-Some
returns-in_ok-found-in-Some c =
    let p = settled c.args.program.now in
    let x = c.args.search.now.value in
    let s = state c.args.state in
    let k = c.in-Some.c.now in
    let found = side_tree p c.in_ok-found-in-Some.found in
    let there : slice_get x.candidates.items c.args.number ≡ Some k =
    ap (λ y. slice_get y.candidates.items c.args.number) (sym c.deref.ensures) ∙ ap (λ y. slice_get y c.args.number) (sym c.deref-2.ensures.value) ∙ slice_get_read c.deref-2.result.now (length c.deref-2.result.now) c.args.number k refl c.in-Some.ensures.lookup.3.0 c.in-Some.ensures.lookup.1 in
    let on = λ (w : Taken) (t : Term) (i : Candidate). with_taken p w i.chunk.value (leads_inside i.chunk) (with_heap (reduced i t s.heap) s) in
    let a = held_term c.args.amount.now in
    let o = sort c.args.of.now in
    let w = c.args.after.now.value in
    let rest : Tree = going p c.in_ok-rest-in-Some.rest s in
    stepped_by p c.probe_one.result _ _ _ c.probe_one.ensures _
    (one_left candidate x.candidates.items c.args.number k (wanted x) x.place (code x.code) s (on w a) (taking_none a o x.place (code x.code) s (λ (v : Term) (s1 : State). with_taken p w v false s1)) found rest there (c.in_ok-found-in-Some.ensures p) (c.in_ok-rest-in-Some.ensures p s)
    ∙ ap (λ y. probe (wanted y (candidate k).chunk) y.place (code y.code) s found rest) (sym c.deref-in-Some.ensures))
