use Rattle.std.proofs.Common.{◌≡◌, ◌∙◌, ◌+◌, ap, sym, refl, Some, None}
use Rattle.std.proofs.lemmas.Option.{slice_get_read}
use Rattle.std.specs.Prelude.{length, slice_get}
use Rattle.vx_resolved.specs.Settled.{settled}
use Rattle.vx_heap.specs.Views.{candidate}
use Rattle.vx_rules.specs.Codes.{code}
use Rattle.vx_rules.specs.Trees.{Tree}
use Rattle.vx_rules.specs.Chunks.{Candidate}
use Rattle.vx_rules.specs.Members.{rooted}
use Rattle.vx_rules.specs.Rules.{probe, never}
use Rattle.vx_states.specs.SymStates.{state}
use Rattle.vx_stack.specs.Stack.{finding, side_tree, verified_body, wanted}
use Rattle.vx_probes.proofs.Firsts.{one_left, stepped_by}
use Rattle.vx_probes.proofs.measures.root_from.Goals as goal

pub returns-in_ok-found-in-Some : goal.returns-in_ok-found-in-Some
returns-in_ok-found-in-Some c =
    let p = settled c.args.program.now in
    let x = c.args.search.now.value in
    let x1 = c.in_ok-clone-in-Some.field-0.value in
    let s = state c.args.state in
    let n = c.args.number + 1 in
    let k = c.in-Some.c.now in
    let found = side_tree p c.in_ok-found-in-Some.found in
    let there : slice_get x.candidates.items c.args.number ≡ Some k =
    ap (λ y. slice_get y.candidates.items c.args.number) (sym c.deref.ensures) ∙ ap (λ y. slice_get y c.args.number) (sym c.deref-2.ensures.value) ∙ slice_get_read c.deref-2.result.now (length c.deref-2.result.now) c.args.number k refl c.in-Some.ensures.lookup.3.0 c.in-Some.ensures.lookup.1 in
    let rest : Tree = finding x1 n s (λ (i : Candidate). verified_body p c.in_ok-clone-in-Some-2.field-0.value None (rooted i s)) (never x1.place (code x1.code) s) in
    let others : rest ≡ finding x n s (λ (i : Candidate). verified_body p c.args.v.now.value None (rooted i s)) (never x.place (code x.code) s) =
    ap (λ y. finding y n s (λ (i : Candidate). verified_body p c.in_ok-clone-in-Some-2.field-0.value None (rooted i s)) (never y.place (code y.code) s)) c.in_ok-clone-in-Some.ensures.cases
    ∙ ap (λ y. finding x n s (λ (i : Candidate). verified_body p y None (rooted i s)) (never x.place (code x.code) s)) c.in_ok-clone-in-Some-2.ensures.cases in
    stepped_by p c.probe_one.result _ _ _ c.probe_one.ensures _
    (one_left candidate x.candidates.items c.args.number k (wanted x) x.place (code x.code) s (λ (i : Candidate). verified_body p c.args.v.now.value None (rooted i s)) (never x.place (code x.code) s) found rest there (c.in_ok-found-in-Some.ensures p) others
    ∙ ap (λ y. probe (wanted y (candidate k).chunk) y.place (code y.code) s found rest) (sym c.deref-in-Some.ensures))
