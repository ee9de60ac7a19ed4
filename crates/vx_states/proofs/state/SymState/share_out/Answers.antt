use Rattle.std.proofs.Common.{◌≡◌, ◌∙◌, ◌∷◌, ◌+◌, suc, ap, ap₂, sym, drop, drop-cons, arith}
use Rattle.vx_heap.specs.Views.{candidates_of, held_term}
use Rattle.vx_rules.specs.Chunks.{shared_out}
use Rattle.vx_states.specs.SymStates.{state}
use Rattle.vx_states.proofs.state.SymState.share_out.Goals as goal

pub loop-candidate-preserved : goal.loop-candidate-preserved
loop-candidate-preserved c =
    let r = held_term c.args.receiver.now in
    let all = c.args.candidates.now in
    let i = c.loop-candidate.candidate-index in
    let item = c.candidate-item.result in
    let rest = drop (i + 1) all in
    let next : suc i ≡ i + 1 = omega arith in
    let here : drop i all ≡ item ∷ rest = drop-cons all i item c.loop-candidate-test.true ∙ ap₂ (λ x n. x ∷ drop n all) (sym c.candidate-item.is) next in
    ap (λ t. shared_out r t (candidates_of rest) (state c.take_share.new.self)) c.in_ok-wanted-2.ensures
    ∙ c.in_ok-taken.ensures (candidates_of rest)
    ∙ sym (ap (λ l. shared_out r (held_term c.loop-candidate.wanted) (candidates_of l) (state c.loop-candidate.self)) here)
    ∙ c.loop-candidate.invariant
