use Rattle.std.proofs.Common.{◌≡◌, [], length, map, sym, ap, ◌∙◌}
use Rattle.std.proofs.lemmas.List.{length-map}
use Rattle.vx_resolved.specs.Resolved.{declaration}
use Rattle.vx_rules.specs.States.{declare_all, leave, with_heap}
use Rattle.vx_states.specs.SymStates.{state}
use Rattle.vx_members.proofs.member.promise_state.Goals as goal

pub returns : goal.returns
returns c =
    let m = c.args.m.now in
    let k : c.len.result ≡ length (map declaration m.parameters.items) = c.len.ensures ∙ m.parameters.ok.0 ∙ sym (length-map m.parameters.items declaration) in
    let s : state c.clear_heap.new.self ≡ with_heap [] (state c.args.state) = c.in_ok-clear_heap.ensures in
    let l : state c.leave.new.self ≡ leave (length (map declaration m.parameters.items)) (with_heap [] (state c.args.state)) =
    c.leave.ensures ∙ ap (λ n. leave n (state c.clear_heap.new.self)) k ∙ ap (leave (length (map declaration m.parameters.items))) s in
    c.in_ok-declare_all.ensures ∙ ap (λ d. declare_all (map declaration d) (state c.leave.new.self)) c.deref.ensures.value
    ∙ ap (declare_all (map declaration m.returns.items)) l
