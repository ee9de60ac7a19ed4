use Rattle.std.proofs.Common.{rules, ◌≡◌, ◌<◌, ◌+◌, false, ◌++◌, ◌∷◌, [], List, ℕ, length, refl, subst}
use Rattle.vx_ends.specs.Dialogue.{sent}
use Rattle.vx_smt_meaning.specs.Commands.{CheckSat}
use Rattle.vx_smt_text.specs.Text.{command_text}
use Rattle.vx_dialogue.proofs.Told.{waits_sent}
use Rattle.vx_dialogue.proofs.History.{gathers_tells, breaks_longer, tells_longer, check_tells, breaks_want, breaks_link}
use Rattle.std.proofs.lemmas.Result.{err_from_is_err_and}
use Rattle.vx_dialogue.proofs.Steady.{calm_steady}
use Rattle.vx_dialogue.proofs.dialogue.Dialogue.send_check.Goals as goal

pub returns-clause-told : goal.returns-clause-told
returns-clause-told g c = λ commands checks told.
    let dialogue = g.L.Link.dialogue in
    let room = c.make_room.new.self in
    let before = c.in_ok-make_room.ensures.told commands checks told in
    let sent_on : sent (dialogue c.send_all.new.link) ≡ sent (dialogue room.link) ++ (room.batch.items ++ command_text CheckSat) = search rules in
    let cleared : c.clear.new.self.items ≡ [] = search rules in
    waits_sent dialogue room _ c.send_all.ensures.pieces c.in_ok-make_room.ensures.count sent_on cleared refl refl c.send_all.ensures.got refl commands checks before

pub returns-in_err-make_room-clause-fault : goal.returns-in_err-make_room-clause-fault
returns-in_err-make_room-clause-fault g c = let p = err_from_is_err_and c.from_residual.result c.from_residual.ensures.1 in rw (p.1, p.2) (λ commands checks told named.
    breaks_longer _ commands (CheckSat ∷ []) (g.L.Link.dialogue c.make_room.new.self.link) checks (c.in_err-make_room.ensures.fault commands checks told named))

pub returns-in_err-write-clause-fault : goal.returns-in_err-write-clause-fault
returns-in_err-write-clause-fault g c = let p = err_from_is_err_and c.from_residual-in_err-write.result c.from_residual-in_err-write.ensures.1 in rw p.1 (λ commands checks told named.
    breaks_want p.0 (commands ++ CheckSat ∷ []) _ checks p.2 (tells_longer false commands (CheckSat ∷ []) _ checks (gathers_tells g.L.Link.dialogue c.make_room.new.self commands checks (c.in_ok-make_room.ensures.told commands checks told))))

pub returns-in_err-send_all-clause-fault : goal.returns-in_err-send_all-clause-fault
returns-in_err-send_all-clause-fault g c =
    let dialogue = g.L.Link.dialogue in
    let room = c.make_room.new.self in
    let batch : c.deref.result.now ≡ room.batch.items ++ command_text CheckSat = search rules in
    let begun = subst (λ x. (rest : List ℕ) × (sent (dialogue c.send_all.new.link) ++ rest ≡ sent (dialogue room.link) ++ x)) batch c.send_all.ensures.begun in
    let part = subst (λ x. length (sent (dialogue c.send_all.new.link)) < length (sent (dialogue room.link)) + length x) batch (c.send_all.ensures.part (search rules)) in
    let p = err_from_is_err_and c.from_residual-in_err-send_all.result c.from_residual-in_err-send_all.ensures.1 in rw p.1 (λ commands checks told named.
    breaks_link _ p.0 (commands ++ CheckSat ∷ []) (dialogue c.send_all.new.link) checks p.2
    (check_tells dialogue room commands checks (dialogue c.send_all.new.link) c.send_all.ensures.pieces c.in_ok-make_room.ensures.count begun part c.send_all.ensures.got (c.in_ok-make_room.ensures.told commands checks told)))

pub returns-in_err-send_all-clause-steady : goal.returns-in_err-send_all-clause-steady
returns-in_err-send_all-clause-steady g c = λ steady commands checks told named.
    let room = c.make_room.new.self.link in
    let ready = c.make_room.ensures.steady steady commands checks told named in
    calm_steady g.L.Link.steady g.L.Link.faults room c.send_all.new.link _ _ c.send_all.ensures.fixed (c.send_all.ensures.steady ready.0 ready.1) ready

pub returns-clause-steady : goal.returns-clause-steady
returns-clause-steady g c = λ steady commands checks told named.
    let room = c.make_room.new.self.link in
    let ready = c.make_room.ensures.steady steady commands checks told named in
    calm_steady g.L.Link.steady g.L.Link.faults room c.send_all.new.link _ _ c.send_all.ensures.fixed (c.send_all.ensures.steady ready.0 ready.1) ready
