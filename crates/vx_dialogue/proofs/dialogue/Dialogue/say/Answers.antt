use Rattle.std.proofs.Common.{rules, ◌≡◌, ◌++◌, refl}
use Rattle.vx_smt_meaning.specs.Views.{command}
use Rattle.vx_smt_text.specs.Text.{command_text}
use Rattle.std.proofs.lemmas.Result.{err_from_is_err_and}
use Rattle.vx_dialogue.proofs.Told.{gathers_said}
use Rattle.vx_dialogue.proofs.History.{gathers_tells, tells_failed, breaks_want}
use Rattle.vx_dialogue.proofs.dialogue.Dialogue.say.Goals as goal

pub returns-clause-told : goal.returns-clause-told
returns-clause-told g c = λ plain commands checks told.
    let room = c.make_room.new.self in
    let before = c.in_ok-make_room.ensures.told commands checks told in
    let written : c.extend_from_slice.new.self.items ≡ room.batch.items ++ command_text (command c.args.c.now) = search rules in
    gathers_said g.L.Link.dialogue room _ (command c.args.c.now) plain c.in_ok-write.ensures.small refl written refl refl c.in_ok-make_room.ensures.count commands checks before

pub returns-in_err-write-clause-fault : goal.returns-in_err-write-clause-fault
returns-in_err-write-clause-fault g c = let p = err_from_is_err_and c.from_residual.result c.from_residual.ensures.1 in rw p.1 (λ commands checks told named.
    breaks_want p.0 commands _ checks p.2 (tells_failed commands _ checks (gathers_tells g.L.Link.dialogue c.args.self.now commands checks told)))

pub returns-in_err-extend_from_slice-clause-fault : goal.returns-in_err-extend_from_slice-clause-fault
returns-in_err-extend_from_slice-clause-fault g c = let p = err_from_is_err_and c.from_residual-in_err-extend_from_slice.result c.from_residual-in_err-extend_from_slice.ensures.1 in rw p.1 (λ commands checks told named.
    breaks_want p.0 commands _ checks p.2 (tells_failed commands _ checks (gathers_tells g.L.Link.dialogue c.make_room.new.self commands checks (c.in_ok-make_room.ensures.told commands checks told))))
