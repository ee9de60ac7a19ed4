use Rattle.std.proofs.Common.{rules, ◌≡◌, ◌++◌, ap}
use Rattle.vx_ends.specs.Dialogue.{got}
use Rattle.vx_ends.proofs.Dialogues.{got_by_got, gets_one}
use Rattle.std.proofs.lemmas.Result.{err_from_is_err_and}
use Rattle.vx_dialogue.proofs.Faulted.{nothing_got}
use Rattle.vx_dialogue.proofs.Steady.{received}
use Rattle.vx_dialogue.proofs.item.get_more.Goals as goal

pub returns-clause-keeps : goal.returns-clause-keeps
returns-clause-keeps g c =
    let piece = c.in_ok-piece.piece.items in
    let items : c.extend_from_slice.new.self.items ≡ c.args.unread.now.items ++ piece = search rules in
    (piece, got_by_got _ _ _ c.in_ok-piece.ensures.record.2, items)

pub returns-clause-pieces : goal.returns-clause-pieces
returns-clause-pieces g c = gets_one _ _ _ c.in_ok-piece.ensures.record.2

pub returns-in_err-extend_from_slice-clause-pieces : goal.returns-in_err-extend_from_slice-clause-pieces
returns-in_err-extend_from_slice-clause-pieces g c = gets_one _ _ _ c.in_ok-piece.ensures.record.2

pub returns-clause-steady : goal.returns-clause-steady
returns-clause-steady g c = λ open_yet steady owes.
    received g.L.Link.dialogue g.L.Link.steady g.L.Link.faults c.args.link.now c.receive.new.self _ _ _ _ c.receive.ensures.fixed c.receive.ensures.steady open_yet.2 owes steady

pub returns-in_err-piece-clause-steady : goal.returns-in_err-piece-clause-steady
returns-in_err-piece-clause-steady g c = λ open_yet steady owes.
    received g.L.Link.dialogue g.L.Link.steady g.L.Link.faults c.args.link.now c.receive.new.self _ _ _ _ c.receive.ensures.fixed c.receive.ensures.steady open_yet.2 owes steady

pub returns-in_err-extend_from_slice-clause-steady : goal.returns-in_err-extend_from_slice-clause-steady
returns-in_err-extend_from_slice-clause-steady g c = λ open_yet steady owes.
    received g.L.Link.dialogue g.L.Link.steady g.L.Link.faults c.args.link.now c.receive.new.self _ _ _ _ c.receive.ensures.fixed c.receive.ensures.steady open_yet.2 owes steady

pub returns-in_err-piece-clause-none : goal.returns-in_err-piece-clause-none
returns-in_err-piece-clause-none g c =
    let p = err_from_is_err_and c.from_residual.result c.from_residual.ensures.1 in rw p.1 (λ open_yet.
    nothing_got _ p.0 _ _ _ p.2 (ap got c.in_err-piece.ensures.record) open_yet)
