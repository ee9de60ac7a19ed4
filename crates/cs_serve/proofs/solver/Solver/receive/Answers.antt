use Rattle.std.proofs.Common.{rules, ◌≡◌, ◌≤◌, ◌+◌, ◌++◌, length, false, subst, sym}
use Rattle.cs_session.specs.Views.{state}
use Rattle.cs_serve.specs.declared.ending.Ending.TheVariants.{Want}
use Rattle.cs_serve.specs.Serving.{most_at_once}
use Rattle.cs_serve.specs.Working.{HasStopped}
use Rattle.cs_serve.proofs.Steps.{given_more, has_stopped}
use Rattle.cs_serve.proofs.solver.Solver.receive.Goals as goal

pub returns-clause-goes : goal.returns-clause-goes
returns-clause-goes g c = λ before at.
    let D = g.D.Duplex in
    let old = c.args.self.now in
    let piece = c.in-Ok.piece.items in
    let items : c.extend_from_slice.new.self.items ≡ old.left.items ++ piece = search rules in
    let short : length piece ≤ most_at_once = search rules in
    let count : c.len.result ≡ length piece = search rules in
    let from = D.given c.args.ends.now in
    let on = given_more before piece from (D.given c.more.new.self) (D.taken c.args.ends.now) (D.dialogue c.args.ends.now) (D.dialogue c.more.new.self) old.total old.left.items (state old.session) at c.in-Ok.ensures.given c.in-Ok.ensures.dialogue short c.requires.waits in
    rw (items, count, c.in-Ok.ensures.taken) on

pub returns-then-is_err-clause-stops : goal.returns-then-is_err-clause-stops
returns-then-is_err-clause-stops g c = λ before at.
    let D = g.D.Duplex in
    let old = c.args.self.now in
    let piece = c.in-Ok.piece.items in
    let from = D.given c.args.ends.now in
    let short : length piece ≤ most_at_once = search rules in
    let on = given_more before piece from (D.given c.more.new.self) (D.taken c.args.ends.now) (D.dialogue c.args.ends.now) (D.dialogue c.more.new.self) old.total old.left.items (state old.session) at c.in-Ok.ensures.given c.in-Ok.ensures.dialogue short c.requires.waits in
    rw c.in-Ok.ensures.taken (has_stopped Want before _ _ _ (old.total + length piece) (old.left.items ++ piece) (state old.session) false _ on tt)
