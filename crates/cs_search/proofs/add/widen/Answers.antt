use Rattle.std.proofs.Common.{◌≤◌, ◌<◌, false, length}
use Rattle.cs_certificate.specs.declared.literal.Literal.{Literal}
use Rattle.cs_search.proofs.Added.{all_more, all_whole}
use Rattle.cs_search.proofs.Widens.{widened_twice, room_later}
use Rattle.cs_search.proofs.add.widen.Goals as goal

pub loop-literal-preserved : goal.loop-literal-preserved
loop-literal-preserved c =
    let was = c.loop-literal.invariant in
    let now = c.in_ok-reach.ensures in
    let P : Literal → Type 0 = λ x. x.number < length c.reach.new.values.items in
    record {
      same = widened_twice _ _ _ was.same now.same;
      room = all_more P c.args.literals.now c.loop-literal.literal-index record { positive = false; number = 0 } c.loop-literal-test.true (room_later (length c.loop-literal.values.items) _ _ now.same.longer was.room) now.room;
    }

pub returns-clause-room : goal.returns-clause-room
returns-clause-room c =
    let P : Literal → Type 0 = λ x. x.number < length c.loop-literal.values.items in
    let n : length c.args.literals.now ≤ c.loop-literal.literal-index = c.loop-literal-test.false in
    all_whole P c.args.literals.now c.loop-literal.literal-index n c.loop-literal.invariant.room
