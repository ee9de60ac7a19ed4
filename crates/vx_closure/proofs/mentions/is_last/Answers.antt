use Rattle.std.proofs.Common.{◌-◌, length}
use Rattle.vx_closure.proofs.Additions.{at_its_place}
use Rattle.vx_closure.proofs.mentions.is_last.Goals as goal

pub returns-in-Some : goal.returns-in-Some
returns-in-Some c = at_its_place c.args.row.now (length c.args.row.now - 1) c.in-Some.last.now c.in-Some.ensures.value c.args.member.0
