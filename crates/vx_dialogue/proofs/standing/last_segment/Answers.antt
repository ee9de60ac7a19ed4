use Rattle.vx_dialogue.proofs.Counted.{last_is}
use Rattle.vx_dialogue.proofs.standing.last_segment.Goals as goal

pub returns-in-Some : goal.returns-in-Some
returns-in-Some c = last_is 0 c.args.sent.now c.in-Some.last.now c.in-Some.ensures.value
