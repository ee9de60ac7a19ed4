use Rattle.std.proofs.Common.{rules, ◌≡◌, take, inr}
use Rattle.vx_dialogue.specs.Items.{kept_of}
use Rattle.vx_dialogue.proofs.Faulted.{long_here}
use Rattle.vx_dialogue.proofs.item.too_long.Goals as goal

pub returns-in-Ok : goal.returns-in-Ok
returns-in-Ok c =
    let kept : c.in-Ok.kept ≡ kept_of (take c.args.end c.args.bytes.now) = search rules in
    inr (take c.args.end c.args.bytes.now, long_here c.args.bytes.now c.args.end c.requires.ends c.requires.long, kept)
