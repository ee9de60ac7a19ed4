use Rattle.std.proofs.Common.{refl, append_assoc}
use Rattle.vx_stack.proofs.conts.Conts.push_both.Goals as goal

pub returns : goal.returns
returns c = (
  record { frame = c.args.left; state = c.args.first },
  record { frame = c.args.right; state = c.args.second },
  rw (c.in_ok-push-2.ensures, c.in_ok-push.ensures, append_assoc) refl,
  refl,
)
