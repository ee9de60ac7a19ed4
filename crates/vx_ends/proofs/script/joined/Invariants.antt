use Rattle.std.proofs.Common.{◌≡◌, take}
use Rattle.vx_ends.specs.Fakes.{joined as texts_joined}
use Rattle.vx_ends.proofs.script.joined.Given as goal

abbrev pub invariant-loop-reply : goal.invariant-loop-reply
invariant-loop-reply l = l.bytes.items ≡ texts_joined (take l.reply-index l.reply-items)
