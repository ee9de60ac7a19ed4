use Rattle.std.proofs.Common.{◌≡◌, take}
use Rattle.cs_ground.proofs.replay.turned.Given as goal

abbrev pub invariant-loop-hint : goal.invariant-loop-hint
invariant-loop-hint l = l.all.items ≡ take l.hint-index l.hints.numbers.items
