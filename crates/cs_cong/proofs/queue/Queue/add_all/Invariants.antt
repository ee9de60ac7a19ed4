use Rattle.std.proofs.Common.{take}
use Rattle.cs_cong.specs.Waits.{IsAdded}
use Rattle.cs_cong.proofs.queue.Queue.add_all.Given as goal

abbrev pub invariant-loop-a : goal.invariant-loop-a
invariant-loop-a l = IsAdded l.initial.self l.self (take l.a-index l.terms)
