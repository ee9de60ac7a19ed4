use Rattle.cs_cong.specs.Needed.{HasFirst}
use Rattle.cs_cong.proofs.merges.Merges.add_parts.Given as goal

abbrev pub invariant-loop-at : goal.invariant-loop-at
invariant-loop-at l = HasFirst l.at l.self.log.items l.time l.xs l.ys l.fn.steps.items l.steps.items
