use Rattle.std.proofs.Common.{◌≡◌, ◌++◌, ◌-◌, map}
use Rattle.vx_smt_meaning.specs.Views.{command}
use Rattle.vx_dialogue.specs.Segments.{pops}
use Rattle.vx_dialogue.proofs.question.put_pops.Given as goal

abbrev pub invariant-loop : goal.invariant-loop
invariant-loop l = map command l.commands.items ++ pops (l.count - l.counter) ≡ map command l.fn.commands.items ++ pops l.count
