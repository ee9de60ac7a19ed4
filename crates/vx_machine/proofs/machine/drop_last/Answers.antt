use Rattle.std.proofs.Common.{sym, ap, ◌∙◌}
use Rattle.vx_machine.specs.Growth.{without_last}
use Rattle.vx_machine.proofs.Walks.{without_last-push}
use Rattle.vx_machine.proofs.machine.drop_last.Goals as goal

pub returns-in-Some : goal.returns-in-Some
returns-in-Some c = sym (ap without_last c.in-Some.ensures.items ∙ without_last-push c.pop.new.self.items c.in-Some._last)
