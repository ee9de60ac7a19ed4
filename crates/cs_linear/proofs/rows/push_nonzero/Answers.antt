use Rattle.std.proofs.Common.{rules}
use Rattle.cs_linear.proofs.Sums.{goes_on, zero_goes}
use Rattle.cs_linear.proofs.rows.push_nonzero.Goals as goal

pub returns-in_ok-push-clause-goes : goal.returns-in_ok-push-clause-goes
returns-in_ok-push-clause-goes c = goes_on c.args.entries.now.items c.push.new.self.items c.args.entry c.in_ok-push.ensures.items

pub returns-else-num-ne0-clause-goes : goal.returns-else-num-ne0-clause-goes
returns-else-num-ne0-clause-goes c = zero_goes c.args.entries.now.items c.args.entry (search rules)
