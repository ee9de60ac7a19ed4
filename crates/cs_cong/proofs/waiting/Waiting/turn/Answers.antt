use Rattle.std.proofs.Common.{sym, ◌∙◌}
use Rattle.cs_cong.proofs.Longer.{longer_same, longer_merged, same_log, settled_again}
use Rattle.cs_cong.proofs.Settles.{settled_turned}
use Rattle.cs_cong.proofs.waiting.Waiting.turn.Goals as goal

pub returns-clause-settled : goal.returns-clause-settled
returns-clause-settled c terms s =
    settled_turned terms c.args.merges.now.log.items c.turn.new.self.log.items c.args.left c.args.right c.args.reason c.now-from.result c.now-to.result c.now-from.ensures.value c.now-to.ensures.value c.if-from-to.false
    c.in_ok-turn.ensures.log c.args.self.now c.spread.new.self c.in_ok-spread.ensures s

pub returns-in_err-turn-clause-longer : goal.returns-in_err-turn-clause-longer
returns-in_err-turn-clause-longer c = longer_same c.args.merges.now.log.items c.turn.new.self.log.items c.in_err-turn.ensures.kept

pub returns-then-from-to-clause-longer : goal.returns-then-from-to-clause-longer
returns-then-from-to-clause-longer c = longer_merged c.args.merges.now.log.items c.turn.new.self.log.items c.args.left c.args.right c.args.reason c.in_ok-turn.ensures.log

pub returns-then-from-to-clause-settled : goal.returns-then-from-to-clause-settled
returns-then-from-to-clause-settled c terms s =
    settled_again terms c.args.merges.now.log.items c.turn.new.self.log.items c.args.self.now
    (same_log c.args.merges.now.log.items c.turn.new.self.log.items c.args.left c.args.right c.args.reason c.in_ok-turn.ensures.log (sym c.now-from.ensures.value ∙ c.if-from-to.true ∙ c.now-to.ensures.value)) s

pub returns-in_err-spread-clause-longer : goal.returns-in_err-spread-clause-longer
returns-in_err-spread-clause-longer c = longer_merged c.args.merges.now.log.items c.turn.new.self.log.items c.args.left c.args.right c.args.reason c.in_ok-turn.ensures.log

pub returns-clause-longer : goal.returns-clause-longer
returns-clause-longer c = longer_merged c.args.merges.now.log.items c.turn.new.self.log.items c.args.left c.args.right c.args.reason c.in_ok-turn.ensures.log
