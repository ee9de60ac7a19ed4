use Rattle.std.proofs.Common.{subst}
use Rattle.vx_frac.specs.Fraction.{fraction}
use Rattle.cs_linear.specs.Values.{values}
use Rattle.cs_linear.specs.Checks.{IsJudged}
use Rattle.cs_linear.proofs.Judged.{idle_met, moves_met, blocked_met}
use Rattle.cs_linear.proofs.check.meet.Goals as goal

pub returns-in-Idle-clause-value : goal.returns-in-Idle-clause-value
returns-in-Idle-clause-value c bounds l =
    idle_met bounds (values c.args.mains.now) (values c.args.deltas.now) (fraction c.args.toward) c.args.parts.now.items c.args.entry
    (subst (IsJudged bounds (values c.args.mains.now) (values c.args.deltas.now) (fraction c.args.toward) c.args.entry) c.in-Idle.is (c.in_ok-judge.ensures.value bounds l))

pub returns-in-Moves-clause-value : goal.returns-in-Moves-clause-value
returns-in-Moves-clause-value c bounds l =
    moves_met bounds (values c.args.mains.now) (values c.args.deltas.now) (fraction c.args.toward) c.args.parts.now.items c.args.entry
    (subst (IsJudged bounds (values c.args.mains.now) (values c.args.deltas.now) (fraction c.args.toward) c.args.entry) c.in-Moves.is (c.in_ok-judge.ensures.value bounds l))

pub returns-in_ok-push-in-Blocked-clause-value : goal.returns-in_ok-push-in-Blocked-clause-value
returns-in_ok-push-in-Blocked-clause-value c bounds l =
    blocked_met bounds (values c.args.mains.now) (values c.args.deltas.now) (fraction c.args.toward) c.args.parts.now.items c.push.new.self.items c.args.entry c.in-Blocked.part
    (subst (IsJudged bounds (values c.args.mains.now) (values c.args.deltas.now) (fraction c.args.toward) c.args.entry) c.in-Blocked.is (c.in_ok-judge.ensures.value bounds l)) c.in_ok-push-in-Blocked.ensures.items
