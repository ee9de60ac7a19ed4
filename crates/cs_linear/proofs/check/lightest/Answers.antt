use Rattle.std.proofs.Common.{sym, subst}
use Rattle.vx_frac.specs.Fraction.{fraction}
use Rattle.cs_linear.specs.declared.rows.Entry.{Entry}
use Rattle.cs_linear.specs.declared.check.Way.TheVariants.{Moves}
use Rattle.cs_linear.specs.Values.{values}
use Rattle.cs_linear.specs.Checks.{IsWay}
use Rattle.cs_linear.proofs.Lists.{read_as}
use Rattle.cs_linear.proofs.check.lightest.Goals.{in-Moves+then-count-fewest, in-Moves+else-count-fewest, in-Idle}
use Rattle.cs_linear.proofs.check.lightest.Goals as goal

pub loop-entry-preserved : goal.loop-entry-preserved
loop-entry-preserved c bounds l =
    let i = c.loop-entry.entry-index in
    let CanMove = λ (e : Entry). IsWay bounds (values c.args.mains.now) (values c.args.deltas.now) (fraction c.args.toward) c.args.entries.now (Moves e) in
    elim c.match-branch-2.branch [
      | in-Moves+then-count-fewest w ↦
          subst CanMove (sym w.best-is) ((i, read_as c.args.entries.now i c.entry-item.result c.loop-entry-test.true c.entry-item.is), rw w.in-Moves.is at (c.in_ok-judge.ensures.value bounds l))
      | in-Moves+else-count-fewest w ↦ subst CanMove (sym w.best-is) (c.loop-entry.invariant bounds l)
      | in-Idle w ↦ subst CanMove (sym w.best-is) (c.loop-entry.invariant bounds l)
    ]
