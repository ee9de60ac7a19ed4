use Rattle.std.proofs.Common.{◌∙◌}
use Rattle.vx_frac.specs.Fraction.{fraction}
use Rattle.cs_linear.specs.Values.{values}
use Rattle.cs_linear.proofs.Lists.{read_as}
use Rattle.cs_linear.proofs.Judged.{meets_begin, meets_go, meets_end, none_block}
use Rattle.cs_linear.proofs.check.examine.Goals as goal

pub loop-entry-init : goal.loop-entry-init
loop-entry-init c = record {
  columns = λ bounds l x. meets_begin c.new-parts.result.items c.args.entries.now (fraction c.args.toward) x c.new-parts.ensures.items;
  blocking = λ bounds l. none_block bounds (values c.args.mains.now) (values c.args.deltas.now) c.new-parts.result.items c.new-parts.ensures.items;
}

pub returns-then-branch-clause-value : goal.returns-then-branch-clause-value
returns-then-branch-clause-value c bounds l =
    let i = c.loop-entry.entry-index in
    ((i, read_as c.args.entries.now i c.entry-item.result c.loop-entry-test.true c.entry-item.is), (c.in_ok-meet.ensures.value bounds l).moving c.if-branch.true)

pub loop-entry-preserved : goal.loop-entry-preserved
loop-entry-preserved c =
    let i = c.loop-entry.entry-index in
    record {
      columns = λ bounds l x.
          meets_go c.loop-entry.parts.items c.meet.new.parts.items c.args.entries.now i c.entry-item.result (fraction c.args.toward) x c.loop-entry-test.true c.entry-item.is ((c.in_ok-meet.ensures.value bounds l).columns c.if-branch.false x)
          ∙ c.loop-entry.invariant.columns bounds l x;
      blocking = λ bounds l. (c.in_ok-meet.ensures.value bounds l).blocking c.if-branch.false (c.loop-entry.invariant.blocking bounds l);
    }

pub returns-clause-value : goal.returns-clause-value
returns-clause-value c bounds l = (
  c.loop-entry.invariant.blocking bounds l,
  λ x. meets_end c.loop-entry.parts.items c.args.entries.now c.loop-entry.entry-index (fraction c.args.toward) x c.loop-entry-test.false ∙ c.loop-entry.invariant.columns bounds l x,
)
