use Rattle.std.proofs.Common.{◌∙◌}
use Rattle.cs_linear.specs.Rows.{total}
use Rattle.cs_linear.proofs.Sums.{lowest_of_total, none_free, none_ascends}
use Rattle.cs_linear.proofs.Added.{begins, ends, included_at}
use Rattle.cs_linear.proofs.add.expanded.Goals as goal

pub loop-entry-init : goal.loop-entry-init
loop-entry-init c = record {
  total = λ a s. begins c.new-new.result.items c.args.sum.now a c.new-new.ensures.items;
  free = none_free c.args.homes.now c.new-new.result.items c.new-new.ensures.items;
  ascends = none_ascends c.new-new.result.items c.new-new.ensures.items;
}

pub loop-entry-preserved : goal.loop-entry-preserved
loop-entry-preserved c =
    let h = included_at c.args.rows.now c.args.homes.now c.deref.result.now c.loop-entry.new.items c.in_ok-new.new.items c.args.sum.now c.loop-entry.entry-index c.entry-item.result c.deref.ensures.value c.loop-entry-test.true c.entry-item.is c.in_ok-new.ensures.value in
    record {
      total = λ a s. h.0 a s ∙ c.loop-entry.invariant.total a s;
      free = h.1 c.loop-entry.invariant.free;
      ascends = h.2 c.loop-entry.invariant.ascends;
    }

pub returns-clause-total : goal.returns-clause-total
returns-clause-total c a s = ends c.args.sum.now c.loop-entry.entry-index a (total c.loop-entry.new.items a) (lowest_of_total c.loop-entry.new.items a) c.loop-entry-test.false ∙ c.loop-entry.invariant.total a s
