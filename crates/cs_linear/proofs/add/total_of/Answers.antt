use Rattle.std.proofs.Common.{sym, ◌∙◌, subst, ◌<◌, length}
use Rattle.cs_linear.specs.declared.rows.Entry.{Entry}
use Rattle.vx_frac.specs.Fraction.{fraction}
use Rattle.vx_frac.proofs.Reduced.{lowest_fraction}
use Rattle.cs_linear.specs.Values.{values}
use Rattle.cs_linear.proofs.Lists.{read_as}
use Rattle.cs_linear.proofs.Added.{ends, total_begins, total_goes}
use Rattle.cs_linear.proofs.add.total_of.Goals as goal

pub loop-entry-init : goal.loop-entry-init
loop-entry-init c = total_begins c.args.entries.now (values c.args.all.now) (fraction c.zero-total.result) c.zero-total.ensures

pub loop-entry-preserved : goal.loop-entry-preserved
loop-entry-preserved c =
    let i = c.loop-entry.entry-index in
    let e = c.entry-item.result in
    let lt = subst (λ (e : Entry). e.column < length c.args.all.now) (sym c.entry-item.is) (c.requires i e c.loop-entry-test.true) in
    total_goes c.args.entries.now c.args.all.now i e c.index-all-entry.result c.loop-entry.total c.in_ok-product.product c.in_ok-total.total c.loop-entry-test.true c.entry-item.is
    (read_as c.args.all.now e.column c.index-all-entry.result lt c.index-all-entry.is) c.in_ok-product.ensures.value c.in_ok-total.ensures.value
    ∙ c.loop-entry.invariant

pub returns-clause-value : goal.returns-clause-value
returns-clause-value c = ends c.args.entries.now c.loop-entry.entry-index (values c.args.all.now) (fraction c.loop-entry.total) (lowest_fraction c.loop-entry.total) c.loop-entry-test.false ∙ c.loop-entry.invariant
