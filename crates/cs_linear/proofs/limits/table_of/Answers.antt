use Rattle.std.proofs.Common.{◌<◌, ◌∙◌, sym, subst}
use Rattle.cs_linear.specs.declared.bounds.Bound.{Bound}
use Rattle.cs_linear.proofs.Lists.{read_as}
use Rattle.cs_linear.proofs.Tightest.{entered_table, entered_count, entered_told, all_told}
use Rattle.cs_linear.proofs.limits.table_of.Goals as goal

pub loop-bound-preserved : goal.loop-bound-preserved
loop-bound-preserved c =
    let i = c.loop-bound.bound-index in
    let b = c.bound-item.result in
    let old = c.loop-bound.table.items in
    let at = read_as c.args.bounds.now i b c.loop-bound-test.true c.bound-item.is in
    let known = subst (λ (b : Bound). b.column < c.args.width) (sym c.bound-item.is) (c.requires i b c.loop-bound-test.true) in
    let lt = subst (λ n. b.column < n) (sym c.loop-bound.invariant.count) known in
    record {
      count = entered_count c.args.side old c.enter.new.table.items b c.enter.ensures ∙ c.loop-bound.invariant.count;
      value = entered_table c.args.side c.args.bounds.now old c.enter.new.table.items b (i, at) lt c.loop-bound.invariant.value c.enter.ensures;
      told = entered_told c.args.side c.args.bounds.now old c.enter.new.table.items i b at lt c.loop-bound.invariant.value c.enter.ensures c.loop-bound.invariant.told;
    }

pub returns-clause-told : goal.returns-clause-told
returns-clause-told c = all_told c.args.side c.args.bounds.now c.loop-bound.table.items c.loop-bound.bound-index c.loop-bound-test.false c.loop-bound.invariant.told
