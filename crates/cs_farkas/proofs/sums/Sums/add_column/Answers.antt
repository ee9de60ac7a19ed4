use Rattle.std.proofs.Common.{ap₂, sym, ◌∙◌, map}
use Rattle.vx_frac.specs.Fraction.{fraction}
use Rattle.cs_farkas.specs.Sums.{Done}
use Rattle.cs_farkas.proofs.Counted.{column_added}
use Rattle.cs_farkas.proofs.sums.Sums.add_column.Goals as goal

pub returns-clause-value : goal.returns-clause-value
returns-clause-value c =
    column_added c.args.self.now.columns.items (fraction c.args.self.now.constant) c.args.column c.index-before.result.now c.in_ok-product.product c.in_ok-after.after (fraction c.args.multiplier) (fraction c.args.amount) c.requires c.index-before.ensures c.in_ok-product.ensures c.in_ok-after.ensures
    ∙ ap₂ (λ x y. Done record { constant = fraction x; columns = map fraction y }) (sym c.put.ensures.constant) (sym c.put.ensures.columns)
