use Rattle.std.proofs.Common.{sym, ap, ◌∙◌}
use Rattle.cs_linear.specs.declared.rows.Row.{Row}
use Rattle.cs_linear.proofs.Lists.{read_as}
use Rattle.cs_linear.proofs.Added.{row_included}
use Rattle.cs_linear.proofs.add.include_row.Goals as goal

pub returns-clause-value : goal.returns-clause-value
returns-clause-value c =
    let lt = c.requires.tableau.within c.args.entry.column c.args.home c.requires.home in
    row_included c.args.rows.now c.args.homes.now c.args.sum.now c.deref.result.now c.in_ok-new.new.items c.args.entry c.args.home c.index-rows-home.result c.requires.tableau c.requires.home
    (read_as c.args.rows.now c.args.home c.index-rows-home.result lt c.index-rows-home.is)
    (c.deref.ensures.value ∙ ap (λ (r : Row). r.entries.items) (sym c.index-rows-home.is))
    c.in_ok-new.ensures.value c.in_ok-new.ensures.free c.in_ok-new.ensures.ascends
