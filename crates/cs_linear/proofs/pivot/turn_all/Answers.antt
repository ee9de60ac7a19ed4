use Rattle.std.proofs.Common.{List, length, ap, ◌∙◌, subst}
use Rattle.cs_linear.specs.declared.rows.Row.{Row}
use Rattle.cs_linear.specs.Pivots.{ArePlanned}
use Rattle.cs_linear.proofs.Carried.{carried_turned}
use Rattle.cs_linear.proofs.pivot.turn_all.Goals as goal

pub carry_out-requires : goal.carry_out-requires
carry_out-requires c = c.in_ok-planned.ensures.value.count ∙ ap length c.deref.ensures.value

pub returns-clause-value : goal.returns-clause-value
returns-clause-value c =
    carried_turned c.args.at c.args.column c.args.solved.now c.args.rows.now.items c.carry_out.new.rows.items c.in_ok-planned.planned.items
    (subst (λ (rows : List Row). ArePlanned c.args.at c.args.column c.args.solved.now rows c.in_ok-planned.planned.items) c.deref.ensures.value c.in_ok-planned.ensures.value) c.carry_out.ensures
