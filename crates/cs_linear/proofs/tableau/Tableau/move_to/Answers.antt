use Rattle.std.proofs.Common.{◌∙◌, ap}
use Rattle.vx_frac.specs.Fractions.{Fraction, minus}
use Rattle.vx_frac.specs.Fraction.{fraction}
use Rattle.cs_linear.specs.Numbers.{plus}
use Rattle.cs_linear.specs.Values.{values}
use Rattle.cs_linear.proofs.Mending.{free_reached, main_is, delta_is, at_limit, on_both}
use Rattle.cs_linear.proofs.tableau.Tableau.move_to.Goals as goal

pub returns-clause-met : goal.returns-clause-met
returns-clause-met c =
    let s = c.args.self.now in
    let b = c.args.bound in
    let n = c.move_free.new.self in
    let lacks : Fraction → Fraction → Fraction = λ l v. plus l (minus v) in
    on_both c.move_free.result
    (λ m d.
    at_limit (values n.mains.items) (values n.deltas.items) b
    (free_reached s.rows.items s.homes.items b.column (fraction c.in_ok-main.main) s.mains.items n.mains.items b.limit.main s.same_mains m c.requires.free
    (c.in_ok-main.ensures.value ∙ ap (lacks (fraction b.limit.main)) (main_is c.value-value.result (values s.mains.items) (values s.deltas.items) b.column c.value-value.ensures)))
    (free_reached s.rows.items s.homes.items b.column (fraction c.in_ok-delta.delta) s.deltas.items n.deltas.items b.limit.delta s.same_deltas d c.requires.free
    (c.in_ok-delta.ensures.value ∙ ap (lacks (fraction b.limit.delta)) (delta_is c.value-value.result (values s.mains.items) (values s.deltas.items) b.column c.value-value.ensures))))
    c.move_free.ensures.mains c.move_free.ensures.deltas
