use Rattle.std.proofs.Common.{◌≡◌, ◌∙◌, ap, sym, subst, Vec, Global, Option, ℕ, slice_get}
use Rattle.std.proofs.lemmas.Option.{same_Some}
use Rattle.vx_frac.specs.Fractions.{Fraction, minus}
use Rattle.vx_frac.specs.Fraction.{fraction}
use Rattle.vx_frac.specs.declared.Frac.{Frac}
use Rattle.cs_linear.specs.declared.rows.Row.{Row}
use Rattle.cs_linear.specs.Rows.{IsFree, factor_at}
use Rattle.cs_linear.proofs.Sums.{ascends_out}
use Rattle.cs_linear.specs.Numbers.{plus, times}
use Rattle.cs_linear.specs.Values.{values}
use Rattle.cs_linear.proofs.Conflicts.{free_at, factor_is}
use Rattle.cs_linear.proofs.Mending.{basic_reached, main_is, delta_is, at_limit, on_any}
use Rattle.cs_linear.proofs.tableau.Tableau.exchange.Goals as goal

pub move_free-requires-clause-free : goal.move_free-requires-clause-free
move_free-requires-clause-free c =
    let s = c.args.self.now in
    let e = c.requires.entry in
    free_at s.homes.items e.row.entries.items e.place c.args.entry (s.tableau.free c.args.at e.row e.here) e.entry

pub pivot-requires-clause-column : goal.pivot-requires-clause-column
pivot-requires-clause-column c =
    let s = c.args.self.now in
    let e = c.requires.entry in
    subst (λ (hs : Vec (Option ℕ) Global). IsFree hs.items c.args.entry.column) (sym c.move_free.ensures.homes) (free_at s.homes.items e.row.entries.items e.place c.args.entry (s.tableau.free c.args.at e.row e.here) e.entry)

pub pivot-requires-clause-factor : goal.pivot-requires-clause-factor
pivot-requires-clause-factor c r er =
    let s = c.args.self.now in
    let e = c.requires.entry in
    let is = same_Some e.row r (sym e.here ∙ ap (λ (rs : Vec Row Global). slice_get rs.items c.args.at) (sym c.move_free.ensures.now) ∙ er) in
    subst (λ (r : Row). fraction c.args.entry.factor ≡ factor_at r.entries.items c.args.entry.column) is (factor_is 0 e.row.entries.items e.place c.args.entry (ascends_out 0 e.row.entries.items (s.tableau.ascends c.args.at e.row e.here)) e.entry)

pub returns-clause-met : goal.returns-clause-met
returns-clause-met c =
    let s = c.args.self.now in
    let e = c.requires.entry in
    let b = c.args.bound in
    let j = c.args.entry.column in
    let i = fraction c.in_ok-inverse.inverse in
    let n = c.move_free.new.self in
    let lacks : Fraction → Fraction → Fraction = λ l v. times (plus l (minus v)) i in
    let is = factor_is 0 e.row.entries.items e.place c.args.entry (ascends_out 0 e.row.entries.items (s.tableau.ascends c.args.at e.row e.here)) e.entry in
    let one = ap (times i) (sym is) ∙ c.in_ok-inverse.ensures.value in
    let m = basic_reached s.rows.items s.homes.items j (fraction c.in_ok-main.main) s.mains.items n.mains.items b.limit.main s.same_mains c.in_ok-move_free.ensures.mains b.column c.args.at e.row i c.requires.home e.here one
    (c.in_ok-main.ensures.value ∙ ap (λ (x : Fraction). times x i) c.in_ok-main_way.ensures.value ∙ ap (lacks (fraction b.limit.main)) (main_is c.value-value.result (values s.mains.items) (values s.deltas.items) b.column c.value-value.ensures)) in
    let d = basic_reached s.rows.items s.homes.items j (fraction c.in_ok-delta.delta) s.deltas.items n.deltas.items b.limit.delta s.same_deltas c.in_ok-move_free.ensures.deltas b.column c.args.at e.row i c.requires.home e.here one
    (c.in_ok-delta.ensures.value ∙ ap (λ (x : Fraction). times x i) c.in_ok-delta_way.ensures.value ∙ ap (lacks (fraction b.limit.delta)) (delta_is c.value-value.result (values s.mains.items) (values s.deltas.items) b.column c.value-value.ensures)) in
    on_any c.pivot.result
    (at_limit (values c.pivot.new.self.mains.items) (values c.pivot.new.self.deltas.items) b
    (ap (λ (vs : Vec Frac Global). values vs.items b.column) c.pivot.ensures.mains ∙ m)
    (ap (λ (vs : Vec Frac Global). values vs.items b.column) c.pivot.ensures.deltas ∙ d))
