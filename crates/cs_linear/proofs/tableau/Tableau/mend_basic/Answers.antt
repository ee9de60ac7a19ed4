use Rattle.std.proofs.Common.{◌∙◌, ap, sym, subst, length}
use Rattle.std.proofs.lemmas.Option.{slice_get_within}
use Rattle.vx_frac.specs.Fraction.{fraction}
use Rattle.vx_frac.specs.Fractions.{Fraction}
use Rattle.cs_linear.specs.Numbers.{times}
use Rattle.cs_linear.specs.Rows.{AreFree, total}
use Rattle.cs_linear.specs.Values.{values}
use Rattle.cs_linear.proofs.Lists.{read_as}
use Rattle.cs_linear.proofs.Conflicts.{known_free, conflict_is, way_as}
use Rattle.cs_linear.proofs.tableau.Tableau.mend_basic.Goals as goal

pub find_way-requires-clause-lower : goal.find_way-requires-clause-lower
find_way-requires-clause-lower c =
    let s = c.args.self.now in
    let is = read_as s.rows.items c.args.at c.index.result.now (s.tableau.within c.args.bound.column c.args.at c.requires.home) c.index.ensures in
    known_free s.homes.items c.deref-2.result.now (length c.args.limits.now.lower.items) c.requires.lower (subst (AreFree s.homes.items) (sym c.deref-2.ensures.value) (s.tableau.free c.args.at c.index.result.now is))

pub find_way-requires-clause-upper : goal.find_way-requires-clause-upper
find_way-requires-clause-upper c =
    let s = c.args.self.now in
    let is = read_as s.rows.items c.args.at c.index.result.now (s.tableau.within c.args.bound.column c.args.at c.requires.home) c.index.ensures in
    known_free s.homes.items c.deref-2.result.now (length c.args.limits.now.upper.items) c.requires.upper (subst (AreFree s.homes.items) (sym c.deref-2.ensures.value) (s.tableau.free c.args.at c.index.result.now is))

pub find_way-requires-clause-mains : goal.find_way-requires-clause-mains
find_way-requires-clause-mains c =
    let s = c.args.self.now in
    let is = read_as s.rows.items c.args.at c.index.result.now (s.tableau.within c.args.bound.column c.args.at c.requires.home) c.index.ensures in
    known_free s.homes.items c.deref-2.result.now (length c.deref-3.result.now) (ap length c.deref-3.ensures.value ∙ s.same_mains) (subst (AreFree s.homes.items) (sym c.deref-2.ensures.value) (s.tableau.free c.args.at c.index.result.now is))

pub find_way-requires-clause-deltas : goal.find_way-requires-clause-deltas
find_way-requires-clause-deltas c =
    let s = c.args.self.now in
    let is = read_as s.rows.items c.args.at c.index.result.now (s.tableau.within c.args.bound.column c.args.at c.requires.home) c.index.ensures in
    known_free s.homes.items c.deref-2.result.now (length c.deref-4.result.now) (ap length c.deref-4.ensures.value ∙ s.same_deltas) (subst (AreFree s.homes.items) (sym c.deref-2.ensures.value) (s.tableau.free c.args.at c.index.result.now is))

pub exchange-requires-clause-known : goal.exchange-requires-clause-known
exchange-requires-clause-known c = slice_get_within c.args.self.now.homes.items c.args.bound.column _ c.requires.home

pub exchange-requires-clause-entry : goal.exchange-requires-clause-entry
exchange-requires-clause-entry c =
    let s = c.args.self.now in
    let is = read_as s.rows.items c.args.at c.index.result.now (s.tableau.within c.args.bound.column c.args.at c.requires.home) c.index.ensures in
    let w = way_as s.bounds.items (fraction c.toward-toward.result) c.deref-2.ensures.value c.deref-3.ensures.value c.deref-4.ensures.value c.in-Moves.is (c.in_ok-entry.ensures.value s.bounds.items c.requires.limits) in
    record { row = c.index.result.now; here = is; place = w.0.0; entry = w.0.1 }

pub exchange-requires-clause-some : goal.exchange-requires-clause-some
exchange-requires-clause-some c =
    let s = c.args.self.now in
    (way_as s.bounds.items (fraction c.toward-toward.result) c.deref-2.ensures.value c.deref-3.ensures.value c.deref-4.ensures.value c.in-Moves.is (c.in_ok-entry.ensures.value s.bounds.items c.requires.limits)).1

pub returns-in_ok-push-in-Stuck-clause-conflict : goal.returns-in_ok-push-in-Stuck-clause-conflict
returns-in_ok-push-in-Stuck-clause-conflict c =
    let s = c.args.self.now in
    let r = c.index.result.now in
    let is = read_as s.rows.items c.args.at r (s.tableau.within c.args.bound.column c.args.at c.requires.home) c.index.ensures in
    let w = way_as s.bounds.items (fraction c.toward-toward.result) c.deref-2.ensures.value c.deref-3.ensures.value c.deref-4.ensures.value c.in-Stuck.is (c.in_ok-entry.ensures.value s.bounds.items c.requires.limits) in
    conflict_is s.originals.items s.rows.items s.bounds.items (values s.mains.items) (values s.deltas.items) c.args.bound r c.args.at c.in-Stuck.parts.items c.push.new.self.items c.own.result s.alike is (s.tableau.owner c.args.bound.column c.args.at r c.requires.home is)
    s.mains_solve s.deltas_solve c.requires.among c.requires.broken c.own.ensures w.0 (λ x. w.1 x ∙ ap (λ (t : Fraction). times t (total r.entries.items x)) c.toward-toward.ensures) c.in_ok-push-in-Stuck.ensures.items
