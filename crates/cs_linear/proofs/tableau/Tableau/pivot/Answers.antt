use Rattle.std.proofs.Common.{◌<◌, All, refl, sym, ◌∙◌, subst}
use Rattle.std.proofs.lemmas.Option.{slice_get_within, same_Some}
use Rattle.cs_linear.specs.declared.rows.Row.{Row}
use Rattle.cs_linear.specs.declared.bounds.Bound.{Bound}
use Rattle.cs_linear.specs.Values.{values}
use Rattle.cs_linear.specs.Pivots.{IsRehomed}
use Rattle.cs_linear.proofs.Lists.{read_as}
use Rattle.cs_linear.proofs.Added.{same_tableau, same_alike, same_solves}
use Rattle.cs_linear.proofs.Following.{all_ascend}
use Rattle.cs_linear.proofs.Turned.{turned_there, turned_alike, turned_tableau}
use Rattle.cs_linear.proofs.tableau.Tableau.pivot.Goals as goal

pub rehome-requires : goal.rehome-requires
rehome-requires c =
    let s = c.args.self.now in
    record {
      free = slice_get_within s.homes.items c.index.result.now.basic _ (s.tableau.basic c.args.at c.index.result.now (read_as s.rows.items c.args.at c.index.result.now c.requires.row c.index.ensures));
      basic = slice_get_within s.homes.items c.args.column _ c.requires.column;
    }

pub turn_all-requires-clause-ascend : goal.turn_all-requires-clause-ascend
turn_all-requires-clause-ascend c = all_ascend c.args.self.now.rows.items c.args.self.now.rows.items c.args.self.now.homes.items refl c.args.self.now.tableau

pub invariant_of-self : goal.invariant_of-self
invariant_of-self c =
    let s = c.args.self.now in
    let kept = c.in_err-turn_all.ensures.kept in
    record {
      few = s.few;
      same_mains = s.same_mains;
      same_deltas = s.same_deltas;
      tableau = same_tableau kept refl s.tableau;
      alike = same_alike refl kept s.alike;
      mains_solve = same_solves kept refl s.mains_solve;
      deltas_solve = same_solves kept refl s.deltas_solve;
      known = s.known;
    }

pub invariant_of-self-2 : goal.invariant_of-self-2
invariant_of-self-2 c =
    let s = c.args.self.now in
    let r = c.index-2.result.now in
    let is = read_as s.rows.items c.args.at r c.requires.row c.index-2.ensures in
    let first = read_as s.rows.items c.args.at c.index.result.now c.requires.row c.index.ensures in
    let so = c.in_ok-solved.ensures.value in
    let tu = c.in_ok-turn_all.ensures.value in
    let re = subst (λ (r : Row). IsRehomed s.homes.items r.basic c.args.column c.args.at c.rehome.new.homes.items) (same_Some _ _ (sym first ∙ is)) c.rehome.ensures in
    let count = c.rehome.ensures.count in
    record {
      few = subst (λ n. n < 4294967296) (sym count) s.few;
      same_mains = s.same_mains ∙ sym count;
      same_deltas = s.same_deltas ∙ sym count;
      tableau = turned_tableau s.rows.items c.turn_all.new.rows.items s.homes.items c.rehome.new.homes.items c.args.at c.args.column r c.in_ok-solved.solved s.tableau is c.requires.column so tu re;
      alike = turned_alike s.originals.items s.rows.items c.turn_all.new.rows.items c.args.at c.args.column r c.in_ok-solved.solved is so tu s.alike;
      mains_solve = turned_there s.rows.items c.turn_all.new.rows.items c.args.at c.args.column r c.in_ok-solved.solved is so tu (values s.mains.items) s.mains_solve;
      deltas_solve = turned_there s.rows.items c.turn_all.new.rows.items c.args.at c.args.column r c.in_ok-solved.solved is so tu (values s.deltas.items) s.deltas_solve;
      known = subst (λ n. All (λ (b : Bound). b.column < n) s.bounds.items) (sym count) s.known;
    }
