use Rattle.std.proofs.Common.{◌∙◌, ap, sym, List, length}
use Rattle.cs_linear.specs.declared.values.Move.{Move}
use Rattle.cs_linear.specs.Limits.{marked}
use Rattle.vx_frac.specs.Fraction.{fraction}
use Rattle.cs_linear.proofs.Following.{all_ascend, all_known, free_known, moved_here}
use Rattle.cs_linear.proofs.Moves.{moved_solves}
use Rattle.cs_linear.proofs.Tightest.{both_marked, marked_count, marked_within}
use Rattle.cs_linear.proofs.tableau.Tableau.move_free.Goals as goal

pub moves-requires-clause-ascend : goal.moves-requires-clause-ascend
moves-requires-clause-ascend c = all_ascend c.args.self.now.rows.items _ c.args.self.now.homes.items c.deref.ensures.value c.args.self.now.tableau

pub moves-requires-clause-known : goal.moves-requires-clause-known
moves-requires-clause-known c = all_known c.args.self.now.rows.items _ c.args.self.now.homes.items c.args.self.now.mains.items _ c.deref.ensures.value c.deref-2.ensures.value c.args.self.now.same_mains c.args.self.now.tableau

pub moves-requires-clause-column : goal.moves-requires-clause-column
moves-requires-clause-column c = free_known c.args.self.now.homes.items c.args.column c.args.self.now.mains.items _ c.deref-2.ensures.value c.args.self.now.same_mains c.requires.free

pub moves-requires-2-clause-ascend : goal.moves-requires-2-clause-ascend
moves-requires-2-clause-ascend c = all_ascend c.args.self.now.rows.items _ c.args.self.now.homes.items c.deref-3.ensures.value c.args.self.now.tableau

pub moves-requires-2-clause-known : goal.moves-requires-2-clause-known
moves-requires-2-clause-known c = all_known c.args.self.now.rows.items _ c.args.self.now.homes.items c.args.self.now.deltas.items _ c.deref-3.ensures.value c.deref-4.ensures.value c.args.self.now.same_deltas c.args.self.now.tableau

pub moves-requires-2-clause-column : goal.moves-requires-2-clause-column
moves-requires-2-clause-column c = free_known c.args.self.now.homes.items c.args.column c.args.self.now.deltas.items _ c.deref-4.ensures.value c.args.self.now.same_deltas c.requires.free

pub invariant_of-self-2 : goal.invariant_of-self-2
invariant_of-self-2 c =
    let s = c.args.self.now in
    let m = moved_here s.rows.items c.deref.result.now s.homes.items c.args.column (fraction c.args.main) s.mains.items c.deref-2.result.now c.carry_out.new.values.items c.in_ok-mains.mains.items c.deref-5.result.now
    c.deref.ensures.value c.deref-2.ensures.value c.deref-5.ensures.value c.carry_out.ensures c.in_ok-mains.ensures.value s.tableau c.requires.free in
    let d = moved_here s.rows.items c.deref-3.result.now s.homes.items c.args.column (fraction c.args.delta) s.deltas.items c.deref-4.result.now c.carry_out-2.new.values.items c.in_ok-deltas.deltas.items c.deref-7.result.now
    c.deref-3.ensures.value c.deref-4.ensures.value c.deref-7.ensures.value c.carry_out-2.ensures c.in_ok-deltas.ensures.value s.tableau c.requires.free in
    record {
      few = s.few;
      same_mains = m.count ∙ s.same_mains;
      same_deltas = d.count ∙ s.same_deltas;
      tableau = s.tableau;
      alike = s.alike;
      mains_solve = moved_solves s.rows.items s.homes.items c.args.column (fraction c.args.main) s.mains.items c.carry_out.new.values.items c.args.main s.tableau s.same_mains m s.mains_solve;
      deltas_solve = moved_solves s.rows.items s.homes.items c.args.column (fraction c.args.delta) s.deltas.items c.carry_out-2.new.values.items c.args.delta s.tableau s.same_deltas d s.deltas_solve;
      known = s.known;
    }

pub returns-clause-marked : goal.returns-clause-marked
returns-clause-marked c =
    let s = c.args.self.now in
    both_marked s.mains.items s.deltas.items c.carry_out.new.values.items c.carry_out-2.new.values.items c.deref-5.result.now c.deref-7.result.now c.args.marks.now.items c.mark.new.marks.items c.mark-2.new.marks.items
    c.carry_out.ensures c.carry_out-2.ensures
    (c.mark.ensures ∙ ap (λ (ms : List Move). marked ms c.args.marks.now.items) (c.deref-6.ensures.value ∙ sym c.deref-5.ensures.value))
    (c.mark-2.ensures ∙ ap (λ (ms : List Move). marked ms c.mark.new.marks.items) (c.deref-8.ensures.value ∙ sym c.deref-7.ensures.value))
    (marked_within c.in_ok-mains.mains.items c.deref-5.result.now s.mains.items c.deref-2.result.now (length s.homes.items) c.args.marks.now.items c.deref-5.ensures.value c.deref-2.ensures.value s.same_mains c.requires.marks c.in_ok-mains.ensures.within)
    (marked_within c.in_ok-deltas.deltas.items c.deref-7.result.now s.deltas.items c.deref-4.result.now (length s.homes.items) c.mark.new.marks.items c.deref-7.ensures.value c.deref-4.ensures.value s.same_deltas (ap length c.mark.ensures ∙ marked_count c.deref-6.result.now c.args.marks.now.items ∙ c.requires.marks) c.in_ok-deltas.ensures.within)

pub mark-requires-2 : goal.mark-requires-2
mark-requires-2 c =
    let s = c.args.self.now in
    marked_within c.in_ok-deltas.deltas.items c.deref-8.result.now s.deltas.items c.deref-4.result.now (length s.homes.items) c.mark.new.marks.items c.deref-8.ensures.value c.deref-4.ensures.value s.same_deltas (ap length c.mark.ensures ∙ marked_count c.deref-6.result.now c.args.marks.now.items ∙ c.requires.marks) c.in_ok-deltas.ensures.within
