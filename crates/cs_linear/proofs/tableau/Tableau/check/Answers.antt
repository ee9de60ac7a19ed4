use Rattle.cs_linear.specs.declared.rows.Row.{Row}
use Rattle.cs_linear.proofs.Lists.{long}
use Rattle.cs_linear.proofs.Mending.{mended_over, paid_at_once, ended_paid, stopped_paid}
use Rattle.cs_linear.specs.Turns.{none, more, HasPaid}
use Rattle.cs_linear.specs.Checks.{AreLimits, AreTight}
use Rattle.cs_linear.specs.declared.bounds.Bound.{Bound}
use Rattle.std.proofs.Common.{rules, suc, List, Vec, Global, ◌∙◌, refl, sym, subst, arith, ap}
use Rattle.cs_linear.proofs.tableau.Tableau.check.Goals as goal

pub returns-in-Err-clause-undecided : goal.returns-in-Err-clause-undecided
returns-in-Err-clause-undecided c = c.cause_of.ensures c.args.meter.now.spent

pub returns-in-Err-all_marked-clause-undecided : goal.returns-in-Err-all_marked-clause-undecided
returns-in-Err-all_marked-clause-undecided c = c.cause_of-in-Err-all_marked.ensures c.args.meter.now.spent

pub loop-marks-preserved : goal.loop-marks-preserved
loop-marks-preserved c =
    let i = c.loop-marks.invariant in
    let t = rw c.in-On.is at c.in_ok-checked.ensures.units in
    let before = i.paid.2 in
    let one = t.1 in
    record {
      rows = c.in_ok-checked.ensures.rows ∙ i.rows;
      width = c.in_ok-checked.ensures.width ∙ i.width;
      bounds = c.in_ok-checked.ensures.bounds ∙ i.bounds;
      limits = subst (λ (bs : Vec Bound Global). AreLimits bs.items c.in-Ok.limits) (sym c.in_ok-checked.ensures.bounds) i.limits;
      tight = subst (λ (bs : Vec Bound Global). AreTight bs.items c.in-Ok.limits) (sym c.in_ok-checked.ensures.bounds) i.tight;
      pending = c.in_ok-checked.ensures.pending;
      marks = c.in_ok-checked.ensures.count ∙ i.marks ∙ sym c.in_ok-checked.ensures.width;
      lower = i.lower ∙ sym c.in_ok-checked.ensures.width;
      spent = omega (arith, i.spent, c.in_ok-checked.ensures.spent);
      paid = (suc i.paid.0, more i.paid.1 (mended_over i.bounds t.0), omega (arith, before, one));
      upper = i.upper ∙ sym c.in_ok-checked.ensures.width;
    }

pub loop-marks-init : goal.loop-marks-init
loop-marks-init c =
    let s = c.args.self.now in
    record {
      rows = refl;
      width = refl;
      bounds = refl;
      limits = subst (λ (bs : List Bound). AreLimits bs c.in-Ok.limits) c.deref.ensures.value c.in-Ok.ensures.limits;
      tight = subst (λ (bs : List Bound). AreTight bs c.in-Ok.limits) c.deref.ensures.value c.in-Ok.ensures.tight;
      pending = λ k e. absurd (c.in-Ok-all_marked.ensures.value k e);
      marks = c.in-Ok-all_marked.ensures.count ∙ c.len-2.ensures ∙ long s.homes;
      lower = c.in-Ok.ensures.lower_count ∙ c.len.ensures ∙ long s.homes;
      spent = omega arith;
      paid = (0, none, omega arith);
      upper = c.in-Ok.ensures.upper_count ∙ c.len.ensures ∙ long s.homes;
    }

pub returns-in-Ended-clause-checked : goal.returns-in-Ended-clause-checked
returns-in-Ended-clause-checked c = rw c.in-Ended.is at c.in_ok-checked.ensures.turn

pub turn-requires-clause-limits : goal.turn-requires-clause-limits
turn-requires-clause-limits c = c.loop-marks.invariant.limits

pub turn-requires-clause-tight : goal.turn-requires-clause-tight
turn-requires-clause-tight c = c.loop-marks.invariant.tight

pub turn-requires-clause-pending : goal.turn-requires-clause-pending
turn-requires-clause-pending c = c.loop-marks.invariant.pending

pub turn-requires-clause-marks : goal.turn-requires-clause-marks
turn-requires-clause-marks c = c.loop-marks.invariant.marks

pub turn-requires-clause-lower : goal.turn-requires-clause-lower
turn-requires-clause-lower c = c.loop-marks.invariant.lower

pub turn-requires-clause-upper : goal.turn-requires-clause-upper
turn-requires-clause-upper c = c.loop-marks.invariant.upper

pub returns-in-Ended-clause-rows : goal.returns-in-Ended-clause-rows
returns-in-Ended-clause-rows c = ap (λ (v : Vec Row Global). v.items) (c.in_ok-checked.ensures.rows ∙ c.loop-marks.invariant.rows)

pub returns-in-Ended-clause-width : goal.returns-in-Ended-clause-width
returns-in-Ended-clause-width c = c.in_ok-checked.ensures.width ∙ c.loop-marks.invariant.width

pub returns-in-Ended-clause-bounds : goal.returns-in-Ended-clause-bounds
returns-in-Ended-clause-bounds c = ap (λ (v : Vec Bound Global). v.items) (c.in_ok-checked.ensures.bounds ∙ c.loop-marks.invariant.bounds)

pub returns-in-Ended-clause-spent : goal.returns-in-Ended-clause-spent
returns-in-Ended-clause-spent c = omega (arith, c.in_ok-checked.ensures.spent, c.loop-marks.invariant.spent)

pub returns-in_err-checked-clause-rows : goal.returns-in_err-checked-clause-rows
returns-in_err-checked-clause-rows c = ap (λ (v : Vec Row Global). v.items) (c.in_err-checked.ensures.rows ∙ c.loop-marks.invariant.rows)

pub returns-in_err-checked-clause-width : goal.returns-in_err-checked-clause-width
returns-in_err-checked-clause-width c = c.in_err-checked.ensures.width ∙ c.loop-marks.invariant.width

pub returns-in_err-checked-clause-bounds : goal.returns-in_err-checked-clause-bounds
returns-in_err-checked-clause-bounds c = ap (λ (v : Vec Bound Global). v.items) (c.in_err-checked.ensures.bounds ∙ c.loop-marks.invariant.bounds)

pub returns-in_err-checked-clause-spent : goal.returns-in_err-checked-clause-spent
returns-in_err-checked-clause-spent c = omega (arith, c.in_err-checked.ensures.spent, c.loop-marks.invariant.spent)

pub returns-in-Ended-clause-paid : goal.returns-in-Ended-clause-paid
returns-in-Ended-clause-paid c =
    let p = c.loop-marks.invariant.paid in
    ended_paid c.args.self.now _ _ _ _ p.0 p.1 p.2 _ (rw c.in-Ended.is at c.in_ok-checked.ensures.units)

pub returns-in_err-checked-clause-stopped : goal.returns-in_err-checked-clause-stopped
returns-in_err-checked-clause-stopped c =
    let p = c.loop-marks.invariant.paid in
    let h : HasPaid c.args.self.now c.args.meter.now.spent c.turn.new.meter.spent c.in_err-checked.field-0.0 = stopped_paid c.args.self.now _ _ _ _ p.0 p.1 p.2 _ c.in_err-checked.ensures.stopped in
    search rules

pub returns-in-Err-clause-stopped : goal.returns-in-Err-clause-stopped
returns-in-Err-clause-stopped c = paid_at_once c.args.self.now c.args.meter.now.spent c.cause_of.result

pub returns-in-Err-all_marked-clause-stopped : goal.returns-in-Err-all_marked-clause-stopped
returns-in-Err-all_marked-clause-stopped c = paid_at_once c.args.self.now c.args.meter.now.spent c.cause_of-in-Err-all_marked.result
