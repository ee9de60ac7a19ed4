use Rattle.std.proofs.Common.{◌≡◌, Option, Some, List, slice_get, length, rules, subst, sym, ap, ◌∙◌}
use Rattle.std.proofs.lemmas.Option.{same_Some}
use Rattle.cs_linear.specs.declared.rows.Row.{Row}
use Rattle.cs_linear.specs.Pivots.{IsTurned, chosen}
use Rattle.cs_linear.proofs.Lists.{each_more, read_as}
use Rattle.cs_linear.proofs.pivot.plans.Goals as goal

pub loop-i-preserved : goal.loop-i-preserved
loop-i-preserved c = record {
  count = ap length c.in_ok-push.ensures.items ∙ search rules;
  each = λ i r o er eo.
      each_more (λ i (o : Option Row). (r : Row) → slice_get c.args.rows.now i ≡ Some r → IsTurned c.args.at c.args.column c.args.solved.now i r (chosen o r)) c.loop-i.plans.items c.in_ok-plan.field-0
      (λ i o eo r er. c.loop-i.invariant.each i r o er eo)
      (λ r er.
      let e = subst (λ k. slice_get c.args.rows.now k ≡ Some r) c.loop-i.invariant.count er in
      let is = same_Some _ _ (sym (read_as c.args.rows.now c.loop-i.i c.index-rows-i.result c.loop-i-test.true c.index-rows-i.is) ∙ e) in
      subst (λ k. IsTurned c.args.at c.args.column c.args.solved.now k r (chosen c.in_ok-plan.field-0 r)) (sym c.loop-i.invariant.count)
      (subst (λ r. IsTurned c.args.at c.args.column c.args.solved.now c.loop-i.i r (chosen c.in_ok-plan.field-0 r)) is c.in_ok-plan.ensures.value))
      i o (subst (λ (xs : List (Option Row)). slice_get xs i ≡ Some o) c.in_ok-push.ensures.items eo) r er;
}
