use Rattle.std.proofs.Common.{◌≡◌, true, sym, subst}
use Rattle.std.specs.Prelude.{if◌then◌else◌}
use Rattle.vx_frac.specs.Fraction.{fraction}
use Rattle.vx_frac.specs.Fractions.{same_fraction, sum}
use Rattle.vx_meaning.specs.States.{Resource, same_resource, amount}
use Rattle.vx_run.specs.Held.{resource, entries, told_total}
use Rattle.vx_run.specs.declared.entries.Entries.{Entries}
use Rattle.vx_run.proofs.Totals.{total_more}
use Rattle.vx_run.proofs.holdings.Holdings.entered.Goals as goal

pub invariant_of-result : goal.invariant_of-result
invariant_of-result c = record {
  totals = λ x.
      let r = resource c.args.r.now in
      let h = c.args.self.now.entries.value in
      let a = fraction c.args.a in
      let t = fraction c.args.total in
      let Shows = λ (y : Resource) (e : Entries). same_fraction (if same_resource x y then t else told_total e x) (if same_resource x y then sum a (amount (entries e) x) else amount (entries e) x) ≡ true in
      let told : Shows r h = total_more r x a t (told_total h x) (entries h) (c.args.self.now.totals x) c.requires in
      let cloned = c.in_ok-clone.field-0.value in
      let kept : Shows r cloned = subst (λ (e : Entries). Shows r e) (sym c.in_ok-clone.ensures.cases) told in
      let here : Shows (resource c.in_ok-copy.field-0) cloned = subst (λ (y : Resource). Shows y cloned) (sym c.in_ok-copy.ensures) kept in
      subst (λ (z : Entries). same_fraction (told_total z x) (amount (entries z) x) ≡ true) (sym c.in_ok-new.ensures.ok) here;
}
