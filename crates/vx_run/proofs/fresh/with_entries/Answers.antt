use Rattle.std.proofs.Common.{ℕ, ◌∷◌, sym, ◌∙◌, ap}
use Rattle.vx_frac.specs.Fraction.{fraction}
use Rattle.vx_run.specs.Configs.{around}
use Rattle.vx_run.specs.ConfigViews.{config_of}
use Rattle.vx_run.specs.Fresh.{largest}
use Rattle.vx_run.specs.Given.{held_by_all}
use Rattle.vx_run.specs.Held.{entries, resource}
use Rattle.vx_run.specs.Referenced.{of_one, in_part}
use Rattle.vx_run.specs.declared.entries.Entries.{Entries}
use Rattle.vx_run.proofs.Largest.{largest_more}
use Rattle.vx_run.proofs.fresh.with_entries.Goals as goal

pub loop-left-preserved : goal.loop-left-preserved
loop-left-preserved c =
    let all = held_by_all (around (config_of c.args.of.now).callers) (config_of c.args.of.now).state in
    let r = resource c.in-Entry.r in
    ap (λ (n : ℕ). largest (n ∷ in_part all (entries c.deref-left.result.now))) c.in_ok-most-in-Entry.ensures
    ∙ ap (λ (e : Entries). largest (largest (c.loop-left.most ∷ of_one all r) ∷ in_part all (entries e))) c.deref-left.ensures
    ∙ largest_more (λ e. of_one all e.0) c.loop-left.most (r, fraction c.in-Entry.field-1) (entries c.in-Entry.rest.value)
    ∙ ap (λ (e : Entries). largest (c.loop-left.most ∷ in_part all (entries e))) (sym c.in-Entry.is)
    ∙ c.loop-left.invariant
