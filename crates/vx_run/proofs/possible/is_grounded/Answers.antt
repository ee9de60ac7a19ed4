use Rattle.std.proofs.Common.{sym, ◌∙◌}
use Rattle.vx_frac.specs.Fraction.{fraction}
use Rattle.vx_frac.proofs.Reduced.{lowest_fraction}
use Rattle.vx_resolved.specs.Settled.{settled}
use Rattle.vx_run.specs.Flattening.{found}
use Rattle.vx_run.specs.Held.{heap, resource}
use Rattle.vx_run.specs.Holding.{holdings}
use Rattle.vx_run.proofs.Bounded.{not_held, is_held}
use Rattle.vx_run.proofs.Written.{resource_written}
use Rattle.vx_run.proofs.possible.is_grounded.Goals as goal

pub returns-then-not-is_above_none : goal.returns-then-not-is_above_none
returns-then-not-is_above_none c =
    not_held (settled c.args.program.now) c.args.steps (heap c.args.heap.now.value) (holdings c.args.held.now) (resource c.args.r.now) (fraction c.amount-a.result) c.amount-a.ensures
    (sym c.is_above_none.ensures ∙ c.if-not-is_above_none.true)

pub returns-in_ok-there-in-Folded : goal.returns-in_ok-there-in-Folded
returns-in_ok-there-in-Folded c =
    let a = fraction c.amount-a.result in
    let r = resource c.args.r.now in
    is_held (settled c.args.program.now) c.args.steps (heap c.args.heap.now.value) (holdings c.args.held.now) r a a (found c.new-inner.result.items) (found c.find_all.new.all.items)
    c.in_ok-there-in-Folded.there c.amount-a.ensures (sym c.is_above_none.ensures ∙ c.if-not-is_above_none.false)
    (c.in_ok-there-in-Folded.ensures r a (resource_written c.args.r.now ∙ sym c.in_ok-same-in-Folded.ensures) (lowest_fraction c.amount-a.result))
