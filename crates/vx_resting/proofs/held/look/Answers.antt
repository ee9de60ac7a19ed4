use Rattle.std.proofs.Common.{◌≡◌, ◌∙◌, ℕ, sym, subst}
use Rattle.vx_resolved.specs.Settled.{settled}
use Rattle.vx_graph.specs.Listed.{is_in}
use Rattle.vx_resting.specs.Held.{held_at, or_held_by}
use Rattle.vx_resting.proofs.Firsts.{first_after_passed, first_after_failed}
use Rattle.vx_resting.proofs.held.look.Goals as goal

pub returns-then-has_passed : goal.returns-then-has_passed
returns-then-has_passed c = first_after_passed (settled c.args.program.now) c.args.run.now c.args.held.now (sym c.has_passed.ensures ∙ c.if-has_passed.true)

pub returns : goal.returns
returns c =
    let p = settled c.args.program.now in
    let others = c.in_ok-others.others.items in
    let marked = subst (λ ms. (n : ℕ) → held_at c.mark_all.new.held n ≡ or_held_by (held_at c.mark.new.held n) (is_in ms n) c.args.run.now.member) c.deref.ensures.value c.mark_all.ensures in
    first_after_failed p c.args.run.now others c.args.held.now c.mark.new.held c.mark_all.new.held c.requires.named (sym c.has_passed.ensures ∙ c.if-has_passed.false) c.in_ok-others.ensures.members c.mark.ensures marked
