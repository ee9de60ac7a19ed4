use Rattle.cs_cong.proofs.Same.{unequal, same_here, other_here, at_end}
use Rattle.cs_cong.specs.Merged.{current}
use Rattle.std.proofs.Common.{sym, ◌∙◌}
use Rattle.cs_cong.proofs.congruent.are_same.Goals as goal

pub returns-then-xs-ys : goal.returns-then-xs-ys
returns-then-xs-ys c = sym (unequal (current c.args.merges.now.log.items) c.args.xs.now c.args.ys.now c.if-xs-ys.true)

pub returns-then-now : goal.returns-then-now
returns-then-now c = sym (c.loop-at.invariant ∙ other_here (current c.args.merges.now.log.items) c.args.xs.now c.args.ys.now c.loop-at.at c.loop-at-test.true c.if-xs-ys.false (λ e. c.if-now.true (c.now.ensures.value ∙ e ∙ sym c.now-in-loop-at.ensures.value)))

pub loop-at-preserved : goal.loop-at-preserved
loop-at-preserved c = c.loop-at.invariant ∙ same_here (current c.args.merges.now.log.items) c.args.xs.now c.args.ys.now c.loop-at.at c.loop-at-test.true c.if-xs-ys.false (sym c.now.ensures.value ∙ c.if-now.false ∙ c.now-in-loop-at.ensures.value)

pub returns : goal.returns
returns c = sym (c.loop-at.invariant ∙ at_end (current c.args.merges.now.log.items) c.args.xs.now c.args.ys.now c.loop-at.at c.loop-at-test.false c.if-xs-ys.false)
