use Rattle.std.proofs.Common.{◌∙◌, ap, sym}
use Rattle.vx_frac.specs.Fraction.{fraction}
use Rattle.vx_frac.specs.Fractions.{Fraction, is_below}
use Rattle.cs_linear.specs.Values.{values}
use Rattle.cs_linear.specs.declared.bounds.Side.TheVariants.{AtLeast, AtMost}
use Rattle.cs_linear.proofs.Lists.{read_as}
use Rattle.cs_linear.proofs.Judged.{judge_is, no_sign, value_is}
use Rattle.cs_linear.proofs.check.judge.Goals as goal

pub returns-then-is_less-clause-value : goal.returns-then-is_less-clause-value
returns-then-is_less-clause-value c bounds l =
    let q = c.in_ok-multiplier.multiplier in
    judge_is AtLeast bounds c.args.limits.now.lower.items (values c.args.mains.now) (values c.args.deltas.now) (fraction c.args.toward) c.args.entry c.index.result.now q _ c.block.result l.lower
    (read_as c.args.limits.now.lower.items c.args.entry.column c.index.result.now c.requires.lower c.index.ensures) c.in_ok-multiplier.ensures.value
    (ap (λ (z : Fraction). is_below z (fraction q)) (sym c.zero.ensures) ∙ sym c.is_less.ensures ∙ c.if-is_less.true)
    (value_is c.args.mains.now c.args.deltas.now c.args.entry.column c.index-mains-at.result c.index-deltas-at.result c.requires.mains c.requires.deltas c.index-mains-at.is c.index-deltas-at.is) c.block.ensures

pub returns-then-is_less-2-clause-value : goal.returns-then-is_less-2-clause-value
returns-then-is_less-2-clause-value c bounds l =
    let q = c.in_ok-multiplier.multiplier in
    judge_is AtMost bounds c.args.limits.now.upper.items (values c.args.mains.now) (values c.args.deltas.now) (fraction c.args.toward) c.args.entry c.index-then-is_less-2.result.now q _ c.block-then-is_less-2.result l.upper
    (read_as c.args.limits.now.upper.items c.args.entry.column c.index-then-is_less-2.result.now c.requires.upper c.index-then-is_less-2.ensures) c.in_ok-multiplier.ensures.value
    (ap (λ (z : Fraction). is_below (fraction q) z) (sym c.zero-2.ensures) ∙ sym c.is_less-2.ensures ∙ c.if-is_less-2.true)
    (value_is c.args.mains.now c.args.deltas.now c.args.entry.column c.index-mains-at.result c.index-deltas-at.result c.requires.mains c.requires.deltas c.index-mains-at.is c.index-deltas-at.is) c.block-then-is_less-2.ensures

pub returns-clause-value : goal.returns-clause-value
returns-clause-value c bounds l =
    let q = c.in_ok-multiplier.multiplier in
    sym c.in_ok-multiplier.ensures.value
    ∙ no_sign q (ap (λ (z : Fraction). is_below z (fraction q)) (sym c.zero.ensures) ∙ sym c.is_less.ensures ∙ c.if-is_less.false) (ap (λ (z : Fraction). is_below (fraction q) z) (sym c.zero-2.ensures) ∙ sym c.is_less-2.ensures ∙ c.if-is_less-2.false)
