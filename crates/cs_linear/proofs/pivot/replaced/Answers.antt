use Rattle.std.proofs.Common.{ap, ◌∙◌, refl}
use Rattle.vx_frac.specs.Fraction.{fraction}
use Rattle.cs_linear.specs.Merged.{rest_of}
use Rattle.cs_linear.proofs.Pivots.{replaced_is}
use Rattle.cs_linear.proofs.pivot.replaced.Goals as goal

pub returns-clause-value : goal.returns-clause-value
returns-clause-value c =
    replaced_is c.args.row.now c.args.solved.now _ c.args.column (fraction c.args.factor) c.deref-2.result.now c.deref-3.result.now c.requires.basic
    c.requires.factor
    (c.deref-2.ensures.value ∙ c.in_ok-rest.ensures.value ∙ ap (λ es. rest_of es c.args.column) c.deref.ensures.value)
    c.deref-3.ensures.value refl c.in_ok-entries.ensures.value c.in_ok-entries.ensures.free c.in_ok-entries.ensures.ascends
