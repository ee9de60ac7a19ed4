use Rattle.std.proofs.Common.{ap, ◌∙◌, refl, ◌++◌, ◌∷◌, []}
use Rattle.vx_frac.specs.Fraction.{fraction}
use Rattle.cs_linear.specs.Numbers.{times}
use Rattle.cs_linear.specs.Merged.{rest_of}
use Rattle.cs_linear.specs.declared.rows.Entry.{Entry}
use Rattle.cs_linear.proofs.Pivots.{solved_is}
use Rattle.cs_linear.proofs.pivot.solved.Goals as goal

pub returns-clause-value : goal.returns-clause-value
returns-clause-value c =
    let e : Entry = record { column = c.args.row.now.basic; factor = c.in_ok-inverse.inverse } in
    solved_is c.args.row.now _ c.args.column (fraction c.args.factor) (fraction c.in_ok-inverse.inverse) (fraction c.in_ok-negated.negated) e c.deref-2.result.now c.deref-3.result.now refl
    c.requires.factor c.in_ok-inverse.ensures.value
    (c.in_ok-negated.ensures.value ∙ ap (times (fraction c.in_ok-inverse.inverse)) c.minus_one.ensures)
    (c.deref-2.ensures.value ∙ c.in_ok-push.ensures.items ∙ ap (λ es. es ++ e ∷ []) c.new-first.ensures.items) refl refl
    (c.deref-3.ensures.value ∙ c.in_ok-rest.ensures.value ∙ ap (λ es. rest_of es c.args.column) c.deref.ensures.value)
    c.in_ok-entries.ensures.value c.in_ok-entries.ensures.free c.in_ok-entries.ensures.ascends
