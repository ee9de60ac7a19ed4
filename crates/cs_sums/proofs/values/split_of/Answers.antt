use Rattle.std.proofs.Common.{rules, ◌≡◌, ◌<◌, ◌≤◌, Option, IfNone, length, below_more, arith, subst}
use Rattle.std.proofs.lemmas.Option.{slice_get_within}
use Rattle.vx_frac.specs.declared.Frac.{Frac}
use Rattle.cs_sums.specs.declared.values.Split.{Split}
use Rattle.cs_sums.specs.Fractional.{IsFractionAt}
use Rattle.cs_sums.proofs.values.split_of.Goals as goal

pub loop-column-preserved : goal.loop-column-preserved
loop-column-preserved c =
    below_more _ _ c.loop-column.invariant
    (subst (λ (o : Option Split). IfNone o ((value : Frac) → ¬ IsFractionAt c.args.columns.now.columns.items c.args.values.now c.loop-column.column value)) c.in_default-2.is c.in_ok-split.ensures.whole)

pub returns-clause-whole : goal.returns-clause-whole
returns-clause-whole c =
    let width : length c.args.columns.now.columns.items ≡ c.in-Ok.width = search rules in
    let passed : c.in-Ok.width ≤ c.loop-column.column = c.loop-column-test.false in
    λ at value found.
    let within : at < length c.args.columns.now.columns.items = slice_get_within _ at found.column found.found in
    c.loop-column.invariant at (omega arith) value found
