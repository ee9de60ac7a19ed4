-- Entries of what was taken, in code.
use Rattle.vx_frac.specs.Fraction.{fraction}
use Rattle.vx_frac.specs.Fractions.{Fraction}
use Rattle.vx_meaning.specs.States.{Resource}
use Rattle.vx_run.specs.Held.{resource}
use Rattle.vx_run.specs.declared.gone.Taken.{Taken}

abbrev pub taken : Taken → Resource × Fraction
taken e = (resource e.resource.now, fraction e.amount)
