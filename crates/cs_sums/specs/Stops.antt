-- Why a call ends early, by what ended the call within it.
use Rattle.cs_sums.specs.declared.stop.Stop.{Stop}
use Rattle.cs_sums.specs.declared.stop.Stop.TheVariants as stops
use Rattle.cs_linear.specs.declared.mend.Undecided.{Undecided}
use Rattle.cs_linear.specs.declared.mend.Undecided.TheVariants as undecided
use Rattle.cs_linear.specs.declared.numbers.Stop.{Stop as LinearStop}
use Rattle.cs_linear.specs.declared.numbers.Stop.TheVariants as linear
use Rattle.cs_table.specs.declared.steps.Stop.{Stop as TableStop}
use Rattle.cs_table.specs.declared.steps.Stop.TheVariants as table

abbrev pub by_linear : LinearStop → Stop
by_linear (linear.Over call) = stops.Over call
by_linear linear.Want = stops.Want

abbrev pub by_check : Undecided → Stop
by_check undecided.Budget = stops.Budget
by_check (undecided.Over call) = stops.Over call
by_check undecided.Want = stops.Want

abbrev pub by_table : TableStop → Stop
by_table table.Miss = stops.Miss
by_table table.Want = stops.Want
