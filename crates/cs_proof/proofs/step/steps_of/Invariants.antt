use Rattle.std.proofs.Common.{◌≡◌, map}
use Rattle.cs_reader.specs.Live.{declared_in}
use Rattle.cs_reader.specs.Steps.{step}
use Rattle.cs_proof.specs.Views.{written}
use Rattle.cs_proof.specs.Meant.{meant}
use Rattle.cs_proof.proofs.step.steps_of.Given as goal

abbrev pub invariant-loop-step : goal.invariant-loop-step
invariant-loop-step l = map written l.steps.items ≡ map (meant (declared_in l.symbols)) (map step l.yielded)
