use Rattle.std.proofs.Common.{◌≡◌, drop, map}
use Rattle.std.specs.List.{list_all}
use Rattle.cs_proof.specs.Views.{written}
use Rattle.cs_writable.specs.Tests.{is_writable_step}
use Rattle.cs_writable.proofs.writable.are_writable.Given as goal

abbrev pub invariant-loop-step : goal.invariant-loop-step
invariant-loop-step l = list_all is_writable_step (map written (drop l.step-index l.steps)) ≡ list_all is_writable_step (map written l.steps)
