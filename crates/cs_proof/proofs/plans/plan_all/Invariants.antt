use Rattle.std.proofs.Common.{◌≡◌, drop, map}
use Rattle.cs_reader.specs.Live.{declared_in}
use Rattle.cs_proof.specs.Plans.{planned_all}
use Rattle.cs_proof.specs.Views.{written}
use Rattle.cs_proof.specs.Fits.{stand, Fits}
use Rattle.cs_proof.proofs.plans.plan_all.Given as goal

abbrev pub invariant-loop-step : goal.invariant-loop-step
invariant-loop-step l = record {
  value : planned_all (declared_in l.symbols) l.roots (stand l.plans) (map written (drop l.step-index l.steps)) ≡ planned_all (declared_in l.symbols) l.roots (stand l.initial.plans) (map written l.steps);
  fits : Fits l.plans;
}
