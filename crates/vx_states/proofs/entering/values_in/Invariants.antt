use Rattle.std.proofs.Common.{◌≡◌, ◌++◌, map, drop}
use Rattle.vx_heap.specs.Views.{terms_of}
use Rattle.vx_rules.specs.States.{terms_in}
use Rattle.vx_states.specs.SymStates.{binding}
use Rattle.vx_states.proofs.entering.values_in.Given as goal

abbrev pub invariant-loop-variable : goal.invariant-loop-variable
invariant-loop-variable l = terms_of l.values.items ++ terms_in (map binding (drop l.variable-index l.store)) ≡ terms_in (map binding l.store)
