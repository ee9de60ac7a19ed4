use Rattle.std.proofs.Common.{◌≡◌}
use Rattle.std.specs.List.{list_all}
use Rattle.vx_resolved.specs.Settled.{settled}
use Rattle.vx_run.specs.Given.{grounded}
use Rattle.vx_run.specs.Held.{heap, entries}
use Rattle.vx_run.specs.Holding.{holdings}
use Rattle.vx_run.proofs.possible.are_grounded.Given as goal

abbrev pub invariant-loop-left : goal.invariant-loop-left
invariant-loop-left l =
    list_all (λ e. grounded (settled l.program) l.steps (heap l.heap.value) (holdings l.held) e.0) (entries l.left)
    ≡ list_all (λ e. grounded (settled l.program) l.steps (heap l.heap.value) (holdings l.held) e.0) (holdings l.held)
