use Rattle.std.proofs.Common.{◌≡◌, ◌++◌, map}
use Rattle.vx_meaning.specs.States.{bind}
use Rattle.vx_resolved.specs.Resolved.{declaration}
use Rattle.vx_run.specs.Views.{value}
use Rattle.vx_run.specs.Stores.{store}
use Rattle.vx_run.proofs.binding.bind.Given as goal

abbrev pub invariant-loop-d : goal.invariant-loop-d
invariant-loop-d l =
    store l.variables.items ++ bind (map declaration l.d-iterator.a.rest.now) (map value l.d-iterator.b.rest.now)
    ≡ store l.initial.variables.items ++ bind (map declaration l.fn.declarations) (map value l.fn.values)
