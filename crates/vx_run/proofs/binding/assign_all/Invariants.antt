use Rattle.std.proofs.Common.{◌≡◌, map}
use Rattle.vx_meaning.specs.States.{assign_all}
use Rattle.vx_resolved.specs.Resolved.{names_of}
use Rattle.vx_run.specs.Views.{value}
use Rattle.vx_run.specs.Stores.{store}
use Rattle.vx_run.proofs.binding.assign_all.Given as goal

abbrev pub invariant-loop-name : goal.invariant-loop-name
invariant-loop-name l =
    assign_all (names_of l.name-iterator.a.rest.now) (map value l.name-iterator.b.rest.now) (store l.variables.items)
    ≡ assign_all (names_of l.fn.names) (map value l.fn.values) (store l.initial.variables.items)
