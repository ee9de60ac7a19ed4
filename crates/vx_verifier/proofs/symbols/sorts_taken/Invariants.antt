use Rattle.std.proofs.Common.{◌≡◌, ◌++◌, ◌∷◌, drop, map}
use Rattle.vx_terms.specs.Sorts.{SnapSort}
use Rattle.vx_terms.specs.Views.{sort}
use Rattle.vx_resolved.specs.Resolved.{declaration}
use Rattle.vx_live.specs.Functions.{sorts_of_types}
use Rattle.vx_verifier.proofs.symbols.sorts_taken.Given as goal

abbrev pub invariant-loop-d : goal.invariant-loop-d
invariant-loop-d l = map sort l.takes.items ++ sorts_of_types (map declaration (drop l.d-index l.parameters)) ≡ SnapSort ∷ sorts_of_types (map declaration l.parameters)
