use Rattle.std.proofs.Common.{◌≡◌, ◌++◌, map, drop}
use Rattle.vx_terms.specs.Views.{term}
use Rattle.cs_ground.proofs.made.copied.Given as goal

abbrev pub invariant-loop-t : goal.invariant-loop-t
invariant-loop-t l = map (λ x. term x.value) l.terms ≡ map (λ x. term x.value) l.all.items ++ map (λ x. term x.value) (drop l.t-index l.terms)
