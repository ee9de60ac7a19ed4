use Rattle.std.proofs.Common.{◌≡◌, map, drop}
use Rattle.std.specs.List.{list_any}
use Rattle.vx_terms.specs.Views.{term}
use Rattle.cs_answer.specs.Causes as clean
use Rattle.cs_answer.proofs.large.has_large_among.Given as goal

abbrev pub invariant-loop-t : goal.invariant-loop-t
invariant-loop-t l = list_any clean.is_large (map (λ x. term x.value) l.terms) ≡ list_any clean.is_large (map (λ x. term x.value) (drop l.t-index l.terms))
