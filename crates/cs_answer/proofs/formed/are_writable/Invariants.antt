use Rattle.std.proofs.Common.{◌≡◌, map, drop}
use Rattle.std.specs.List.{list_all}
use Rattle.vx_terms.specs.Views.{term}
use Rattle.cs_writable.specs.Tests as writable
use Rattle.cs_answer.proofs.formed.are_writable.Given as goal

abbrev pub invariant-loop-t : goal.invariant-loop-t
invariant-loop-t l = list_all writable.is_writable_term (map (λ x. term x.value) l.terms) ≡ list_all writable.is_writable_term (map (λ x. term x.value) (drop l.t-index l.terms))
