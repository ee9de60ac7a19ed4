use Rattle.std.proofs.Common.{◌≡◌, map, drop}
use Rattle.std.specs.List.{list_all}
use Rattle.vx_terms.specs.Views.{term}
use Rattle.cs_reader.specs.Live.{declared_in}
use Rattle.cs_sorts.specs.Sorting as sorting
use Rattle.cs_answer.proofs.formed.are_live.Given as goal

abbrev pub invariant-loop-t : goal.invariant-loop-t
invariant-loop-t l = list_all (sorting.is_live (declared_in l.symbols)) (map (λ x. term x.value) l.terms) ≡ list_all (sorting.is_live (declared_in l.symbols)) (map (λ x. term x.value) (drop l.t-index l.terms))
