use Rattle.std.proofs.Common.{map, drop}
use Rattle.std.specs.Prelude.{◌↔◌}
use Rattle.vx_terms.specs.Views.{term}
use Rattle.vx_terms.specs.Interpretations.{AllTrue}
use Rattle.cs_model.specs.Models.{interpretation}
use Rattle.cs_model.proofs.valuing.is_model.Given as goal

-- all are true where those from this one on are
abbrev pub invariant-loop-assertion : goal.invariant-loop-assertion
invariant-loop-assertion l =
    AllTrue (interpretation l.model.entries.items) (map (λ x. term x.value) l.assertions)
    ↔ AllTrue (interpretation l.model.entries.items) (map (λ x. term x.value) (drop l.assertion-index l.assertions))
