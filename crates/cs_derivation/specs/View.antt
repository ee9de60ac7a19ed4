-- What the type of src/ stands for.
use Rattle.std.specs.Prelude.{map}
use Rattle.cs_numbers.specs.Listed.{terms_in}
use Rattle.cs_table.specs.Table.{nodes_in}
use Rattle.cs_proof.specs.Views.{written}
use Rattle.cs_derivation.specs.Reached.{Reached}
use Rattle.cs_derivation.specs.declared.derivation.Derivation.{Derivation}

-- what a derivation has reached
abbrev pub reached : Derivation → Reached
reached d = record { terms = terms_in d.terms; nodes = nodes_in d.nodes; roots = d.roots.items; clauses = map (λ c. c.literals.items) d.clauses.items; steps = map written d.steps.items }
