-- Assertions that hold opposites are true in no interpretation.
use Rattle.std.specs.Prelude.{List}
use Rattle.vx_terms.specs.Terms.{Term}
use Rattle.vx_terms.specs.Interpretations.{IsUnsatisfiable}
use Rattle.cs_opposites.specs.Opposites.{HasOpposites}

abbrev pub Law : Type 0
Law = (ts : List Term) → HasOpposites ts → IsUnsatisfiable ts
