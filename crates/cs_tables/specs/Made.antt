-- What is made, unless memory runs out.
use Rattle.std.specs.Prelude.{◌≡◌, Ok, Err}
use Rattle.std.specs.declared.result.Result.{Result}
use Rattle.cs_table.specs.declared.steps.Stop.{Stop}
use Rattle.cs_table.specs.declared.steps.Stop.TheVariants.{Want}

-- what was made is so, and nothing but memory was missed
abbrev pub IsMade : {X : Type 0} → (X → Type 0) → Result X Stop → Type 0
IsMade P (Ok x) = P x
IsMade P (Err e) = e ≡ Want
