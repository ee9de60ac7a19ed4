-- What the cases of numbers take of a meter.
use Rattle.std.specs.Prelude.{⊤, ℕ, ◌<◌}
use Rattle.cs_decide.specs.declared.figures.Found.{Found}
use Rattle.cs_decide.specs.declared.figures.Found.TheVariants as found

-- where a clause tells cases, a unit was spent
abbrev pub SpendsOnCases : ℕ → ℕ → Found → Type 0
SpendsOnCases before after (found.Lemma lemma) = ⊤
SpendsOnCases before after (found.Cases cases) = before < after
SpendsOnCases before after found.Values = ⊤
