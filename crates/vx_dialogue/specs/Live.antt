-- What is live at the check of a question.
use Rattle.std.specs.Prelude.{◌≡◌, List, [], ◌∷◌, ◌++◌}
use Rattle.vx_terms.specs.Terms.{Term}
use Rattle.vx_terms.specs.Build.{negate}
use Rattle.vx_smt_meaning.specs.Commands.{Level, assertions_of, declared_in}
use Rattle.vx_dialogue.specs.Symbols.{symbols_of}
use Rattle.vx_dialogue.specs.Dialogue.{pushed}
use Rattle.vx_segments.specs.Segments.{Entry, terms}

-- Beside what stands on the levels below all members, the negated condition and the path are asserted, and their symbols are declared; and no more.
pub record IsAsked (base : List Level) (path : List Entry) (condition : Term) (levels : List Level) : Type 0 where
  pub assertions : assertions_of levels ≡ (negate condition ∷ pushed (terms path) []) ++ assertions_of base
  pub symbols : declared_in levels ≡ pushed (symbols_of (terms path) (negate condition)) [] ++ declared_in base
