-- A question that is sent whole, above the levels below all members. What is sent of it is compared with this.
use Rattle.std.specs.Prelude.{List, [], ◌∷◌, ◌++◌}
use Rattle.vx_terms.specs.Terms.{Term}
use Rattle.vx_terms.specs.Build.{negate}
use Rattle.vx_smt_meaning.specs.Commands.{Command, Assert, Push}
use Rattle.vx_dialogue.specs.Preamble.{declarations}
use Rattle.vx_dialogue.specs.Symbols.{symbols_of}

abbrev pub assertions : List Term → List Command
assertions [] = []
assertions (t ∷ ts) = Assert t ∷ assertions ts

-- the member's level, and the question's own with all that it asserts
abbrev pub question : List Term → Term → List Command
question path condition = ((Push 1 ∷ Push 1 ∷ declarations (symbols_of path (negate condition))) ++ assertions path) ++ Assert (negate condition) ∷ []
