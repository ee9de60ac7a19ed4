-- What is generated is a typed program.
use Rattle.std.specs.Prelude.{ℕ, ◌≤◌}
use Rattle.vx_parser.specs.Spelling.{Spells}
use Rattle.vx_typing.specs.Programs.{IsTyped}
use Rattle.vx_gen.specs.Generated.{generated}
use Rattle.vx_gen.specs.Programs.{program_of}

-- the text of so many methods spells the program of as many
abbrev pub GeneratedIsSpelled : Type 0
GeneratedIsSpelled = (n : ℕ) → n ≤ 2000 → Spells (generated n) (program_of n)

-- and this program is typed
abbrev pub GeneratedIsTyped : Type 0
GeneratedIsTyped = (n : ℕ) → n ≤ 2000 → IsTyped (program_of n)
