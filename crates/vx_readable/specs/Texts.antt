-- What a text says of the numerals of its program.
use Rattle.std.specs.Prelude.{ℕ, List}
use Rattle.vx_ast.specs.declared.Place.{Place}
use Rattle.vx_ast.specs.Written as written
use Rattle.vx_ast.specs.Resolve.{program}
use Rattle.vx_tokens.specs.Tokens.{Token}
use Rattle.vx_tokens.specs.Text.{Ending, Scans}
use Rattle.vx_grammar.specs.ProgramLaws.{ProgramSpelled}
use Rattle.vx_readable.specs.Numerals.{HasSmallNumerals}

-- where a text has these tokens, and they spell a program, its numerals are below 2^127, when its names are settled
abbrev pub SmallNumeralsLaw : Type 0
SmallNumeralsLaw = (at : Place) (text : List ℕ) (tokens : List Token) (ending : Ending) (p : written.Program) → Scans at text tokens ending → ProgramSpelled tokens p → HasSmallNumerals (program p)
