-- Which texts spell which programs.
use Rattle.std.specs.Prelude.{◌≡◌, ℕ, ◌≤◌, List, Result, Ok, Err, length}
use Rattle.std.specs.Str.{IsUtf8}
use Rattle.vx_ast.specs.declared.Place.{Place}
use Rattle.vx_ast.specs.declared.Program as the_program
use Rattle.vx_ast.specs.Written.{Program, written_program}
use Rattle.vx_tokens.specs.Tokens.{Token}
use Rattle.vx_tokens.specs.Text.{Scans, first_place, unmarked, AtEnd}
use Rattle.vx_grammar.specs.ProgramLaws.{ProgramWithin}
use Rattle.vx_parser.specs.declared.fault.TextFault as the_fault
use Rattle.vx_parser.specs.declared.fault.TextFault.TheVariants as faults

-- The text is short enough, it is made of these tokens up to its end, and they spell the program within the limits.
pub record Spells (text : List ℕ) (p : Program) : Type 0 where
  pub short : length text ≤ 4194304
  pub utf8 : IsUtf8 text
  pub tokens : List Token
  pub at : Place
  pub scans : Scans first_place (unmarked text) tokens (AtEnd at)
  pub within : ProgramWithin tokens p

-- this program is answered, unless memory runs out
abbrev pub IsProgram : Result the_program.Program the_fault.TextFault → Program → Type 0
IsProgram (Ok q) p = written_program q ≡ p
IsProgram (Err e) p = e ≡ faults.Want
