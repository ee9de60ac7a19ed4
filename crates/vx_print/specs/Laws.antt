-- What is printed reads back.
use Rattle.std.specs.Prelude.{◌≡◌, ℕ, List}
use Rattle.vx_ast.specs.declared.Place.{Place}
use Rattle.vx_ast.specs.Written.{Program}
use Rattle.vx_tokens.specs.Tokens.{Token}
use Rattle.vx_tokens.specs.Text.{Scans, first_place, unmarked, AtEnd}
use Rattle.vx_grammar.specs.ProgramLaws.{ProgramSpelled}
use Rattle.vx_print.specs.Canonical.{canonical_text}
use Rattle.vx_print.specs.Same.{bare_program}

-- the text is made of these tokens up to its end, and they spell the program, whatever its size and its nesting
pub record TextSpells (text : List ℕ) (p : Program) : Type 0 where
  pub tokens : List Token
  pub at : Place
  pub scans : Scans first_place (unmarked text) tokens (AtEnd at)
  pub spelled : ProgramSpelled tokens p

-- the text spells the program but for places, and nothing else
pub record ReadsBack (text : List ℕ) (p : Program) : Type 0 where
  pub program : Program
  pub spells : TextSpells text program
  pub same : bare_program program ≡ bare_program p
  pub only : (q : Program) → TextSpells text q → q ≡ program

-- The canonical text of a program that some text spells reads back.
abbrev pub PrintedReadsBack : Type 0
PrintedReadsBack = (text : List ℕ) (p : Program) → TextSpells text p → ReadsBack (canonical_text p) p

-- Programs that are the same but for places have one canonical text.
abbrev pub PlacesAreNotPrinted : Type 0
PlacesAreNotPrinted = (p q : Program) → bare_program p ≡ bare_program q → canonical_text p ≡ canonical_text q
