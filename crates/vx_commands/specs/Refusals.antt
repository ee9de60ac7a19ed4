-- The line that is put for a text that is refused: `error at L:C: CODE NAME ARGUMENTS`.
use Rattle.std.specs.Prelude.{◌≡◌, ◌↔◌, ℕ, ◌<◌, ◌≤◌, List, [], ◌∷◌, ◌++◌, Option, Some, None, IfSome, Err, codes, length, take, string_bytes}
use Rattle.std.specs.Fmt.{decimal}
use Rattle.std.specs.Str.{IsUtf8}
use Rattle.std.specs.Str.Lossy.{utf8_valid_len}
use Rattle.vx_ast.specs.declared.Place.{Place}
use Rattle.vx_ast.specs.Written as written
use Rattle.vx_tokens.specs.Tokens.{Token}
use Rattle.vx_tokens.specs.Text.{Scans, Ending, first_place, unmarked, after}
use Rattle.vx_parser.specs.declared.fault.TextFault.{TextFault}
use Rattle.vx_parser.specs.declared.fault.TextFault.TheVariants as unspelled
use Rattle.vx_parser.specs.Faults as text
use Rattle.vx_parser.specs.Spelling.{Spells}
use Rattle.vx_parser.specs.Refusing.{IsRefusal}
use Rattle.vx_parser.specs.Answers.{IsAnswer, answer}
use Rattle.vx_expressions.specs.declared.fault.TypeFault.{TypeFault}
use Rattle.vx_expressions.specs.declared.fault.TypeFault.TheVariants as untyped
use Rattle.vx_expressions.specs.Printed as type
use Rattle.vx_typing.specs.Programs.{program}
use Rattle.vx_expressions.specs.Gives.{told as told_of}
use Rattle.vx_report.specs.Reports.{place_text}

-- each behind a blank
abbrev pub behind_blanks : List (List ℕ) → List ℕ
behind_blanks [] = []
behind_blanks (a ∷ rest) = (codes " " ++ a) ++ behind_blanks rest

abbrev pub title : (code name : List ℕ) → List ℕ
title code name = codes ": " ++ code ++ codes " " ++ name

abbrev pub line : Place → (code name : List ℕ) → (arguments : List (List ℕ)) → List ℕ
line at code name arguments = (codes "error at " ++ place_text at ++ title code name) ++ behind_blanks arguments ++ codes "\n"

abbrev pub listed : Option (List ℕ) → List (List ℕ)
listed None = []
listed (Some a) = a ∷ []

-- of a text that is no program
abbrev pub text_line : TextFault → List ℕ
text_line f = line (text.place_of f) (text.code_of f) (text.name_of f) (listed (text.argument_of f))

abbrev pub type_arguments : TypeFault → List (List ℕ)
type_arguments (untyped.Unknown at x) = string_bytes x ∷ []
type_arguments (untyped.Twice at x) = string_bytes x ∷ []
type_arguments (untyped.Mismatch at e t) = type.expected_word e ∷ type.word_of t ∷ []
type_arguments (untyped.Arity at n m) = decimal n ∷ decimal m ∷ []
type_arguments f = []

-- a fault that stands nowhere is said of the first place
abbrev pub place_or_first : Option Place → Place
place_or_first None = first_place
place_or_first (Some at) = at

-- of a program that isn't typed
abbrev pub type_line : TypeFault → List ℕ
type_line f = line (place_or_first (type.place_of f)) (type.code_of f) (type.title_of f) (type_arguments f)

-- The fault of a text that spells no program: it is too long, it is no text, or it is refused at its first token that no program goes on with, at the first
-- that nests too deep, at one member too many, or at its end.
pub record IsTextFault (bytes : List ℕ) (f : TextFault) : Type 0 where
  pub told : f ≡ unspelled.Want → ⊥
  pub spells_none : (p : written.Program) → Spells bytes p → ⊥
  pub too_long : (f ≡ unspelled.TooLong) ↔ (4194304 < length bytes)
  pub not_utf8 : length bytes ≤ 4194304 → (IsUtf8 bytes → ⊥) → f ≡ unspelled.NotUtf8 (after first_place (unmarked (take (utf8_valid_len bytes) bytes)))
  pub refused : length bytes ≤ 4194304 → IsUtf8 bytes → (ts : List Token) (e : Ending) → Scans first_place (unmarked bytes) ts e → IsRefusal (unmarked bytes) ts e f
  -- its code, name and argument are those of reading the tokens
  pub reads : length bytes ≤ 4194304 → IsUtf8 bytes → (ts : List Token) (e : Ending) → Scans first_place (unmarked bytes) ts e → IsAnswer (unmarked bytes) (Err f) (answer ts e)

-- the first fault of a program
pub record IsTypeFault (p : written.Program) (f : TypeFault) : Type 0 where
  pub told : f ≡ untyped.Want → ⊥
  pub first : IfSome (told_of f) (λ g. program p ≡ Err g)

-- the line of a text that spells no program
abbrev pub RefusesText : List ℕ → List ℕ → Type 0
RefusesText bytes said = (f : TextFault) × IsTextFault bytes f × (said ≡ text_line f)

-- the line of a program that isn't typed
abbrev pub RefusesTyping : written.Program → List ℕ → Type 0
RefusesTyping p said = (f : TypeFault) × IsTypeFault p f × (said ≡ type_line f)

-- the text spells this program, and no other
pub record IsSpelledBy (bytes : List ℕ) (p : written.Program) : Type 0 where
  pub spelled : Spells bytes p
  pub only : (q : written.Program) → Spells bytes q → p ≡ q
