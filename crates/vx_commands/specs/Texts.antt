-- What a text that is put tells, where it is no report.
use Rattle.std.specs.Prelude.{◌≡◌, ◌⊎◌, ℕ, ◌≤◌, List, Option, IfSome, codes, length}
use Rattle.vx_ast.specs.Written as written
use Rattle.vx_report.specs.declared.status.Status.{Status}
use Rattle.vx_report.specs.declared.status.Status.TheVariants.{Done, Unread, Refused}
use Rattle.vx_typing.specs.Programs.{IsTyped}
use Rattle.vx_print.specs.Canonical.{canonical_text}
use Rattle.vx_gen.specs.Generated.{generated}
use Rattle.vx_commands.specs.declared.saying.Saying.{Saying}
use Rattle.vx_commands.specs.declared.saying.Saying.TheVariants as saying
use Rattle.vx_commands.specs.Refusals.{RefusesText, RefusesTyping, IsSpelledBy}
use Rattle.vx_commands.specs.Outside.{Change, Texts, HasFailedToRead, IsTooLong}

-- The bytes that `print` puts for a text, with their status: the canonical text of the program that it spells, or the line of its refusal.
abbrev pub SaysPrinted : (text : List ℕ) → Status → List ℕ → Type 0
SaysPrinted text Done bytes = (p : written.Program) × IsSpelledBy text p × (bytes ≡ canonical_text p)
SaysPrinted text Refused bytes = RefusesText text bytes
SaysPrinted text s bytes = ⊥

-- the same of `check`: `ok`, where the program is typed
abbrev pub SaysChecked : (text : List ℕ) → Status → List ℕ → Type 0
SaysChecked text Done bytes = (p : written.Program) × IsSpelledBy text p × IsTyped p × (bytes ≡ codes "ok\n")
SaysChecked text Refused bytes = RefusesText text bytes ⊎ ((p : written.Program) × IsSpelledBy text p × RefusesTyping p bytes)
SaysChecked text s bytes = ⊥

-- the same of `verify`, where there is no report
abbrev pub SaysRefused : (text : List ℕ) → Status → List ℕ → Type 0
SaysRefused text Refused bytes = RefusesText text bytes ⊎ ((p : written.Program) × IsSpelledBy text p × RefusesTyping p bytes)
SaysRefused text s bytes = ⊥

-- what a command says of a text, with its status
abbrev pub Says : Saying → (text : List ℕ) → Status → List ℕ → Type 0
Says saying.Typed text s bytes = SaysChecked text s bytes
Says saying.Canonical text s bytes = SaysPrinted text s bytes

-- what is put of a file: that it can't be read, only where reading failed; that it is too long; or what is said of its text
abbrev pub IsToldOf : (Says : List ℕ → Status → List ℕ → Type 0) → (name : Option (List ℕ)) → Change Texts → Status → List ℕ → Type 0
IsToldOf Says name files Unread bytes =
    (HasFailedToRead files × (bytes ≡ codes "error: cannot read\n")) ⊎ (IsTooLong name files × (bytes ≡ codes "error: longer than 4194304 bytes\n"))
IsToldOf Says name files s bytes = (text : List ℕ) × IfSome (files.before.holds name) (λ known. text ≡ known) × (length text ≤ 4194304) × Says text s bytes

-- the text of so many generated methods
pub record IsGenerated (methods : ℕ) (s : Status) (bytes : List ℕ) : Type 0 where
  pub done : s ≡ Done
  pub text : bytes ≡ generated methods

-- the line of how to use the program, where the words mean nothing
abbrev pub usage : List ℕ
usage = codes "usage: vsil [verify [FILE] [--solver TEXT] [--jobs N] [--certify] | check [FILE] | print [FILE] | gen N | work N [--jobs J] | run FILE METHOD SEED]\n"
