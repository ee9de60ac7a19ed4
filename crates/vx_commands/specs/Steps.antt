-- What the steps of `run` do.
use Rattle.std.specs.Prelude.{◌≡◌, ◌⊎◌, ℕ, ◌≤◌, List, Option, Result, IfOk, IfSome, length, vec_items, string_bytes}
use Rattle.std.specs.declared.alloc.AllocError.{AllocError}
use Rattle.vx_ast.specs.Written as written
use Rattle.vx_typing.specs.Typed.{written_of}
use Rattle.vx_words.specs.declared.order.Order.{Order}
use Rattle.vx_commands.specs.declared.output.Output.{Output}
use Rattle.vx_commands.specs.declared.reading.Parsed.{Parsed}
use Rattle.vx_commands.specs.declared.reading.Parsed.TheVariants as parsed
use Rattle.vx_commands.specs.declared.reading.Checked.{Checked}
use Rattle.vx_commands.specs.declared.reading.Checked.TheVariants as checked
use Rattle.vx_commands.specs.declared.reading.Loaded.{Loaded}
use Rattle.vx_commands.specs.declared.reading.Loaded.TheVariants as loaded
use Rattle.vx_commands.specs.Outside.{Change, Texts, Children, Spawners, Rest, HandsBack, HandBack, HasFailedToRead, IsTooLong, StartsOnly}
use Rattle.vx_commands.specs.Refusals.{RefusesText, RefusesTyping, IsSpelledBy}
use Rattle.vx_commands.specs.Texts.{SaysRefused}
use Rattle.vx_commands.specs.Reports.{StartsBy, IsReportFor}
use Rattle.vx_commands.specs.Promised.{IsText, IsDue, AsksFileOf, StartsSolverOf}

-- A text is what the file holds, where that is told, and not too long; there is none only where reading failed, or the text is too long.
abbrev pub IsLoadedFrom : Option (List ℕ) → Change Texts → Loaded → Type 0
IsLoadedFrom name files (loaded.Text text) = IfSome (files.before.holds name) (λ known. vec_items text ≡ known) × (length (vec_items text) ≤ 4194304)
IsLoadedFrom name files loaded.Unread = HasFailedToRead files
IsLoadedFrom name files loaded.TooLong = IsTooLong name files

-- a program is the one that the text spells
abbrev pub IsParsedFrom : List ℕ → Parsed → Type 0
IsParsedFrom text (parsed.Program p) = IsSpelledBy text (written.written_program p)
IsParsedFrom text (parsed.Refused line) = RefusesText text (string_bytes line)

-- a program is typed
abbrev pub IsCheckedFrom : written.Program → Checked → Type 0
IsCheckedFrom p (checked.Typed t) = written_of t ≡ p
IsCheckedFrom p (checked.Refused line) = RefusesTyping p (string_bytes line)

-- One spawner starts this command at most once in each of so many lanes, and has all links back; and this is so of what is to be put, where memory doesn't run out.
pub record Asks (command : List (List ℕ)) (jobs : ℕ) (Is : Output → Type 0) (spawner : Change Children) (result : Result Output AllocError) : Type 0 where
  pub answered : IfOk result Is
  pub starts : StartsOnly jobs command spawner
  pub back : HandsBack spawner

-- the same of both spawners, of which the solver names one
pub record AsksEither (solver : List (List ℕ)) (jobs : ℕ) (Is : Output → Type 0) (s : Spawners) (result : Result Output AllocError) : Type 0 where
  pub answered : IfOk result Is
  pub starts : StartsBy solver jobs s
  pub back : HandBack s

-- a text is refused, or its program reported
abbrev pub IsVerified : (text : List ℕ) → (solver : List (List ℕ)) → (jobs : ℕ) → Spawners → Output → Type 0
IsVerified text solver jobs s output = (IsText (SaysRefused text) output × Rest s) ⊎ IsReportFor text solver jobs s output

-- what is to be put for an order is due, and no more is asked of files and spawners than it says
pub record Obeys (order : Option Order) (files : Change Texts) (s : Spawners) (result : Result Output AllocError) : Type 0 where
  pub due : IfOk result (IsDue order files s)
  pub asked : AsksFileOf order files
  pub starts : StartsSolverOf order s
  pub back : HandBack s
