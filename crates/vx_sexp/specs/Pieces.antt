-- The first s-expression of bytes that come piece by piece.
use Rattle.std.specs.Prelude.{◌≡◌, ℕ, ◌≤◌, ◌<◌, ◌+◌, ◌-◌, ◌*◌, Bool, true, List, ◌∷◌, ◌++◌, length, drop, Option, Some, None}
use Rattle.vx_sexp.specs.declared.token.Kind.{Kind}
use Rattle.vx_sexp.specs.declared.token.Kind.TheVariants as kind
use Rattle.vx_sexp.specs.declared.token.Token.{Token}
use Rattle.vx_sexp.specs.declared.scan.Mode.{Mode}
use Rattle.vx_sexp.specs.declared.scan.Mode.TheVariants as mode
use Rattle.vx_sexp.specs.declared.reader.SexpFault.{SexpFault}
use Rattle.vx_sexp.specs.declared.reader.SexpFault.TheVariants as fault
use Rattle.vx_sexp.specs.declared.reading.Reading.{Reading}
use Rattle.vx_sexp.specs.declared.reading.Begin.{Begin}
use Rattle.vx_sexp.specs.declared.reading.Begin.TheVariants as begin
use Rattle.vx_sexp.specs.declared.reading.Step.{Step}
use Rattle.vx_sexp.specs.declared.reading.Step.TheVariants as step
use Rattle.vx_sexp.specs.Scanning.{scan, Scan, Stops, Runs, Next, Found, Bad, next, token_at, kind_of, is_begun, word_next, closed_next, behind_space}
use Rattle.vx_sexp.specs.First.{Begins, IsFirst, Faults, depth, deepest}
use Rattle.vx_sexp.specs.Views.{between, family}
use Rattle.vx_sexp.specs.declared.token.Token.TheVariants.{Open, Close}

-- the first token, by where the run stops that is being read
abbrev pub found_by : Mode → List ℕ → Scan → Next
found_by mode.Space whole s = behind_space s
found_by mode.Comment whole s = behind_space s
found_by mode.Word whole s = word_next whole s
found_by mode.Text whole s = closed_next kind.Text whole s
found_by mode.Quote whole s = closed_next kind.Text whole s
found_by mode.Bars whole s = closed_next kind.Quoted whole s

-- what the first byte of a token begins
abbrev pub begun_by : Begin → ℕ → List ℕ → Next
begun_by begin.Open b bs = Found Open bs
begun_by begin.Close b bs = Found Close bs
begun_by (begin.Inside m) b bs = found_by m (b ∷ bs) (scan m bs)
begun_by begin.Bad b bs = Bad (b ∷ bs)

-- where the kind is given, the word so far has it
abbrev pub IsKnown : Option Kind → List ℕ → Type 0
IsKnown (Some k) text = kind_of text ≡ Some k
IsKnown None text = Unit {0}

-- a word of this kind, or of none, can go on to one
abbrev pub lives : Option Kind → List ℕ → Bool
lives (Some k) text = true
lives None text = is_begun text

-- These tokens of an expression that isn't at its end were read, with so many lists open, of at most 4096.
pub record SoFar (bytes : List ℕ) (tokens : List Token) (left : List ℕ) (d : ℕ) : Type 0 where
  pub begins : Begins bytes tokens left
  pub deep : depth 0 tokens ≡ d
  pub low : d ≤ 4096
  pub shallow : deepest 0 tokens ≤ 4096

-- Of these bytes so many were looked at: tokens, and the run that is being read. With any more bytes the next token is
-- the one that is found where that run stops.
pub record Reached (r : Reading) (bytes : List ℕ) : Type 0 where
  pub within : r.at ≤ length bytes
  pub begun : r.start ≤ r.at
  pub tokens : List Token
  pub left : List ℕ
  pub so_far : SoFar bytes tokens left r.depth
  pub ahead : (more : List ℕ) → next (left ++ more) ≡ found_by r.mode (drop r.start bytes ++ more) (scan r.mode (drop r.at bytes ++ more))
  pub known : IsKnown r.kind (between r.start r.at bytes)

-- a token was read up to this place, and so many lists are open
abbrev pub fresh : ℕ → ℕ → Reading
fresh at d = record { at = at; depth = d; mode = mode.Space; start = at; kind = None }

-- Behind the tokens so far comes this one, which ends here.
pub record Meets (r : Reading) (bytes : List ℕ) (token : Token) (end : ℕ) : Type 0 where
  pub tokens : List Token
  pub left : List ℕ
  pub so_far : SoFar bytes tokens left r.depth
  pub within : end ≤ length bytes
  pub found : next left ≡ Found token (drop end bytes)

-- Behind the tokens so far and some space a token begins at this place.
pub record Before (r : Reading) (bytes : List ℕ) (at : ℕ) : Type 0 where
  pub tokens : List Token
  pub left : List ℕ
  pub so_far : SoFar bytes tokens left r.depth
  pub within : at < length bytes
  pub ahead : (more : List ℕ) → next (left ++ more) ≡ token_at (drop at bytes ++ more)

-- the run that is being read stops at this place
pub record StopsAt (r : Reading) (bytes : List ℕ) (at : ℕ) : Type 0 where
  pub within : at ≤ length bytes
  pub later : r.at ≤ at
  pub stops : scan r.mode (drop r.at bytes) ≡ Stops (drop at bytes)

-- the bytes end before it stops, while this is being read
pub record RunsToEnd (r : Reading) (bytes : List ℕ) (m : Mode) : Type 0 where
  pub runs : scan r.mode (drop r.at bytes) ≡ Runs
  pub same : family m ≡ family r.mode
  pub on : (more : List ℕ) → scan r.mode (drop r.at bytes ++ more) ≡ scan m more

-- the first s-expression ends here, and has at most 4096 lists open at once
abbrev pub EndsAt : ℕ → List ℕ → Type 0
EndsAt n bytes = (n ≤ length bytes) × (tokens : List Token) × IsFirst bytes tokens (drop n bytes) × (deepest 0 tokens ≤ 4096)

-- why there is none, as `read` says it; memory is not wanted
abbrev pub IsFaulty : SexpFault → List ℕ → Type 0
IsFaulty e bytes = Faults e bytes × (e ≡ fault.Want → ⊥)

-- what a step finds in these bytes
abbrev pub StepIs : Step → List ℕ → Type 0
StepIs (step.On r) bytes = Reached r bytes
StepIs (step.Paused r) bytes = Reached r bytes × Faults (fault.Unfinished (length bytes)) bytes
StepIs (step.Ends n) bytes = EndsAt n bytes
StepIs (step.Faulty e) bytes = IsFaulty e bytes

-- so much is left to do: twice the bytes that weren't looked at, and one for a token that isn't at its end
abbrev pub waits : Mode → ℕ
waits mode.Space = 0
waits mode.Comment = 0
waits m = 1

abbrev pub left_of : Reading → List ℕ → ℕ
left_of r bytes = 2 * (length bytes - r.at) + waits r.mode

-- it goes on, from this place, with no token that isn't at its end
abbrev pub OnAt : Step → ℕ → Type 0
OnAt (step.On r) at = (r.at ≡ at) × (waits r.mode ≡ 0)
OnAt _ at = Unit {0}

-- it goes on, behind this place
abbrev pub Beyond : Step → ℕ → List ℕ → Type 0
Beyond (step.On r) at bytes = (at < r.at) × (r.at ≤ length bytes)
Beyond _ at bytes = Unit {0}

abbrev pub IsNotOn : Step → Type 0
IsNotOn (step.On r) = ⊥
IsNotOn _ = Unit {0}

abbrev pub Falls : Step → Reading → List ℕ → Type 0
Falls (step.On r) before bytes = left_of r bytes < left_of before bytes
Falls _ before bytes = Unit {0}
