-- How what is still to be done ends, and what is to be done of a method.
use Rattle.std.specs.Prelude.{◌≡◌, ℕ, Bool, true, false, Result, Ok, Err, [], ⊤}
use Rattle.vx_ast.specs.Syntax.{Method, Block}
use Rattle.vx_frac.specs.Fractions.{full}
use Rattle.vx_meaning.specs.States.{Store}
use Rattle.vx_meaning.specs.Flatten.{bare}
use Rattle.vx_meaning.specs.Fails.{precondition_of, postcondition_of}
use Rattle.vx_run.specs.Draws.{by_draws}
use Rattle.vx_run.specs.Going.{Going, Outcome, Ended, gives}
use Rattle.vx_run.specs.Widths.{within_128_bits}
use Rattle.vx_run.specs.Evaluated.{take}
use Rattle.vx_run.specs.Given.{give}
use Rattle.vx_run.specs.Configs.{Setting, Config, around, with_taking, put_state, put_taking}
use Rattle.vx_run.specs.Pending.{deeper_by}
use Rattle.vx_run.specs.Tasks.{bodies_by}
use Rattle.vx_run.specs.Changes as changes
use Rattle.vx_run.specs.Frames.{Come, before}
use Rattle.vx_run.specs.Views.{outcome}
use Rattle.vx_run.specs.declared.halt.Halt.{Halt}
use Rattle.vx_run.specs.declared.halt.Halt.TheVariants as halt
use Rattle.vx_run.specs.declared.blame.Blame.TheVariants.{Itself}
use Rattle.vx_run.specs.declared.change.Change.TheVariants.{FromNow, StartTaking, DropTaking}

abbrev pub end_of : Come → Outcome
end_of (Ok r) = Ended
end_of (Err o) = o

-- after a turn it is over, where nothing was left to be done, or goes on to the same end
abbrev pub Turned : Result Bool Halt → Come → Come → Type 0
Turned (Ok true) new old = end_of old ≡ Ended
Turned (Ok false) new old = new ≡ old
Turned (Err (halt.Over end)) new old = Err (outcome end) ≡ old
Turned (Err halt.Want) new old = ⊤

-- with these variables, nothing held, and nobody who waits
abbrev pub first : Store → Config
first x = record { values = []; lists = []; state = bare x []; takings = []; callers = [] }

-- the precondition is given, the body runs, and the postcondition is taken
abbrev pub method_rest : Setting → ℕ → Method → Block → Config → Going ℕ Config
method_rest t n m b = before giving (before (changes.act FromNow) (before running (before (changes.act StartTaking) (before taking (before (changes.act DropTaking) gives))))) where
  giving : Config → Going ℕ Config
  giving c = put_state Itself c (give t.program by_draws within_128_bits (deeper_by t n) t.steps (around c.callers) n full (precondition_of m) c.state)

  running : Config → Going ℕ Config
  running c = put_state Itself c (bodies_by t n (around c.callers) b c.state)

  taking : Config → Going ℕ Config
  taking c = with_taking c (λ h d. put_taking Itself d (take t.program within_128_bits (deeper_by t n) d.state full (postcondition_of m) h))
