-- Lanes in which nothing has happened are free.
use Rattle.std.proofs.Common.{◌≡◌, ℕ, ◌<◌, ◌≤◌, Bool, false, IsTrue, ◌++◌, [], List, drop, map, refl, ap, ◌∙◌, sym, subst, append-nil, arith}
use Rattle.vx_ast.specs.Syntax.{Program}
use Rattle.vx_smt_meaning.specs.Commands.{Declared}
use Rattle.vx_smt_meaning.specs.Views.{declared_symbol}
use Rattle.vx_smt_meaning.specs.declared.reply.Reply.{Reply}
use Rattle.vx_ends.specs.declared.piece.Piece.{Piece}
use Rattle.vx_live.specs.Functions.{function_symbols}
use Rattle.vx_report.specs.declared.run.MemberRun.{MemberRun}
use Rattle.vx_verifier.specs.declared.line.Child.{Child}
use Rattle.vx_verifier.specs.declared.line.Child.TheVariants.{NotStarted}
use Rattle.vx_verifier.specs.declared.members.Stage.{Stage}
use Rattle.vx_verifier.specs.declared.members.Stage.TheVariants.{Between}
use Rattle.vx_verifier.specs.Lanes.{IsHeld, TellsOf}
use Rattle.vx_verifier.specs.Lines.{lines}
use Rattle.vx_verifier.specs.Members.{runs_events, so_far, every, IsWorking}
use Rattle.vx_verifier.specs.Outsets.{Hub, Outset}

pub held_first : {L : Type 0} (steady : L → Bool) (faults : L → ℕ) (o : Outset) (lane : ℕ) (command : List (List ℕ)) (functions : List Declared) (child : Child L) → child ≡ NotStarted → lane < o.jobs
    → command ≡ o.command → functions ≡ function_symbols o.program → IsHeld steady faults o lane command functions child o.first
held_first {L} steady faults o lane command functions child is within command_is functions_are =
    subst (λ (c : Child L). IsHeld steady faults o lane command functions c o.first) (sym is) record {
      within = within;
      command_is = command_is;
      functions_are = functions_are;
      owed = omega arith;
      since = [];
      ended = sym (append-nil o.first.ended);
      starts = [];
      started = sym (append-nil o.first.starts);
      once = refl;
      faults = omega arith;
      calm = λ calm. record { spawner = calm; starts = refl; links_are = tt; child_is = tt };
    }

pub tells_first : {L : Type 0} (dialogue : L → List Piece) (o : Outset) (lane : ℕ) (child : Child L) → child ≡ NotStarted → TellsOf dialogue o lane child o.first []
tells_first {L} dialogue o lane child is = subst (λ (c : Child L). TellsOf dialogue o lane c o.first []) (sym is) record {
  heard_of = record {
    since = [];
    ended = sym (append-nil o.first.ended);
    checks = [];
    answered = tt;
    heard = ([], refl, (refl, refl, record { none = refl; outside = refl }));
    caused = tt;
    ready = tt;
    lost = refl;
    stands = refl;
  };
  started = refl;
}

pub working_first : (p : Program) (jobs lane next skip : ℕ) (runs : List MemberRun) (replies : List Reply) (stage : Stage) → 1 ≤ jobs → next ≡ 0 → skip ≡ lane → runs ≡ [] → replies ≡ [] → stage ≡ Between
    → IsWorking p jobs lane next skip runs replies stage
working_first p jobs lane next skip runs replies stage some next_is skip_is no_runs no_replies between = rw (next_is, skip_is, no_runs, no_replies, between) record {
  some = some;
  at = tt;
  runs_are = refl;
  dealt = refl;
  ended = λ e. cc;
}

pub events_first : (p : Program) (runs : List MemberRun) (replies : List Reply) (stage : Stage) → runs ≡ [] → stage ≡ Between → runs_events p runs replies ++ so_far p stage ≡ []
events_first p runs replies stage no_runs between = rw (no_runs, between) refl
