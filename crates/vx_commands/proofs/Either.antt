-- Where one spawner is asked, the other rests.
use Rattle.std.proofs.Common.{◌≡◌, ℕ, Bool, true, false, List, Result, sym, subst}
use Rattle.std.specs.declared.alloc.AllocError.{AllocError}
use Rattle.std.proofs.lemmas.Result.{IfOk-weaker}
use Rattle.vx_ast.specs.Syntax.{Program}
use Rattle.vx_commands.specs.declared.output.Output.{Output}
use Rattle.vx_commands.specs.declared.reports.Telling.TheVariants.{Lines}
use Rattle.vx_commands.specs.Outside.{Spawners, IsUnchanged, StartsOnly}
use Rattle.vx_commands.specs.Reports.{is_companion, ByWhom, IsReport, IsCompanionReport, IsReportBy}
use Rattle.vx_commands.specs.Steps.{Asks, AsksEither}
use Rattle.vx_commands.proofs.Untouched.{rests_back}

module _ (solver : List (List ℕ)) (jobs : ℕ) (p : Program) (s : Spawners) (result : Result Output AllocError) where
  by : (b : Bool) → is_companion solver ≡ b → (A B : Type 0) → ByWhom b A B → ByWhom (is_companion solver) A B
  by b is A B h = subst (λ x. ByWhom x A B) (sym is) h

  pub by_companion : is_companion solver ≡ true → IsUnchanged s.handed → Asks solver jobs (IsCompanionReport Lines p jobs solver s.companion) s.companion result
      → AsksEither solver jobs (IsReportBy solver jobs p s) s result
  by_companion is rests h = record {
    answered = IfOk-weaker result _ _ (λ output it. by true is (IsCompanionReport Lines p jobs solver s.companion output) (IsReport Lines p jobs solver s.handed output) it) h.answered;
    starts = by true is _ _ (h.starts, rests);
    back = record { companion = h.back; handed = rests_back s.handed rests };
  }

  pub by_handed : is_companion solver ≡ false → IsUnchanged s.companion → Asks solver jobs (IsReport Lines p jobs solver s.handed) s.handed result
      → AsksEither solver jobs (IsReportBy solver jobs p s) s result
  by_handed is rests h = record {
    answered = IfOk-weaker result _ _ (λ output it. by false is (IsCompanionReport Lines p jobs solver s.companion output) (IsReport Lines p jobs solver s.handed output) it) h.answered;
    starts = by false is _ _ (rests, h.starts);
    back = record { companion = rests_back s.companion rests; handed = h.back };
  }
