-- Where all members are verified by right checks, none fails, and so no whole run does.
use Rattle.std.proofs.Common.{◌≡◌, ℕ, zero, suc, ◌+◌, ◌<◌, true, List, [], ◌∷◌, take, drop, slice_get, Some, ap, ◌∙◌, subst, sym, refl, arith}
use Rattle.vx_ast.specs.Syntax.{Name, Program, Member, Kind, IsField, IsPredicate, IsFunction, IsMethod, member_named}
use Rattle.vx_terms.specs.Interpretations.{Each}
use Rattle.vx_smt_meaning.specs.Dialogues.{Check}
use Rattle.vx_meaning.specs.Fails.{Fails}
use Rattle.vx_report.specs.declared.run.Verdict.TheVariants as verdict
use Rattle.vx_report.specs.declared.run.MemberRun.{MemberRun}
use Rattle.vx_closure.specs.Leads.{LeadsTo}
use Rattle.vx_runs.specs.Law.{NoneFails, WholeRunLaw}
use Rattle.vx_verifier.specs.Sequences.{IsIn, IsRight}
use Rattle.vx_verifier.specs.Lines.{has_line, lines}
use Rattle.vx_verifier.specs.Headline.{IsWhole, NeverFails, Under, AreSound, KeepsWholeRuns, members_of, sequence_of}
use Rattle.vx_verifier.proofs.Closures.{numbered, line_in, run_of}
use Rattle.vx_verifier.proofs.Sequences.{each_in, in_each}

module _ {A : Type 0} (P : A → Type 0) where
  each_take : (n : ℕ) (xs : List A) → Each P xs → Each P (take n xs)
  each_take zero xs all = tt
  each_take (suc n) [] all = tt
  each_take (suc n) (x ∷ xs) all = (all.0, each_take n xs all.1)

  each_drop : (n : ℕ) (xs : List A) → Each P xs → Each P (drop n xs)
  each_drop zero xs all = all
  each_drop (suc n) [] all = tt
  each_drop (suc n) (x ∷ xs) all = each_drop n xs all.1

module _ (p : Program) (jobs : ℕ) (runs : List MemberRun) (checks : (lane : ℕ) → List Check) (each : members_of runs ≡ lines p) (below : Each (λ (r : MemberRun). r.lane < jobs) runs)
    (sound : AreSound p runs checks) (verified : Each (λ (r : MemberRun). r.verdict ≡ verdict.Verified) runs) (right : (lane : ℕ) → lane < jobs → Each IsRight (checks lane)) where
  -- the checks of each run are right
  under : (n : ℕ) → Under (λ own. Each IsRight own) p n runs checks
  under n = in_each (λ (r : MemberRun). LeadsTo p n r.member.0 → Each IsRight (sequence_of r checks)) runs
      (λ r inside leads. each_take IsRight r.checks (drop r.first (checks r.lane))
      (each_drop IsRight r.first (checks r.lane) (right r.lane (each_in (λ (q : MemberRun). q.lane < jobs) runs r below inside))))

  -- a member with a line has a run, and is verified by it
  with_line : (x : Name) (k : Kind) → member_named p x ≡ Some k → has_line k ≡ true → Fails p x k → ⊥
  with_line x k named line fails =
      let m = numbered 0 p x k named in
      let b = m.number in
      let zero_on : 0 + b ≡ b = omega arith in
      let has : has_line m.member.kind ≡ true = ap has_line m.kind ∙ line in
      let inside : IsIn b (members_of runs) = subst (IsIn b) (sym each) (subst (λ (i : ℕ). IsIn i (lines p)) zero_on (line_in 0 p b m.member m.at has)) in
      let run = run_of runs checks b inside in
      let q = run.run in
      let never = each_in (λ (r : MemberRun). r.verdict ≡ verdict.Verified → Under (λ own. Each IsRight own) p r.member.0 runs checks → NeverFails p r.member.0) runs q sound run.inside
      (each_in (λ (r : MemberRun). r.verdict ≡ verdict.Verified) runs q verified run.inside) (under q.member.0) in
      let kind = subst (λ (l : Kind). Fails p x l) (sym m.kind) fails in
      never m.member (subst (λ (i : ℕ). slice_get p i ≡ Some m.member) (sym run.member) m.at) (subst (λ (y : Name). Fails p y m.member.kind) (sym m.name) kind)

  none_fails : NoneFails p
  none_fails x (IsField t) named fails = fails
  none_fails x (IsPredicate d) named fails = with_line x (IsPredicate d) named refl fails
  none_fails x (IsFunction f) named fails = with_line x (IsFunction f) named refl fails
  none_fails x (IsMethod m) named fails = with_line x (IsMethod m) named refl fails

pub keeps_whole_runs : WholeRunLaw → (p : Program) → IsWhole p → (jobs : ℕ) (runs : List MemberRun) (checks : (lane : ℕ) → List Check) → members_of runs ≡ lines p
    → Each (λ (r : MemberRun). r.lane < jobs) runs → AreSound p runs checks → KeepsWholeRuns p jobs runs checks
keeps_whole_runs law p whole jobs runs checks each below sound verified right = law p whole.typed (none_fails p jobs runs checks each below sound verified right)
