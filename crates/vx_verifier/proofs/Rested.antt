-- What was told of the runs holds once their members rest: a verdict changes only where the walk passed.
use Rattle.std.proofs.Common.{◌≡◌, inl, inr, ℕ, zero, suc, ◌+◌, ◌<◌, ◌||◌, Bool, true, false, ◌++◌, ◌∷◌, [], List, length, take, drop, refl, ap, ap₂, ◌∙◌, sym, subst, arith}
use Rattle.vx_ast.specs.Syntax.{Program}
use Rattle.vx_smt_meaning.specs.Dialogues.{Check}
use Rattle.vx_ends.specs.declared.piece.Ending.{Ending}
use Rattle.vx_report.specs.declared.run.Cause.{Cause}
use Rattle.vx_report.specs.declared.run.Cause.TheVariants as cause
use Rattle.vx_report.specs.declared.run.Verdict.{Verdict}
use Rattle.vx_report.specs.declared.run.Verdict.TheVariants as verdict
use Rattle.vx_report.specs.declared.run.MemberRun.{MemberRun}
use Rattle.vx_report.specs.Reports.{AreNamed, is_faulted}
use Rattle.vx_rules.specs.Trees.{Ending as Ends, Passed}
use Rattle.vx_resting.specs.Resting.{IsLater, AreLater}
use Rattle.vx_verifier.specs.Causes.{HasCauseOf}
use Rattle.vx_verifier.specs.Headline.{IsVerdictOf, IsTold, AreTold, IsSpentAfter, member_turns, turns_of, members_of, lost_after, walk_of}

faulted_later : (v w : Verdict) → IsLater v w → is_faulted w ≡ is_faulted v
faulted_later v w (inl same) = ap is_faulted same
faulted_later v w (inr rests) = ap is_faulted rests.2 ∙ ap is_faulted (sym rests.0)

verdict_rests : (C : Cause → Type 0) (e : Ends) (asked : ℕ) (v w : Verdict) → IsLater v w → IsVerdictOf C e asked v → IsVerdictOf C e asked w
verdict_rests C e asked v w (inl same) has = subst (IsVerdictOf C e asked) (sym same) has
verdict_rests C e asked v w (inr rests) has =
    let passed : e ≡ Passed = subst (IsVerdictOf C e asked) rests.0 has in
    subst (IsVerdictOf C e asked) (sym rests.2) passed

told_rests : (p : Program) (n k : ℕ) (C : Cause → Type 0) (own : List Check) (v w : Verdict) → k ≡ n → IsLater v w → IsTold p n C own v → IsTold p k C own w
told_rests p n k C own v w same later told = subst (λ (i : ℕ). IsTold p i C own w) (sym same) record {
  checks = told.checks;
  few = told.few;
  verdict = verdict_rests C (walk_of p n own).ending (length own) v w later told.verdict;
}

spent_rests : (lost : Bool) (p : Program) (n k : ℕ) (own : List Check) (v w : Verdict) → k ≡ n → IsLater v w → IsSpentAfter lost p n own v → IsSpentAfter lost p k own w
spent_rests lost p n k own v w same later spent = subst (λ (i : ℕ). IsSpentAfter lost p i own w) (sym same) (go lost later spent)
  where
    spent_passed : (o : Verdict) → o ≡ verdict.Verified → o ≡ verdict.Fault cause.Spent → ⊥
    spent_passed o e f = (cc)

    go : (lost : Bool) → IsLater v w → IsSpentAfter lost p n own v → IsSpentAfter lost p n own w
    go false later spent = tt
    go true (inl same) spent = (spent.0, λ asks. same ∙ spent.1 asks)
    go true (inr rests) spent = (spent.0, λ asks. absurd (spent_passed v rests.0 (spent.1 asks)))

module _ (p : Program) (links : List Ending) (f g lane : ℕ) where
  pub all_told : (lost : Bool) (first : ℕ) (runs rested : List MemberRun) (checks : List Check) → AreLater runs rested
      → AreTold p links f g lane lost first runs checks → AreTold p links f g lane lost first rested checks
  all_told lost first [] [] checks later told = told
  all_told lost first [] (s ∷ rested) checks later told = absurd later
  all_told lost first (r ∷ runs) [] checks later told = absurd later
  all_told lost first (r ∷ runs) (s ∷ rested) checks later told =
      let same = faulted_later r.verdict s.verdict later.5 in
      let member = ap (λ m. m.0) later.0 in (
        told.0,
        told.1,
        told.2,
        record {
          own_lane = later.1 ∙ told.3.own_lane;
          child = later.2 ∙ told.3.child;
          first_is = later.3 ∙ told.3.first_is;
          count = told.3.count ∙ sym later.4;
          told = told_rests p r.member.0 s.member.0 (HasCauseOf links f g lost) told.0 r.verdict s.verdict member later.5 told.3.told;
          spent = spent_rests lost p r.member.0 s.member.0 told.0 r.verdict s.verdict member later.5 told.3.spent;
        },
        subst (λ b. AreTold p links f g lane (lost || b) (first + length told.0) rested told.1) (sym same)
            (all_told (lost || is_faulted r.verdict) (first + length told.0) runs rested told.1 later.6 told.4),
      )

-- ---- what the child is asked stays the same

turns_by_fault : (lost : Bool) (p : Program) (n : ℕ) (own : List Check) (v w : Verdict) → is_faulted w ≡ is_faulted v → member_turns lost p n own w ≡ member_turns lost p n own v
turns_by_fault true p n own v w same = refl
turns_by_fault false p n own v w same = rw same refl

pub turns_rest : (lost : Bool) (p : Program) (runs rested : List MemberRun) (checks : List Check) → AreLater runs rested → turns_of lost p rested checks ≡ turns_of lost p runs checks
turns_rest lost p [] [] checks later = refl
turns_rest lost p [] (s ∷ rested) checks later = absurd later
turns_rest lost p (r ∷ runs) [] checks later = absurd later
turns_rest lost p (r ∷ runs) (s ∷ rested) checks later =
    let same = faulted_later r.verdict s.verdict later.5 in
    let here : member_turns lost p s.member.0 (take s.checks checks) s.verdict ≡ member_turns lost p r.member.0 (take r.checks checks) r.verdict =
    ap (λ k. member_turns lost p k (take s.checks checks) s.verdict) (ap (λ m. m.0) later.0)
    ∙ (ap (λ k. member_turns lost p r.member.0 (take k checks) s.verdict) later.4 ∙ turns_by_fault lost p r.member.0 (take r.checks checks) r.verdict s.verdict same) in
    let rest : turns_of (lost || is_faulted s.verdict) p rested (drop s.checks checks) ≡ turns_of (lost || is_faulted r.verdict) p runs (drop r.checks checks) =
    ap (λ b. turns_of (lost || b) p rested (drop s.checks checks)) same
    ∙ (ap (λ k. turns_of (lost || is_faulted r.verdict) p rested (drop k checks)) later.4 ∙ turns_rest (lost || is_faulted r.verdict) p runs rested (drop r.checks checks) later.6) in
    ap₂ (λ x y. x ++ y) here rest

pub lost_rests : (lost : Bool) (runs rested : List MemberRun) → AreLater runs rested → lost_after lost rested ≡ lost_after lost runs
lost_rests lost [] [] later = refl
lost_rests lost [] (s ∷ rested) later = absurd later
lost_rests lost (r ∷ runs) [] later = absurd later
lost_rests lost (r ∷ runs) (s ∷ rested) later =
    ap (λ b. lost_after (lost || b) rested) (faulted_later r.verdict s.verdict later.5) ∙ lost_rests (lost || is_faulted r.verdict) runs rested later.6

pub members_rest : (runs rested : List MemberRun) → AreLater runs rested → members_of rested ≡ members_of runs
members_rest [] [] later = refl
members_rest [] (s ∷ rested) later = absurd later
members_rest (r ∷ runs) [] later = absurd later
members_rest (r ∷ runs) (s ∷ rested) later = ap₂ (λ k ks. k ∷ ks) (ap (λ m. m.0) later.0) (members_rest runs rested later.6)

pub named_rest : (p : Program) (runs rested : List MemberRun) → AreLater runs rested → AreNamed p runs → AreNamed p rested
named_rest p [] [] later named = named
named_rest p [] (s ∷ rested) later named = absurd later
named_rest p (r ∷ runs) [] later named = absurd later
named_rest p (r ∷ runs) (s ∷ rested) later named = go (named_rest p runs rested later.6 (λ n d below. named (suc n) d (let k = below in omega arith)))
  where
    first : s.member.0 < length p
    first = subst (λ (k : ℕ). k < length p) (sym (ap (λ m. m.0) later.0)) (named zero r (omega arith))

    go : AreNamed p rested → AreNamed p (s ∷ rested)
    go rest zero d below = first
    go rest (suc n) d below = rest n d (let k = below in omega arith)
