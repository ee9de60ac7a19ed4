-- On which members the verdict of a member rests. Source: the Silicon thesis, on members that are verified one by one, each by
-- what the others' declarations say.
use Rattle.std.specs.Prelude.{◌≡◌, ◌⊎◌, ℕ, Bool, true, false, List, [], ◌∷◌, Option, Some, None, ⊤}
use Rattle.vx_ast.specs.declared.MemberId.{MemberId}
use Rattle.vx_ast.specs.Syntax.{Program}
use Rattle.vx_terms.specs.Interpretations.{Each}
use Rattle.vx_report.specs.declared.run.Verdict.{Verdict}
use Rattle.vx_report.specs.declared.run.Verdict.TheVariants as verdict
use Rattle.vx_report.specs.declared.run.MemberRun.{MemberRun}
use Rattle.vx_report.specs.Reports.{is_resting}
use Rattle.vx_closure.specs.Leads.{LeadsTo}

-- the member's own walk passed
abbrev pub has_passed : Verdict → Bool
has_passed verdict.Verified = true
has_passed (verdict.Rests m) = true
has_passed (verdict.Failed at c r) = false
has_passed verdict.Limit = false
has_passed (verdict.Fault c) = false

-- this run is of a member that member n leads to, and its walk didn't pass
abbrev pub HoldsUp : Program → ℕ → MemberRun → Type 0
HoldsUp p n r = LeadsTo p n r.member.0 × (has_passed r.verdict ≡ false)

-- the member of the first of these runs with a property, and none where no run has it
abbrev pub IsFirst : (MemberRun → Type 0) → List MemberRun → Option MemberId → Type 0
IsFirst P [] found = found ≡ None
IsFirst P (r ∷ runs) found = (P r × (found ≡ Some r.member)) ⊎ ((P r → ⊥) × IsFirst P runs found)

-- A member whose walk passed is verified where nothing holds it up; else it rests on the first that does.
abbrev pub IsHeldUpAs : Program → ℕ → List MemberRun → Verdict → Type 0
IsHeldUpAs p n runs verdict.Verified = IsFirst (HoldsUp p n) runs None
IsHeldUpAs p n runs (verdict.Rests m) = IsFirst (HoldsUp p n) runs (Some m)
IsHeldUpAs p n runs (verdict.Failed at c r) = ⊤
IsHeldUpAs p n runs verdict.Limit = ⊤
IsHeldUpAs p n runs (verdict.Fault c) = ⊤

abbrev pub AreRested : Program → List MemberRun → Type 0
AreRested p runs = Each (λ (r : MemberRun). IsHeldUpAs p r.member.0 runs r.verdict) runs

-- no verdict says so yet
abbrev pub NoneRests : List MemberRun → Type 0
NoneRests runs = Each (λ (r : MemberRun). is_resting r.verdict ≡ false) runs

-- the verdict as before, or that a member that was verified rests on one
abbrev pub IsLater : Verdict → Verdict → Type 0
IsLater before after = (after ≡ before) ⊎ ((before ≡ verdict.Verified) × (m : MemberId) × (after ≡ verdict.Rests m))

-- the same runs, with later verdicts
abbrev pub AreLater : List MemberRun → List MemberRun → Type 0
AreLater [] [] = ⊤
AreLater (r ∷ before) (s ∷ after) =
    (s.member ≡ r.member) × (s.lane ≡ r.lane) × (s.child ≡ r.child) × (s.first ≡ r.first) × (s.checks ≡ r.checks) × IsLater r.verdict s.verdict × AreLater before after
AreLater _ _ = ⊥
