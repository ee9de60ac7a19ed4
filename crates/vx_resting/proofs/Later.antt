-- The runs with the verdicts that follow from what holds the members up.
use Rattle.std.proofs.Common.{◌≡◌, ◌<◌, inl, inr, ℕ, false, List, [], ◌∷◌, length, map, Some, None, Option, refl, sym, subst, ◌∙◌}
use Rattle.std.proofs.lemmas.List.Elements.{All-head, All-tail, All-cons, All-nil}
use Rattle.vx_ast.specs.declared.MemberId.{MemberId}
use Rattle.vx_ast.specs.Syntax.{Program}
use Rattle.vx_report.specs.declared.run.MemberRun.{MemberRun}
use Rattle.vx_report.specs.declared.run.Verdict.{Verdict}
use Rattle.vx_report.specs.declared.run.Verdict.TheVariants as verdict
use Rattle.vx_report.specs.Reports.{AreNamed, RestsWithin, RestWithin, is_resting}
use Rattle.vx_resting.specs.Held.{Held, held_at, AreFirst, verdict_with, rested}
use Rattle.vx_resting.specs.Resting.{HoldsUp, IsFirst, IsHeldUpAs, IsLater, AreLater, AreRested, NoneRests, has_passed}
use Rattle.vx_terms.specs.Interpretations.{Each}

later : (held : Option MemberId) (v : Verdict) → IsLater v (verdict_with held v)
later (Some m) verdict.Verified = inr (refl, m, refl)
later None verdict.Verified = inl refl
later held (verdict.Rests m) = inl refl
later held (verdict.Failed at c r) = inl refl
later held verdict.Limit = inl refl
later held (verdict.Fault c) = inl refl

pub are_later : (held : Held) (runs : List MemberRun) → AreLater runs (map (rested held) runs)
are_later held [] = tt
are_later held (r ∷ runs) = (refl, refl, refl, refl, refl, later (held_at held r.member.0) r.verdict, are_later held runs)

passes_as_before : (held : Option MemberId) (v : Verdict) → has_passed (verdict_with held v) ≡ has_passed v
passes_as_before (Some m) verdict.Verified = refl
passes_as_before None verdict.Verified = refl
passes_as_before held (verdict.Rests m) = refl
passes_as_before held (verdict.Failed at c r) = refl
passes_as_before held verdict.Limit = refl
passes_as_before held (verdict.Fault c) = refl

-- Later verdicts hold up the same members.
first_later : (p : Program) (n : ℕ) (held : Held) (runs : List MemberRun) (found : Option MemberId) → IsFirst (HoldsUp p n) runs found → IsFirst (HoldsUp p n) (map (rested held) runs) found
first_later p n held [] found e = e
first_later p n held (r ∷ runs) found (inl ((leads, failed), e)) = inl ((leads, passes_as_before (held_at held r.member.0) r.verdict ∙ failed), e)
first_later p n held (r ∷ runs) found (inr (fails, rest)) =
    inr ((λ h. fails (h.0, sym (passes_as_before (held_at held r.member.0) r.verdict) ∙ h.1)), first_later p n held runs found rest)

is_held_up : (p : Program) (n : ℕ) (runs : List MemberRun) (held : Option MemberId) (v : Verdict) → is_resting v ≡ false → IsFirst (HoldsUp p n) runs held → IsHeldUpAs p n runs (verdict_with held v)
is_held_up p n runs (Some m) verdict.Verified alone first = first
is_held_up p n runs None verdict.Verified alone first = first
is_held_up p n runs held (verdict.Rests m) alone first = absurd cc
is_held_up p n runs held (verdict.Failed at c r) alone first = tt
is_held_up p n runs held verdict.Limit alone first = tt
is_held_up p n runs held (verdict.Fault c) alone first = tt

each_held_up : (p : Program) (held : Held) (all : List MemberRun) → AreFirst p all held → (runs : List MemberRun) → AreNamed p runs → NoneRests runs → Each (λ (r : MemberRun). IsHeldUpAs p r.member.0 all r.verdict) (map (rested held) runs)
each_held_up p held all first [] named alone = tt
each_held_up p held all first (r ∷ runs) named alone = (
  is_held_up p r.member.0 all (held_at held r.member.0) r.verdict alone.0 (first r.member.0 (All-head (λ s. s.member.0 < length p) r runs named)),
  each_held_up p held all first runs (All-tail (λ s. s.member.0 < length p) r runs named) alone.1,
)

pub are_rested : (p : Program) (held : Held) (runs : List MemberRun) → AreFirst p runs held → AreNamed p runs → NoneRests runs → AreRested p (map (rested held) runs)
are_rested p held runs first named alone =
    each_held_up p held (map (rested held) runs) (λ n below. first_later p n held runs (held_at held n) (first n below)) runs named alone

first_within : (p : Program) (P : MemberRun → Type 0) (m : MemberId) (runs : List MemberRun) (found : Option MemberId) → found ≡ Some m → AreNamed p runs → IsFirst P runs found → m.0 < length p
first_within p P m [] found e named first = absurd cc
first_within p P m (r ∷ runs) found e named (inl (holds, f)) =
    let same : r.member ≡ m = cc in
    subst (λ k. k.0 < length p) same (All-head (λ s. s.member.0 < length p) r runs named)
first_within p P m (r ∷ runs) found e named (inr (fails, rest)) =
    first_within p P m runs found e (All-tail (λ s. s.member.0 < length p) r runs named) rest

rests_within : (p : Program) (held : Option MemberId) (v : Verdict) → is_resting v ≡ false → ((m : MemberId) → held ≡ Some m → m.0 < length p) → RestsWithin p (verdict_with held v)
rests_within p (Some m) verdict.Verified alone within = within m refl
rests_within p None verdict.Verified alone within = tt
rests_within p held (verdict.Rests m) alone within = absurd cc
rests_within p held (verdict.Failed at c r) alone within = tt
rests_within p held verdict.Limit alone within = tt
rests_within p held (verdict.Fault c) alone within = tt

all_within : (p : Program) (held : Held) → ((n : ℕ) → n < length p → (m : MemberId) → held_at held n ≡ Some m → m.0 < length p) → (runs : List MemberRun) → AreNamed p runs → NoneRests runs → RestWithin p (map (rested held) runs)
all_within p held within [] named alone = All-nil (λ r. RestsWithin p r.verdict)
all_within p held within (r ∷ runs) named alone =
    All-cons (λ s. RestsWithin p s.verdict) (rested held r) (map (rested held) runs)
    (rests_within p (held_at held r.member.0) r.verdict alone.0 (within r.member.0 (All-head (λ s. s.member.0 < length p) r runs named)))
    (all_within p held within runs (All-tail (λ s. s.member.0 < length p) r runs named) alone.1)

pub rest_within : (p : Program) (held : Held) (runs : List MemberRun) → AreFirst p runs held → AreNamed p runs → NoneRests runs → RestWithin p (map (rested held) runs)
rest_within p held runs first named alone =
    all_within p held (λ n below m e. first_within p (HoldsUp p n) m runs (held_at held n) e named (first n below)) runs named alone
