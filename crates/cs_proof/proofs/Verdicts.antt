-- A step doesn't change the verdict.
use Rattle.std.proofs.Common.{◌≡◌, ℕ, zero, suc, ◌+◌, ◌-◌, ◌<◌, ◌≤◌, List, map, length, get_or, Option, Some, None, inl, inr, refl, sym, ◌∙◌, ap, arith, add-one}
use Rattle.std.specs.Prelude.{slice_get}
use Rattle.std.specs.Option.{option_map}
use Rattle.std.proofs.lemmas.Option.{slice_get_within, slice_get-map, slice_get_read, slice_get_cases}
use Rattle.cs_farkas.specs.Views.{Breaks}
use Rattle.cs_farkas.specs.declared.calls.Break.{Break}
use Rattle.cs_farkas.specs.declared.calls.Break.TheVariants as breaks
use Rattle.cs_proof.specs.declared.prepare.Duty.{Duty as Duty'}
use Rattle.cs_proof.specs.Views.{duty}
use Rattle.cs_farkas.specs.Sums.{Outcome, Done, Leaves, Misses}
use Rattle.cs_proof.specs.Prepared.{Duty}
use Rattle.cs_proof.specs.Checking.{Checker, Verdict, BadStep, Over, refused, met, after, next, stepped_if, stepped, steps_more, closed, left, last, verdict}

pub refused_stays : (n : ℕ) (c : Checker) (r : Verdict) → c.refusal ≡ Some r → steps_more n c ≡ c
refused_stays zero c r e = refl
refused_stays (suc n) c r e = ap (steps_more n) (ap (stepped_if c) e) ∙ refused_stays n c r e

less : (n k : ℕ) → k < n → n - k ≡ suc (n - suc k)
less n k lt = omega arith

moved : (c : Checker) (o : Outcome ℕ) → c.done < length c.duties → last (after c o) ≡ steps_more (length c.duties - suc c.done) (after c o)
moved c (Done k) lt = refl
moved c (Leaves o) lt = refused_stays (left (after c (Leaves o))) (after c (Leaves o)) (Over c.done o) refl ∙ sym (refused_stays (length c.duties - suc c.done) (after c (Leaves o)) (Over c.done o) refl)
moved c Misses lt = refused_stays (left (after c Misses)) (after c Misses) (BadStep c.done) refl ∙ sym (refused_stays (length c.duties - suc c.done) (after c Misses) (BadStep c.done) refl)

pub last_stepped : (c : Checker) → last (stepped c) ≡ last c
last_stepped c = go c.refusal refl
  where
    go2 : (d : Option Duty) → slice_get c.duties c.done ≡ d → stepped c ≡ next c d → last (stepped c) ≡ last c
    go2 None e f = ap last f
    go2 (Some d) e f =
        let lt = slice_get_within c.duties c.done d e in
        ap last f ∙ moved c (met c.nodes c.clauses c.derived d) lt ∙ ap (steps_more (length c.duties - suc c.done)) (sym f) ∙ sym (ap (λ n. steps_more n c) (less (length c.duties) c.done lt))

    go : (r : Option Verdict) → c.refusal ≡ r → last (stepped c) ≡ last c
    go (Some r) e = ap last (ap (stepped_if c) e)
    go None e = go2 (slice_get c.duties c.done) refl (ap (stepped_if c) e)

pub verdict_stepped : (c : Checker) → verdict (stepped c) ≡ verdict c
verdict_stepped c = ap (λ x. closed x.refusal x.clauses) (last_stepped c)

-- behind the last step
pub at_end : (c : Checker) → length c.duties ≤ c.done → verdict c ≡ closed c.refusal c.clauses
at_end c le = ap (λ n. closed (steps_more n c).refusal (steps_more n c).clauses) (nothing (length c.duties) c.done le)
  where
    nothing : (n k : ℕ) → n ≤ k → n - k ≡ 0
    nothing n k le = omega arith

-- a refusal is the verdict
pub refused_is : (c : Checker) (r : Verdict) → c.refusal ≡ Some r → verdict c ≡ r
refused_is c r e = ap (λ x. closed x.refusal x.clauses) (refused_stays (left c) c r e) ∙ ap (λ o. closed o c.clauses) e

-- what a step does, by its duty
pub stepped_to : (c : Checker) (d : Duty) (o : Outcome ℕ) → c.refusal ≡ None → slice_get c.duties c.done ≡ Some d → met c.nodes c.clauses c.derived d ≡ o → stepped c ≡ after c o
stepped_to c d o e f g = ap (stepped_if c) e ∙ ap (next c) f ∙ ap (after c) g

after_break : (c : Checker) (o : Outcome ℕ) (e : Break) → Breaks e o → after c o ≡ record { nodes = c.nodes; clauses = c.clauses; duties = c.duties; done = c.done; derived = c.derived; refusal = Some (refused c.done e) }
after_break c o breaks.Miss h = ap (after c) h
after_break c o (breaks.Over x) h = ap (after c) h

pub next_done : (c : Checker) (d : Duty) (k : ℕ) → slice_get c.duties c.done ≡ Some d → met c.nodes c.clauses c.derived d ≡ Done k →
    record { nodes = c.nodes; clauses = c.clauses; duties = c.duties; done = c.done + 1; derived = k; refusal = c.refusal } ≡ next c (slice_get c.duties c.done)
next_done c d k e f = ap (λ n. record { nodes = c.nodes; clauses = c.clauses; duties = c.duties; done = n; derived = k; refusal = c.refusal }) (add-one c.done) ∙ sym (ap (next c) e ∙ ap (after c) f)

pub next_refused : (c : Checker) (d : Duty) (e : Break) (v : Verdict) → slice_get c.duties c.done ≡ Some d → Breaks e (met c.nodes c.clauses c.derived d) → v ≡ refused c.done e →
    record { nodes = c.nodes; clauses = c.clauses; duties = c.duties; done = c.done; derived = c.derived; refusal = Some v } ≡ next c (slice_get c.duties c.done)
next_refused c d e v f h is = ap (λ x. record { nodes = c.nodes; clauses = c.clauses; duties = c.duties; done = c.done; derived = c.derived; refusal = Some x }) is ∙ sym (ap (next c) f ∙ after_break c _ e h)

pub duty_here : (all : List Duty') (k : ℕ) (d : Duty') → k < length all → d ≡ get_or all k d → slice_get (map duty all) k ≡ Some (duty d)
duty_here all k d lt is = slice_get-map duty all k ∙ ap (option_map duty) (slice_get_read all (length all) k d refl lt is)

-- a step that is done
pub record GoesOn (c : Checker) : Type 0 where
  pub before : c.refusal ≡ None
  pub one_more : (stepped c).done ≡ c.done + 1

pub goes_on : (c : Checker) → (c.refusal ≡ None → c.done < length c.duties) → (stepped c).refusal ≡ None → GoesOn c
goes_on c within e = go c.refusal refl
  where
    go3 : (o : Outcome ℕ) → c.refusal ≡ None → stepped c ≡ after c o → GoesOn c
    go3 (Done k) f g = record { before = f; one_more = ap (λ x. x.done) g ∙ sym (add-one c.done) }
    go3 (Leaves o) f g = absurd (let h : Some (Over c.done o) ≡ None = sym (ap (λ x. x.refusal) g) ∙ e in cc)
    go3 Misses f g = absurd (let h : Some (BadStep c.done) ≡ None = sym (ap (λ x. x.refusal) g) ∙ e in cc)

    go2 : (d : Option Duty) → slice_get c.duties c.done ≡ d → c.refusal ≡ None → GoesOn c
    go2 None h f = elim (slice_get_cases c.duties c.done).1 [
      | inl w ↦ absurd (let g : Some w.0 ≡ None = sym w.2 ∙ h in cc)
      | inr w ↦ absurd (let le = w.0 in let lt = within f in omega arith)
    ]
    go2 (Some d) h f = go3 (met c.nodes c.clauses c.derived d) f (stepped_to c d (met c.nodes c.clauses c.derived d) f h refl)

    go : (r : Option Verdict) → c.refusal ≡ r → GoesOn c
    go None f = go2 (slice_get c.duties c.done) refl f
    go (Some r) f = absurd (let h : Some r ≡ None = sym f ∙ ap (λ x. x.refusal) (sym (ap (stepped_if c) f)) ∙ e in cc)

pub same_duties : (c : Checker) → (stepped c).duties ≡ c.duties
same_duties c = go c.refusal
  where
    go3 : (o : Outcome ℕ) → (after c o).duties ≡ c.duties
    go3 (Done k) = refl
    go3 (Leaves o) = refl
    go3 Misses = refl

    go2 : (d : Option Duty) → (next c d).duties ≡ c.duties
    go2 None = refl
    go2 (Some d) = go3 (met c.nodes c.clauses c.derived d)

    go : (r : Option Verdict) → (stepped_if c r).duties ≡ c.duties
    go (Some r) = refl
    go None = go2 (slice_get c.duties c.done)
