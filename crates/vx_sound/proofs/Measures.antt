-- What an application is measured against: where the function that is walked is in its group, its measure is less.
use Rattle.std.proofs.Common.{◌≡◌, ℕ, ℤ, zero, suc, pos, true, false, inl, inr, ◌⊎◌, cond, List, Option, Some, None, refl, sym, ◌∙◌, ap, subst, true≢false}
use Rattle.std.specs.Prelude.{◌≤ℤ◌, ◌<ℤ◌, int_le, int_lt, Ok}
use Rattle.std.specs.Int.Signed.{le_z_yes, lt_z_yes}
use Rattle.std.proofs.lemmas.Float.{T_from_true}
use Rattle.vx_ast.specs.declared.Place.{Place}
use Rattle.vx_ast.specs.Syntax.{Name, Program, Function, Expr, Exprs, Measure, ByNumber, ByInstance}
use Rattle.vx_meaning.specs.Values.{Value, IntValue}
use Rattle.vx_meaning.specs.States as run
use Rattle.vx_meaning.specs.Flatten.{IsInside}
use Rattle.vx_meaning.specs.Fits.{Eventually, Fits, fit_all, deeper}
use Rattle.vx_terms.specs.Sorts.{IntSort, SnapSort, Less, LessEqual}
use Rattle.vx_terms.specs.Terms.{Term}
use Rattle.vx_terms.specs.Terms as term
use Rattle.vx_terms.specs.Build.{less, less_equal, false_term}
use Rattle.vx_terms.specs.Interpretations.{Interpretation, IntElement, as_bool, as_int, operate, value, IsTrueIn}
use Rattle.vx_terms.specs.Formed.{number, truth}
use Rattle.vx_terms.proofs.Build.{less_value, less_equal_value}
use Rattle.vx_rules.specs.States as rules
use Rattle.vx_rules.specs.Trees.{AssertCode, MeasureCode, Code, Tree, Step}
use Rattle.vx_rules.specs.Chunks.{Candidate, candidates, only_inner, instance_key, holds_some}
use Rattle.vx_rules.specs.Groups.{is_in_group}
use Rattle.vx_rules.specs.Rules.{Going, Giving, GivingAll, Outer, outer, nowhere, never, ask, first_with, entered, back, lesser, decreasing, measured}
use Rattle.vx_types.specs.Typing.{Scope, IsTypedMeasure}
use Rattle.vx_elements.proofs.Settled.{Meaning}
use Rattle.vx_elements.proofs.Built.{Good, good_and, good_less, good_less_equal}
use Rattle.vx_elements.proofs.Elements.{element, int_value_is}
use Rattle.vx_elements.proofs.Eventually.{eventually}
use Rattle.vx_elements.proofs.Truth.{both_true}
use Rattle.vx_amounts.proofs.Amounts.{Positive}
use Rattle.vx_sound.proofs.Marks.{Rooted, IsInner, InnerAt}
use Rattle.vx_sound.proofs.World.{Walked, World}
use Rattle.vx_sound.proofs.Speaks.{Speaks, AllSpeak}
use Rattle.vx_sound.proofs.Passes.{Cleared}
use Rattle.vx_sound.proofs.Stands.{resource_of, amount_of, TermsStand, MeasureStands, OwnStands, Stands, measure_later}
use Rattle.vx_sound.proofs.Goes.{cleared_case, Goes, here, goes_after, reached, stuck, asked}
use Rattle.vx_elements.proofs.Places.{IsPlace}
use Rattle.vx_sound.proofs.Chunks.{taken_apart, inner_at}
use Rattle.vx_sound.proofs.Candidates.{InstanceTerms, Keys, of_instance, good_some, some_is, FirstInner, first_inner}
use Rattle.vx_sound.proofs.Arguments.{stands_entered, stands_back}
use Rattle.vx_sound.proofs.Evaluate.{PartsGo, EvaluatesAll, eval_goes, evals_goes}

-- the comparisons of numbers, as the symbols mean them
le_of : (i : Interpretation) (s t : Term) (a b : ℤ) → value i s ≡ IntElement a → value i t ≡ IntElement b → IsTrueIn i (less_equal s t) → a ≤ℤ b
le_of i s t a b e f h =
    le_z_yes (T_from_true (int_le a b) (sym (ap as_bool (less_equal_value i s t) ∙ ap (λ x. as_bool (operate i LessEqual x (value i t))) e ∙ ap (λ y. as_bool (operate i LessEqual (IntElement a) y)) f) ∙ h))

lt_of : (i : Interpretation) (s t : Term) (a b : ℤ) → value i s ≡ IntElement a → value i t ≡ IntElement b → IsTrueIn i (less s t) → a <ℤ b
lt_of i s t a b e f h =
    lt_z_yes (T_from_true (int_lt a b) (sym (ap as_bool (less_value i s t) ∙ ap (λ x. as_bool (operate i Less x (value i t))) e ∙ ap (λ y. as_bool (operate i Less (IntElement a) y)) f) ∙ h))

-- a number below the one that the function's measure has, which isn't below 0
pub record Lowered (own : Option ℤ) (y : ℤ) : Type 0 where
  pub number : ℤ
  pub is : own ≡ Some number
  pub above : pos 0 ≤ℤ number
  pub below : y <ℤ number

module _ (means : Meaning) (world : World) where
  abbrev p : Program
  p = world.program

  -- an application's measure that was asked to be less
  pub lesser_asked : {scope : Scope} {i : Interpretation} {s : rules.State} {c : run.State} (o : Outer) (own : Option Term) (z : Option ℤ) (m : Term) (y : ℤ) (at : Place) (code : Code) (on : Going) → Stands means world scope i s c →
      MeasureStands means world s.next i own z → Good means s.next i m IntSort → value i m ≡ IntElement y → Cleared (ask (lesser p o own m) at code s on) → Lowered z y × Goes means world scope i s.next on c
  lesser_asked {scope = scope} {i = i} {s = s} {c = c} o None None m y at code on st h gm e w =
      let a = asked means world false_term at code on st (record { formed = truth false; settled = tt }) w in
      absurd (true≢false (sym a.0))
  lesser_asked {i = i} {s = s} o (Some t) (Some z) m y at code on st h gm e w =
      let zero : Good means s.next i (term.Number (pos 0)) IntSort = record { formed = number (pos 0); settled = tt } in
      let low = good_less_equal means (inl refl) zero h.0 in
      let high = good_less means (inl refl) gm h.0 in
      let a = asked means world (lesser p o (Some t) m) at code on st (good_and means low high) w in
      let both = both_true means low high a.0 in
      (record { number = z; is = refl; above = le_of i (term.Number (pos 0)) t (pos 0) z refl h.1 both.0; below = lt_of i m t y z e h.1 both.1 }, a.1)
  lesser_asked o None (Some z) m y at code on st h gm e w = absurd h
  lesser_asked o (Some t) None m y at code on st h gm e w = absurd h

  -- something of an instance is held from inside the one that the function's measure names
  pub record HeldInside (i : Interpretation) (heap : rules.Heap) (concrete : run.Heap) (k : run.Instance) : Type 0 where
    pub key : rules.Chunk
    pub candidate : Candidate
    pub place : IsPlace key heap candidate
    pub inner : candidate.chunk.inner ≡ true
    pub resource : resource_of i candidate.chunk ≡ run.Folded k
    pub positive : Positive (amount_of i candidate.chunk)
    pub inside : IsInner p world.marks concrete k

  -- where that one is the root, it is inside it
  pub is_inside : {i : Interpretation} {heap : rules.Heap} {concrete : run.Heap} {k : run.Instance} (root : run.Instance) → world.marks ≡ Rooted root → HeldInside i heap concrete k → IsInside p concrete k root
  is_inside {concrete = concrete} {k = k} root e h = subst (λ m. IsInner p m concrete k) e h.inside

  -- a callee's measure is less than that of the function that is walked
  pub data Lowers (walked : Walked) (g : Function) (vs : List Value) (c : run.State) (i : Interpretation) (heap : rules.Heap) : Type 0 where
    by_number : (e : Expr) (y : ℤ) → g.decreases ≡ Some (ByNumber e) → Fits p (run.with_store (run.bind g.parameters vs) c) e (IntValue y) → Lowered walked.measure y → Lowers walked g vs c i heap
    by_instance : (at : Place) (x : Name) (es : Exprs) (ws : List Value) → g.decreases ≡ Some (ByInstance at x es) → Eventually (λ n. fit_all p (deeper p n) (run.with_store (run.bind g.parameters vs) c) es ≡ Ok ws) →
        HeldInside i heap c.heap (record { predicate = x; arguments = ws }) → Lowers walked g vs c i heap

  abbrev pub MeasureSpeaks : Option Measure → Type 0
  MeasureSpeaks None = Unit {0}
  MeasureSpeaks (Some (ByNumber e)) = Speaks world.Held world.Applied e
  MeasureSpeaks (Some (ByInstance at x es)) = world.Held x × AllSpeak world.Held world.Applied es

  -- an application of the group was measured, and what follows goes on
  pub record Measured (scope : Scope) (i : Interpretation) (n : ℕ) (on : Going) (c : run.State) (f : Name) (g : Function) (vs : List Value) : Type 0 where
    pub goes : Goes means world scope i n on c
    pub lowers : (walked : Walked) → world.own ≡ Some walked → is_in_group p walked.function f ≡ true → Lowers walked g vs c goes.interp goes.state.heap

  module _ (scope : Scope) (i : Interpretation) (s : rules.State) (c : run.State) (at : Place) (f : Name) (g : Function) (ts : List Term) (vs : List Value) (on : Going)
      (each : TermsStand means world s.next i g.parameters ts vs) (st : Stands means world scope i s c) where
    abbrev x : rules.Store
    x = rules.bind g.parameters ts

    abbrev inside : run.State
    inside = run.with_store (run.bind g.parameters vs) c

    inner_stands : Stands means world g.parameters i (entered (rules.bind g.parameters ts) at s) (run.with_store (run.bind g.parameters vs) c)
    inner_stands = stands_entered means world at g.parameters ts vs each st

    -- what is known of one that decreases
    record Decreases (walked : Walked) : Type 0 where
      pub goes : Goes means world scope i s.next on c
      pub lowers : Lowers walked g vs c goes.interp goes.state.heap

    number_decreases : (n : ℕ) (parts : PartsGo means world (outer p n)) (own : rules.Own) (walked : Walked) → MeasureStands means world s.next i own.measure walked.measure → (e : Expr) → g.decreases ≡ Some (ByNumber e) →
        IsTypedMeasure p g.parameters (Some (ByNumber e)) → Speaks world.Held world.Applied e → Cleared (decreasing p (outer p (suc n)) own (Some (ByNumber e)) x at s on) → Decreases walked
    number_decreases n parts own walked m e is t k h =
        let after : Giving = λ m s1. ask (lesser p (outer p (suc n)) own.measure m) at MeasureCode (back s s1) on in
        let r = eval_goes means world (outer p n) parts t k after inner_stands h in
        let st' : Stands means world scope r.interp (back s r.state) c = stands_back means world (run.bind g.parameters vs) r.later r.extends st r.stands in
        let y = as_int (element r.result) in
        let is_int : r.result ≡ IntValue y = int_value_is r.result r.typed in
        let a = lesser_asked (outer p (suc n)) own.measure walked.measure r.term y at MeasureCode on st' (measure_later means world r.later r.extends own.measure walked.measure m) r.good (r.value_is ∙ ap element is_int) r.cleared in
        record {
          goes = goes_after means world (reached means world r) a.1;
          lowers = by_number e y is (eventually r.fits (λ n f. f ∙ ap Ok is_int)) a.0;
        }

    instance_decreases : (n : ℕ) (parts : PartsGo means world (outer p n)) (own : rules.Own) (walked : Walked) → (place : Place) (y : Name) (es : Exprs) → g.decreases ≡ Some (ByInstance place y es) →
        IsTypedMeasure p g.parameters (Some (ByInstance place y es)) → world.Held y × AllSpeak world.Held world.Applied es → Cleared (decreasing p (outer p (suc n)) own (Some (ByInstance place y es)) x at s on) → Decreases walked
    instance_decreases n parts own walked place y es is t k h = by_first (first_inner means world (instance_key y r.terms) (holds_some r.terms) at MeasureCode (λ d. on (back s r.state)) (never at MeasureCode (back s r.state)) st'
        (λ d kind resource m. good_some means world keys d kind resource m) r.cleared)
      where
        after : GivingAll
        after us s1 = let s2 = back s s1 in first_with (holds_some us) (only_inner (candidates (instance_key y us) s2.heap)) at MeasureCode s2 (λ c. on s2) (never at MeasureCode s2)

        r : EvaluatesAll means world (outer p n) parts g.parameters i s.next after inside es t.0.parameters
        r = evals_goes means world (outer p n) parts t.2 k.1 after inner_stands h

        st' : Stands means world scope r.interp (back s r.state) c
        st' = stands_back means world (run.bind g.parameters vs) r.later r.extends st r.stands

        keys : Keys means world r.state.next r.interp (instance_key y r.terms) (run.Folded record { predicate = y; arguments = r.results }) SnapSort
        keys = of_instance y r.terms r.results (let z : InstanceTerms means world r.state.next r.interp y r.terms r.results = record { held = k.0; predicate = t.0; named = t.1; no_perm = world.proper y t.0 k.0 t.1; each = r.each } in z)

        by_first : FirstInner means world (instance_key y r.terms) (holds_some r.terms) r.interp (back s r.state) (λ d. on (back s r.state)) ⊎ Cleared (never at MeasureCode (back s r.state)) → Decreases walked
        by_first (inr m) = stuck means world at MeasureCode st' m
        by_first (inl m) =
            let d = m.first.candidate.chunk in
            let a = taken_apart means world r.state.next r.interp c.heap m.first.place st'.heap in
            let is' = some_is means world keys d m.first.place.kind m.first.place.resource a.chunk m.first.as_wanted in
            record {
              goes = record { interp = r.interp; state = back s r.state; extends = r.extends; later = r.later; stands = st'; cleared = m.first.cleared };
              lowers = by_instance place y es r.results is r.fits (record { key = instance_key y r.terms; candidate = m.first.candidate; place = m.first.place; inner = m.inner; resource = is'.0; positive = is'.1; inside = subst (InnerAt p world.marks c.heap) is'.0 (inner_at means world d a.chunk m.inner) });
            }

    decreases_by : (d : ℕ) → ((n : ℕ) → d ≡ suc n → PartsGo means world (outer p n)) → (own : rules.Own) (walked : Walked) → MeasureStands means world s.next i own.measure walked.measure → (m : Option Measure) → g.decreases ≡ m →
        IsTypedMeasure p g.parameters m → MeasureSpeaks m → Cleared (decreasing p (outer p d) own m x at s on) → Decreases walked
    decreases_by d parts own walked k None is t sp h = stuck means world at MeasureCode st h
    decreases_by zero parts own walked k (Some (ByNumber e)) is t sp h = stuck means world nowhere AssertCode inner_stands h
    decreases_by zero parts own walked k (Some (ByInstance place y es)) is t sp h = stuck means world nowhere AssertCode inner_stands h
    decreases_by (suc n) parts own walked k (Some (ByNumber e)) is t sp h = number_decreases n (parts n refl) own walked k e is t sp h
    decreases_by (suc n) parts own walked k (Some (ByInstance place y es)) is t sp h = instance_decreases n (parts n refl) own walked place y es is t sp h

    -- at every depth, by what holds one depth below
    pub measured_at : (d : ℕ) → ((n : ℕ) → d ≡ suc n → PartsGo means world (outer p n)) → IsTypedMeasure p g.parameters g.decreases → MeasureSpeaks g.decreases → Cleared (measured p (outer p d) f g x at s on) → Measured scope i s.next on c f g vs
    measured_at d parts typed speaks h = by_own s.own refl world.own refl st.owned h
      where
        in_group : rules.Own → Tree
        in_group own = cond (is_in_group p own.function f) (decreasing p (outer p d) own g.decreases x at s on) (Step (on s))

        of_own : Option rules.Own → Tree
        of_own o = elim o as (λ o. Tree) [
          | None ↦ Step (on s)
          | Some own ↦ cond (rules.is_quiet s) (Step (on s)) (cond (is_in_group p own.function f) (decreasing p (outer p d) own g.decreases x at s on) (Step (on s)))
        ]

        by_own : (o : Option rules.Own) → s.own ≡ o → (w : Option Walked) → world.own ≡ w → OwnStands means world s.next i c.heap c.old_heap o w →
            Cleared (elim o as (λ o. Tree) [
              | None ↦ Step (on s)
              | Some own ↦ cond (rules.is_quiet s) (Step (on s)) (cond (is_in_group p own.function f) (decreasing p (outer p d) own g.decreases x at s on) (Step (on s)))
            ]) → Measured scope i s.next on c f g vs
        by_own None e None f' k h = record { goes = here means world on st h; lowers = λ w is. absurd (no w (sym f' ∙ is)) }
          where
            no : (w : Walked) → None ≡ Some w → ⊥
            no w e = cc
        by_own (Some own) e (Some walked) f' k h = cleared_case (rules.is_quiet s) _ _ h
            (λ q k. absurd (true≢false (sym q ∙ st.awake)))
            (λ q m. cleared_case (is_in_group p own.function f) _ _ m
            (λ yes z.
            let r = decreases_by d parts own walked k.1 g.decreases refl typed speaks z in
            record { goes = r.goes; lowers = λ w is _. subst (λ w. Lowers w g vs c r.goes.interp r.goes.state.heap) (same walked w (sym f' ∙ is)) r.lowers })
            (λ other z. record { goes = here means world on st z; lowers = λ w is yes. absurd (true≢false (sym yes ∙ ap (λ y. is_in_group p y f) (ap (λ (w : Walked). w.function) (sym (same walked w (sym f' ∙ is))) ∙ sym k.0) ∙ other)) }))
          where
            same : (v w : Walked) → Some v ≡ Some w → v ≡ w
            same v w e = cc
        by_own None e (Some walked) f' k h = absurd k
        by_own (Some own) e None f' k h = absurd k
