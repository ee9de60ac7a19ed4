-- A function's own walk: where its tree is cleared, giving its precondition fails nowhere; and from where it starts, its measure is
-- allowed, its body fits, and its postcondition is true of the value. What the walk shows of applications holds of all that are
-- evaluated with either.
use Rattle.std.proofs.Common.{◌≡◌, ◌⊎◌, inl, inr, ℕ, suc, ℤ, ◌≤◌, true, false, List, [], ◌∷◌, ◌++◌, Option, Some, None, refl, sym, ◌∙◌, ap, subst, le_of_lt, lt-suc_self, true≢false}
use Rattle.std.specs.Prelude.{Ok, Err, IsTrue}
use Rattle.vx_frac.specs.Fractions.{Fraction, none, full, is_positive}
use Rattle.vx_ast.specs.declared.Place.{Place}
use Rattle.vx_ast.specs.Syntax.{Name, result_name, Declaration, Program, Predicate, Function, predicate_named, function_named, conjoined, as_assertion, And, Or, Implies, Expr, Exprs, Number, Truth, Null, Part, Variable, Not, Operate, Divide, Connect, Choose, Read, Old, Apply, Unfolding, Assertion, Measure, ByNumber, ByInstance}
use Rattle.vx_meaning.specs.Values.{Value, IntValue, BoolValue, RefValue, PermValue, type_of, is_true}
use Rattle.vx_meaning.specs.States as run
use Rattle.vx_meaning.specs.States.{bind}
use Rattle.vx_meaning.specs.Flatten.{bare}
use Rattle.vx_meaning.specs.Consistent.{IsConsistent}
use Rattle.vx_meaning.specs.Evaluate.{values, applications}
use Rattle.vx_meaning.specs.Fits.{Checked, ◌>>=◌, guard, connected, Deeper, Eventually, Fits, FailsToFit, FailsToTake, Takes, fit, fit_all, take, deeper}
use Rattle.vx_meaning.specs.Fails.{StartFails, FunctionStarts, MeasureFails, DoesNotLower, Application, evaluated, with_result, FunctionFails}
use Rattle.vx_meaning.specs.Fails as fails
use Rattle.vx_terms.specs.Sorts.{SnapSort}
use Rattle.vx_terms.specs.Terms.{Term}
use Rattle.vx_terms.specs.Build.{whole_amount}
use Rattle.vx_terms.specs.Interpretations.{Interpretation, TreeElement, Tree, value}
use Rattle.vx_rules.specs.States as rules
use Rattle.vx_rules.specs.Trees.{MeasureCode, PostCode, End}
use Rattle.vx_rules.specs.Chunks.{candidates, holds_some, instance_key}
use Rattle.vx_rules.specs.Rules.{Giving, GivingAll, Going, Outer, first_with, never, produce, consume}
use Rattle.vx_rules.specs.Members.{codes, blank, rooted, function_body, from_measure, function_over}
use Rattle.vx_types.specs.Typing.{HaveNoPerm, IsTyped, IsTypedMeasure, IsTypedFunction}
use Rattle.vx_amounts.proofs.Amounts.{Le, Positive, le-refl, le-trans, full-positive}
use Rattle.vx_elements.proofs.Settled.{Meaning, with_symbol, symbol_extends, fresh_value}
use Rattle.vx_elements.proofs.Built.{Good}
use Rattle.vx_elements.proofs.Elements.{element, int_value_is}
use Rattle.vx_elements.proofs.Eventually.{eventually, one_answer, no_refusal}
use Rattle.vx_elements.proofs.Scopes.{joined_typed}
use Rattle.vx_sound.proofs.Marks.{Marks, Unmarked, Rooted}
use Rattle.vx_sound.proofs.Marked.{marked, Enters, root_entered}
use Rattle.vx_sound.proofs.World.{World, IsMeasured}
use Rattle.vx_sound.proofs.Standard.{start as start_interpretation, start_null, start_standard, IsWritten, variable_written}
use Rattle.vx_sound.proofs.Speaks.{Speaks, AllSpeak, SpeaksOf, speaks_anyway, all_speak_anyway}
use Rattle.vx_sound.proofs.Conjoined.{conjoined_typed, assertion_typed, assertion_speaks}
use Rattle.vx_sound.proofs.Passes.{Cleared}
use Rattle.vx_sound.proofs.Stands.{MeasureStands, Stands, stands_later, stands_with_store, store_append}
use Rattle.vx_sound.proofs.Elsewhere.{stands_there}
use Rattle.vx_sound.proofs.Goes.{Goes, declared_all, good_fresh}
use Rattle.vx_sound.proofs.Evaluated.{all_known, parts_measured, of_each}
use Rattle.vx_sound.proofs.Evaluate.{PartsGo, EvaluatesAll, eval_goes, evals_goes}
use Rattle.vx_sound.proofs.Giving.{whole_scale}
use Rattle.vx_sound.proofs.Assertions.{consumed}
use Rattle.vx_sound_preds.specs.Bodies.{GoodBodies}
use Rattle.vx_sound_preds.specs.Asking.{IsAsking}
use Rattle.vx_sound_preds.proofs.Fitting.{undo}
use Rattle.vx_sound_preds.proofs.Asked.{speaks_for, asking_positive}
use Rattle.vx_sound_preds.proofs.Adding.{added}
use Rattle.vx_sound_preds.proofs.Holding.{nothing, amount_grows, Applying, functions_world}
use Rattle.vx_sound_preds.proofs.Given.{gave}
use Rattle.vx_sound_preds.proofs.Produced.{SnapshotOf, produced}
use Rattle.vx_sound_preds.proofs.Refusing.{refuses}
use Rattle.vx_sound_preds.proofs.Applied.{precondition_of}

-- what is taken of a pure assertion, however it is taken apart, is true
pure_true : (at : Place) (h left : run.Holdings) (x : Checked Value) → (x >>= λ v. guard at (is_true v) >>= λ _. Ok h) ≡ Ok left → x ≡ Ok (BoolValue true)
pure_true at h left (Ok (BoolValue true)) e = refl
pure_true at h left (Ok (BoolValue false)) e = cc
pure_true at h left (Ok (IntValue z)) e = cc
pure_true at h left (Ok (RefValue r)) e = cc
pure_true at h left (Ok (PermValue q)) e = cc
pure_true at h left (Err place) e = cc

module _ (p : Program) (d : Deeper) (s : run.State) (q : Fraction) where
  pub taken_true : (e : Expr) (h left : run.Holdings) → take p d s q (as_assertion e) h ≡ Ok left → fit p d s e ≡ Ok (BoolValue true)
  taken_true (Connect at And a b) h left k =
      let x = undo (take p d s q (as_assertion a) h) (λ rest. take p d s q (as_assertion b) rest) left k in
      ap (λ (y : Checked Value). y >>= λ v. connected at And v (fit p d s b)) (taken_true a h x.it x.is) ∙ taken_true b x.it left x.then
  taken_true (Connect at Or a b) h left k = pure_true at h left (fit p d s (Connect at Or a b)) k
  taken_true (Connect at Implies a b) h left k = pure_true at h left (fit p d s (Connect at Implies a b)) k
  taken_true (Number at n) h left k = pure_true at h left (fit p d s (Number at n)) k
  taken_true (Truth at b) h left k = pure_true at h left (fit p d s (Truth at b)) k
  taken_true (Null at) h left k = pure_true at h left (fit p d s (Null at)) k
  taken_true (Part at n m) h left k = pure_true at h left (fit p d s (Part at n m)) k
  taken_true (Variable at x) h left k = pure_true at h left (fit p d s (Variable at x)) k
  taken_true (Not at e) h left k = pure_true at h left (fit p d s (Not at e)) k
  taken_true (Operate at op a b) h left k = pure_true at h left (fit p d s (Operate at op a b)) k
  taken_true (Divide at op a b) h left k = pure_true at h left (fit p d s (Divide at op a b)) k
  taken_true (Choose at c a b) h left k = pure_true at h left (fit p d s (Choose at c a b)) k
  taken_true (Read at e f) h left k = pure_true at h left (fit p d s (Read at e f)) k
  taken_true (Old at e) h left k = pure_true at h left (fit p d s (Old at e)) k
  taken_true (Apply at f es) h left k = pure_true at h left (fit p d s (Apply at f es)) k
  taken_true (Unfolding at i es share e) h left k = pure_true at h left (fit p d s (Unfolding at i es share e)) k

-- the instance that a measure names
abbrev pub IsNamed : Program → run.State → Name → Exprs → run.Instance → Type 0
IsNamed p s x es root = (vs : List Value) × Eventually (λ n. fit_all p (deeper p n) s es ≡ Ok vs) × (root ≡ record { predicate = x; arguments = vs })

-- The measure of a function where it starts, if that is a number; and what marks of chunks stand for from there on, which is the instance
-- that the measure names, if it names one.
abbrev pub IsMeasureOf : Program → run.State → Option Measure → Option ℤ → Marks → Type 0
IsMeasureOf p s None None Unmarked = Unit {0}
IsMeasureOf p s (Some (ByNumber e)) (Some z) Unmarked = Fits p s e (IntValue z)
IsMeasureOf p s (Some (ByInstance at i es)) None (Rooted root) = IsNamed p s i es root
IsMeasureOf p s _ _ _ = ⊥

-- what the walk of a function shows of a start
pub record OwnWalk (p : Program) (g : Function) (Measured : Name → List Value → Type 0) (s : run.State) : Type 0 where
  pub result : Value
  pub typed : type_of result ≡ g.of
  pub fits : Fits p s g.body result
  pub left : run.Holdings
  pub takes : Takes p (with_result result s) (as_assertion (conjoined g.place g.ensures)) full left
  pub kept : Fits p (with_result result s) (conjoined g.place g.ensures) (BoolValue true)
  pub in_body : (a : Application) → fails.Evaluates p s g.body a → Measured a.0 a.1
  pub in_postcondition : (a : Application) → fails.Evaluates p (with_result result s) (conjoined g.place g.ensures) a → Measured a.0 a.1

-- where its precondition is given: what may be applied there; nothing is asked of these, nor of the heap
abbrev pub asking_of : (Name → Type 0) → Applying
asking_of Before = record { marks = Unmarked; Applied = Before; own = None; Measured = λ h f vs. Unit {0} }

abbrev pub in_body_of : (Name → Type 0) → Name → Option ℤ → Marks → run.Heap → (run.Heap → Name → List Value → Type 0) → Applying
in_body_of Applied f z marks h Measured = record { marks = marks; Applied = Applied; own = Some record { function = f; measure = z; heap = h }; Measured = Measured }

-- what a function's measure speaks of, which applies nothing
abbrev pub MeasureSays : (Held : Name → Type 0) → Option Measure → Type 0
MeasureSays Held None = Unit {0}
MeasureSays Held (Some (ByNumber e)) = Speaks Held (λ f. ⊥) e
MeasureSays Held (Some (ByInstance at i es)) = Held i × AllSpeak Held (λ f. ⊥) es

-- what is asked of a function whose walk is looked at, where some functions may be applied in its precondition, and some behind it
pub record IsWalkable (p : Program) (Held Before Applied : Name → Type 0) (g : Function) : Type 0 where
  pub typed : IsTypedFunction p g
  pub functions : (x : Name) (d : Function) → function_named p x ≡ Some d → IsTypedFunction p d
  pub asks : SpeaksOf Held Before (precondition_of g)
  pub asking : IsAsking p (precondition_of g)
  pub measure : MeasureSays Held g.decreases
  pub body : Speaks Held Applied g.body
  pub ensures : Speaks Held Applied (conjoined g.place g.ensures)

module _ (means : Meaning) (p : Program) (good : GoodBodies p) (Held : Name → Type 0) (no_perm : (x : Name) (d : Predicate) → predicate_named p x ≡ Some d → HaveNoPerm d.parameters) (Before Applied : Name → Type 0) where
  abbrev pub outside : World
  outside = functions_world p good Held no_perm true (asking_of Before)

  abbrev pub inside : Name → Option ℤ → Marks → run.Heap → (run.Heap → Name → List Value → Type 0) → World
  inside f z marks h Measured = functions_world p good Held no_perm true (in_body_of Applied f z marks h Measured)

  module _ (o : Outer) (parts : PartsGo means (functions_world p good Held no_perm true (asking_of Before)) o) (f : Name) (g : Function) (says : IsWalkable p Held Before Applied g) (walked : Cleared (function_over p o f g)) where
    abbrev pre : Assertion
    pre = precondition_of g

    pre_typed : IsTyped p g.parameters (precondition_of g)
    pre_typed = joined_typed p g.parameters g.place g.requires says.typed.requires

    -- what the walk does once the parameters are declared
    walk : Going
    walk s = produce p o (precondition_of g) whole_amount (Some (rules.fresh SnapSort s)) (rules.after_fresh s) (from_measure p o f g g.decreases)

    blank_stands : (h : run.Heap) → Stands means outside [] start_interpretation blank (bare [] h)
    blank_stands h = record {
      store = tt;
      path = tt;
      heap = record { each = tt; sums = λ r. le-refl _ };
      old = record { each = tt; sums = λ r. le-refl _ };
      awake = refl;
      bounded = refl;
      null = start_null;
      standard = start_standard;
      owned = tt;
      marked = λ e. absurd (true≢false (sym e));
      holds = nothing p good Held true h;
      old_holds = nothing p good Held true h;
    }

    -- once the parameters are declared, with a symbol for the snapshot that is worth this tree
    record Begun (vs : List Value) (h : run.Heap) (u : Tree) : Type 0 where
      interp : Interpretation
      state : rules.State
      snapshot : Term
      stands : Stands means outside g.parameters interp state (bare (bind g.parameters vs) h)
      good_snapshot : Good means state.next interp snapshot SnapSort
      written : IsWritten snapshot
      worth : value interp snapshot ≡ TreeElement u
      cleared : Cleared (produce p o (precondition_of g) whole_amount (Some snapshot) state (from_measure p o f g g.decreases))

    begun : (vs : List Value) → run.HaveTypes g.parameters vs → (h : run.Heap) (u : Tree) → Begun vs h u
    unfolding walk
    begun vs types h u =
        let b : Goes means outside g.parameters start_interpretation 0 walk (bare (bind g.parameters vs) h) = declared_all means outside g.parameters vs types [] start_interpretation blank (bare [] h) walk (blank_stands h) walked in
        let s = b.state in
        let le : s.next ≤ suc s.next = le_of_lt (lt-suc_self s.next) in
        record {
          interp = with_symbol means b.interp s.next (TreeElement u);
          state = rules.after_fresh s;
          snapshot = rules.fresh SnapSort s;
          stands = stands_later means outside (suc s.next) le (symbol_extends means b.interp s.next (TreeElement u)) b.stands;
          good_snapshot = good_fresh means outside b.interp s.next (TreeElement u) SnapSort;
          written = variable_written s.next SnapSort;
          worth = fresh_value means b.interp s.next (TreeElement u) SnapSort tt;
          cleared = b.cleared;
        }

    -- giving the precondition fails nowhere
    pub no_start_fails : (vs : List Value) (place : Place) → run.HaveTypes g.parameters vs → StartFails p (bind g.parameters vs) (precondition_of g) place → ⊥
    no_start_fails vs place types (h, fails_at) =
        let r = refuses means p good Held no_perm (asking_of Before) o parts refl says.functions g.parameters vs types says.typed.parameters h (precondition_of g) [] place pre_typed says.asking says.asks (nothing p good Held true h) fails_at in
        let b = begun vs types h r.0 in
        r.1 b.interp b.state whole_amount b.snapshot (from_measure p o f g g.decreases) b.good_snapshot b.written b.worth (whole_scale means outside b.state.next b.interp) b.stands b.cleared

    -- where the function starts, what follows the precondition is cleared at a state that stands for the start
    pub record AtStart (s : run.State) : Type 0 where
      pub interp : Interpretation
      pub state : rules.State
      pub stands : Stands means outside g.parameters interp state s
      pub cleared : Cleared (from_measure p o f g g.decreases state)
      pub old_is : s.old_heap ≡ s.heap

    -- with what is held as the old part
    now_old : (vs : List Value) (h : run.Heap) (hs : run.Holdings) (i : Interpretation) (s : rules.State) → ((r : run.Resource) → Le none (run.amount hs r)) → Stands means outside g.parameters i s (run.with_holdings hs (bare (bind g.parameters vs) h)) →
        Stands means outside g.parameters i s (run.from_now (run.with_holdings hs (bare (bind g.parameters vs) h)))
    now_old vs h hs i s least st = record {
      store = st.store;
      path = st.path;
      heap = st.heap;
      old = record { each = st.old.each; sums = λ r. le-trans (st.old.sums r) (least r) };
      awake = st.awake;
      bounded = st.bounded;
      null = st.null;
      standard = st.standard;
      owned = st.owned;
      marked = st.marked;
      holds = st.holds;
      old_holds = st.holds;
    }

    pub at_start : (s : run.State) → FunctionStarts p g s → AtStart s
    at_start s (vs, types, (h, t, ends_at, is)) =
        let k = gave p good says.functions Held no_perm g.parameters vs types says.typed.parameters h (precondition_of g) [] t pre_typed says.asking (speaks_for Held Before (precondition_of g) says.asks) (nothing p good Held true h) ends_at in
        let base = bare (bind g.parameters vs) h in
        let b = begun vs types h k.tree in
        let snap : SnapshotOf means p good Held no_perm true (asking_of Before) b.state.next b.interp base (precondition_of g) b.snapshot =
        record { good_term = b.good_snapshot; written = b.written; fuel = k.tree_is.0; tree = k.tree; is = k.tree_is.1; value_is = b.worth } in
        let r = produced means p good Held no_perm true (asking_of Before) o parts (IsConsistent p) full (precondition_of g) (inr tt) g.parameters base k.fuel k.entries_of pre_typed says.asks says.asking k.entries_are k.holds
        b.interp b.state whole_amount (Some b.snapshot) (from_measure p o f g g.decreases) snap (whole_scale means outside b.state.next b.interp) b.stands (λ e. absurd (b.stands.marked e)) b.cleared in
        let least = λ (r : run.Resource). amount_grows p good Held true full k.entries_of [] r full-positive (asking_positive p (applications p k.fuel) base (precondition_of g) k.entries_of says.asking k.entries_are) in
        let same = is ∙ ap run.from_now k.is in
        record {
          interp = r.goes.interp;
          state = r.goes.state;
          stands = subst (Stands means outside g.parameters r.goes.interp r.goes.state) (sym same) (now_old vs h (added full k.entries_of []) r.goes.interp r.goes.state least r.goes.stands);
          cleared = r.goes.cleared;
          old_is = ap (λ (s : run.State). s.old_heap) is ∙ sym (ap (λ (s : run.State). s.heap) is);
        }

    -- The measure

    -- the body is entered from a state that stands for the start
    pub record Entered (s : run.State) (z : Option ℤ) (marks : Marks) : Type 0 where
      pub interp : Interpretation
      pub state : rules.State
      pub measure : Option Term
      pub measure_is : MeasureStands means outside state.next interp measure z
      pub stands : Stands means (marked means outside marks) g.parameters interp state s
      pub cleared : Cleared (function_body p o f g measure state)

    pub record AtMeasure (s : run.State) (m : Option Measure) : Type 0 where
      pub number : Option ℤ
      pub marks : Marks
      pub is : IsMeasureOf p s m number marks
      pub entered : Entered s number marks
      pub allowed : (e : Measure) → m ≡ Some e → MeasureFails p s e → ⊥

    by_number : (s : run.State) (i : Interpretation) (t : rules.State) (e : Expr) → IsTypedMeasure p g.parameters (Some (ByNumber e)) → Speaks Held (λ f. ⊥) e → Stands means outside g.parameters i t s → Cleared (from_measure p o f g (Some (ByNumber e)) t) → AtMeasure s (Some (ByNumber e))
    by_number s i t e typed speaks st h =
        let r = eval_goes means outside o parts typed (speaks_anyway Held Before e speaks) (λ m s1. function_body p o f g (Some m) s1) st h in
        let is_int = int_value_is r.result r.typed in
        record {
          number = Some _;
          marks = Unmarked;
          is = eventually r.fits (λ n k. k ∙ ap Ok is_int);
          entered = record { interp = r.interp; state = r.state; measure = Some r.term; measure_is = (r.good, r.value_is ∙ ap element is_int); stands = r.stands; cleared = r.cleared };
          allowed = λ m same k. fits_so r.result r.fits m same k;
        }
      where
        fits_so : (v : Value) → Fits p s e v → (m : Measure) → Some (ByNumber e) ≡ Some m → MeasureFails p s m → ⊥
        fits_so v fits (ByNumber d) same (place, k) = no_refusal v place fits (subst (λ (x : Expr). FailsToFit p s x place) (sym (one d same)) k)
          where
            one : (d : Expr) → Some (ByNumber e) ≡ Some (ByNumber d) → e ≡ d
            one d same = cc
        fits_so v fits (ByInstance at x es) same k = cc

    by_instance : (s : run.State) (i : Interpretation) (t : rules.State) (at : Place) (x : Name) (es : Exprs) → IsTypedMeasure p g.parameters (Some (ByInstance at x es)) → Held x × AllSpeak Held (λ f. ⊥) es → Stands means outside g.parameters i t s →
        Cleared (from_measure p o f g (Some (ByInstance at x es)) t) → AtMeasure s (Some (ByInstance at x es))
    by_instance s i t at x es typed speaks st h = record {
      number = None;
      marks = Rooted record { predicate = x; arguments = r.results };
      is = (r.results, r.fits, refl);
      entered = record { interp = en.goes.interp; state = en.goes.state; measure = None; measure_is = tt; stands = en.goes.stands; cleared = en.goes.cleared };
      allowed = held_so en.held;
    }
      where
        after : GivingAll
        after ts s1 = first_with (holds_some ts) (candidates (instance_key x ts) s1.heap) at MeasureCode s1 (λ c. function_body p o f g None (rooted c s1)) (never at MeasureCode s1)

        r : EvaluatesAll means outside o parts g.parameters i t.next after s es typed.0.parameters
        r = evals_goes means outside o parts typed.2 (all_speak_anyway Held Before es speaks.1) after st h

        en : Enters means outside refl g.parameters r.interp r.state.next (λ s1. function_body p o f g None s1) s (record { predicate = x; arguments = r.results })
        en = root_entered means outside refl at x r.terms r.results (λ s1. function_body p o f g None s1) (record { held = speaks.0; predicate = typed.0; named = typed.1; no_perm = no_perm x typed.0 typed.1; each = r.each }) r.stands r.cleared

        held_so : Positive (run.amount s.holdings (run.Folded record { predicate = x; arguments = r.results })) → (m : Measure) → Some (ByInstance at x es) ≡ Some m → MeasureFails p s m → ⊥
        held_so pos (ByNumber d) same k = cc
        held_so pos (ByInstance at' y ys) same k = go at' y ys same k
          where
            Failing : Name → Exprs → Type 0
            Failing y ys =
                ((place : Place) × Eventually (λ n. fit_all p (deeper p n) s ys ≡ Err place)) ⊎
                ((n : ℕ) × (vs : List Value) × (values p (applications p n) s ys ≡ Some vs) × (IsTrue (is_positive (run.amount s.holdings (run.Folded record { predicate = y; arguments = vs }))) → ⊥))

            name_is : (at' : Place) (y : Name) (ys : Exprs) → Some (ByInstance at x es) ≡ Some (ByInstance at' y ys) → x ≡ y
            name_is at' y ys same = cc

            arguments_are : (at' : Place) (y : Name) (ys : Exprs) → Some (ByInstance at x es) ≡ Some (ByInstance at' y ys) → es ≡ ys
            arguments_are at' y ys same = cc

            mine : Failing x es → ⊥
            mine (inl k) = no_refusal r.results k.0 r.fits k.1
            mine (inr (n, vs, is, none)) = none (ap (λ (vs : List Value). is_positive (run.amount s.holdings (run.Folded record { predicate = x; arguments = vs }))) (all_known p s es r.results r.fits n vs is) ∙ pos.holds)

            go : (at' : Place) (y : Name) (ys : Exprs) → Some (ByInstance at x es) ≡ Some (ByInstance at' y ys) → Failing y ys → ⊥
            go at' y ys same k = mine (subst (λ (zs : Exprs). Failing x zs) (sym (arguments_are at' y ys same)) (subst (λ (z : Name). Failing z ys) (sym (name_is at' y ys same)) k))

    pub at_measure : (s : run.State) → FunctionStarts p g s → AtMeasure s g.decreases
    at_measure s starts = let a = at_start s starts in go s a.interp a.state g.decreases says.typed.measure says.measure a.stands a.cleared
      where
        go : (s : run.State) (i : Interpretation) (t : rules.State) (m : Option Measure) → IsTypedMeasure p g.parameters m → MeasureSays Held m → Stands means outside g.parameters i t s → Cleared (from_measure p o f g m t) → AtMeasure s m
        go s i t None typed speaks st h = record { number = None; marks = Unmarked; is = tt; entered = record { interp = i; state = t; measure = None; measure_is = tt; stands = st; cleared = h }; allowed = λ m same k. absurd (nothing_some m same) }
          where
            nothing_some : (m : Measure) → None ≡ Some m → ⊥
            nothing_some m e = cc
        go s i t (Some (ByNumber e)) typed speaks st h = by_number s i t e typed speaks st h
        go s i t (Some (ByInstance at x es)) typed speaks st h = by_instance s i t at x es typed speaks st h

    -- The body, and the postcondition

    module _ (z : Option ℤ) (marks : Marks) (there : run.Heap) (Measured : run.Heap → Name → List Value → Type 0) (inner : PartsGo means (inside f z marks there Measured) o) where
      abbrev result : Declaration
      result = record { name = result_name; of = g.of }

      abbrev scope : List Declaration
      scope = g.parameters ++ record { name = result_name; of = g.of } ∷ []

      abbrev promise : Assertion
      promise = as_assertion (conjoined g.place g.ensures)

      measure_there : (n : ℕ) (i : Interpretation) (t : Option Term) (z : Option ℤ) (w : World) → MeasureStands means outside n i t z → MeasureStands means w n i t z
      measure_there n i None None w h = tt
      measure_there n i (Some t) (Some z) w h = h
      measure_there n i None (Some z) w h = absurd h
      measure_there n i (Some t) None w h = absurd h

      -- what holds in the heap or in the old one, where they are one
      in_one : (s : run.State) → s.old_heap ≡ s.heap → (a : Application) → IsMeasured (inside f z marks there Measured) s a → Measured s.heap a.0 a.1
      in_one s e a (inl m) = m
      in_one s e a (inr m) = subst (λ (h : run.Heap). Measured h a.0 a.1) e m

      pub own_walk : (s : run.State) → s.heap ≡ there → s.old_heap ≡ s.heap → Entered s z marks → OwnWalk p g (Measured s.heap) s
      own_walk s here same en =
          let own : Option rules.Own = Some (record { function = f; measure = en.measure }) in
          let st : Stands means (inside f z marks there Measured) g.parameters en.interp (record en.state { own = own }) s =
          stands_there means (marked means outside marks) Applied (Some record { function = f; measure = z; heap = there }) Measured own (refl, measure_there en.state.next en.interp en.measure z (inside f z marks there Measured) en.measure_is, here, same ∙ here) en.stands in
          let after : Giving = λ w s1. consume p o promise (codes PostCode PostCode) whole_amount s1.heap (rules.declare result_name w s1) (λ t s2. End) in
          let r = eval_goes means (inside f z marks there Measured) o inner says.typed.body says.body after st en.cleared in
          let with_value : Stands means (inside f z marks there Measured) scope r.interp (rules.declare result_name r.term r.state) (with_result r.result s) =
          stands_with_store means (inside f z marks there Measured) scope (r.state.store ++ (result_name, r.term) ∷ []) (s.store ++ (result_name, r.result) ∷ []) r.stands
          (store_append means (inside f z marks there Measured) g.parameters r.state.store s.store result (result_name, r.term) (result_name, r.result) r.stands.store (record { symbolic_name = refl; name = refl; typed = r.typed; good = r.good; value_is = r.value_is })) in
          let c = consumed means (inside f z marks there Measured) o inner promise full (assertion_typed p scope (conjoined g.place g.ensures) (conjoined_typed p scope g.place g.ensures says.typed.ensures)) (assertion_speaks Held Applied (conjoined g.place g.ensures) says.ensures)
          (codes PostCode PostCode) whole_amount (λ t s2. End) (whole_scale means (inside f z marks there Measured) r.state.next r.interp) with_value r.cleared in
          record {
            result = r.result;
            typed = r.typed;
            fits = r.fits;
            left = c.left;
            takes = c.takes;
            kept = eventually c.takes (λ n k. taken_true p (deeper p n) (with_result r.result s) full (conjoined g.place g.ensures) s.holdings c.left k);
            in_body = λ a ev. in_one s same a (of_each (IsMeasured (inside f z marks there Measured) s) (evaluated p ev.0 s g.body) a (r.measured ev.0) ev.1);
            in_postcondition = λ a ev. in_one (with_result r.result s) same a
                (of_each (IsMeasured (inside f z marks there Measured) (with_result r.result s)) (evaluated p ev.0 (with_result r.result s) (conjoined g.place g.ensures)) a (parts_measured (inside f z marks there Measured) (with_result r.result s) (conjoined g.place g.ensures) c.measured ev.0) ev.1);
          }

    -- The function as a whole, where what is shown of the parts is given for each start

    module _ (Measured : run.State → run.Heap → Name → List Value → Type 0) (inner : (s : run.State) → FunctionStarts p g s → (z : Option ℤ) (marks : Marks) → IsMeasureOf p s g.decreases z marks → PartsGo means (inside f z marks s.heap (Measured s)) o) where
      pub own_walks : (s : run.State) → FunctionStarts p g s → OwnWalk p g (Measured s s.heap) s
      own_walks s starts = let m = at_measure s starts in own_walk m.number m.marks s.heap (Measured s) (inner s starts m.number m.marks m.is) s refl (at_start s starts).old_is m.entered

      pub never_fails : ((s : run.State) → FunctionStarts p g s → (a : Application) → Measured s s.heap a.0 a.1 → DoesNotLower p f g.decreases s a → ⊥) → FunctionFails p f g → ⊥
      never_fails lowers (fails.precondition vs at types k) = no_start_fails vs at types k
      never_fails lowers (fails.body s at starts k) = let w = own_walks s starts in no_refusal w.result at w.fits k
      never_fails lowers (fails.postcondition s v at starts fits k) =
          let w = own_walks s starts in
          no_refusal w.left at w.takes (subst (λ (v : Value). FailsToTake p (with_result v s) (as_assertion (conjoined g.place g.ensures)) full at) (one_answer v w.result fits w.fits) k)
      never_fails lowers (fails.measure s e starts is k) = (at_measure s starts).allowed e is k
      never_fails lowers (fails.application_in_body s a starts k less) = lowers s starts a ((own_walks s starts).in_body a k) less
      never_fails lowers (fails.application_in_postcondition s v a starts fits k less) =
          let w = own_walks s starts in
          lowers s starts a (w.in_postcondition a (subst (λ (v : Value). fails.Evaluates p (with_result v s) (conjoined g.place g.ensures) a) (one_answer v w.result fits w.fits) k)) less
