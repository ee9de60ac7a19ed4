-- An application leads on along the way of a quiet walk: its term has the function's value, and what is told of the function is true.
use Rattle.std.proofs.Common.{◌≡◌, ℕ, ◌+◌, Bool, true, false, cond, List, [], ◌∷◌, ◌++◌, Option, Some, None, refl, sym, ◌∙◌, ap, subst, arith, le_refl}
use Rattle.std.specs.Prelude.{nat_lt, Ok}
use Rattle.std.proofs.lemmas.Bool.{lt-ltb}
use Rattle.vx_frac.specs.Fractions.{none, full}
use Rattle.vx_ast.specs.declared.Place.{Place}
use Rattle.vx_ast.specs.declared.ValueType.TheVariants as type
use Rattle.vx_ast.specs.Syntax.{Name, result_name, Declaration, Program, Predicate, Function, predicate_named, function_named, joined, conjoined}
use Rattle.vx_meaning.specs.Values.{Value, BoolValue, type_of}
use Rattle.vx_meaning.specs.States as run
use Rattle.vx_meaning.specs.Evaluate.{applications}
use Rattle.vx_meaning.specs.Flatten.{bare}
use Rattle.vx_meaning.specs.Fits.{fit}
use Rattle.vx_terms.specs.Terms.{Term, sort_of}
use Rattle.vx_terms.specs.Build.{equals, application, whole_amount}
use Rattle.vx_terms.specs.Interpretations.{Each, Element, TreeElement, Interpretation, Tree, as_bool, value}
use Rattle.vx_rules.specs.States as rules
use Rattle.vx_rules.specs.States.{State, sort_of_type, is_quiet, is_named, with_heap, with_fact, with_facts, name_of, after_name}
use Rattle.vx_rules.specs.Trees as trees
use Rattle.vx_rules.specs.Trees.{FunctionCode, Step}
use Rattle.vx_rules.specs.Groups.{is_in_group, function_number}
use Rattle.vx_rules.specs.Rules.{Giving, Going, Context, Outer, outer, never, entered, back, gathered, terms, quietly, sides_of, with_body, with_promise, with_equations, decreasing, measured, applied}
use Rattle.vx_types.specs.Typing.{Scope, HaveNoPerm, IsTypedFunction}
use Rattle.vx_amounts.proofs.Amounts.{le-refl, positive-le, full-positive}
use Rattle.vx_elements.proofs.Settled.{Meaning, Extends, extends-refl, extends-trans, value_kept}
use Rattle.vx_elements.proofs.Built.{Good, good_later, good_equals}
use Rattle.vx_elements.proofs.Elements.{element}
use Rattle.vx_elements.proofs.Truth.{is_equal}
use Rattle.vx_elements.proofs.Scopes.{joined_typed, typed_longer}
use Rattle.vx_sound.specs.Snapshots.{tree_by}
use Rattle.vx_sound.proofs.World.{World}
use Rattle.vx_sound.proofs.Stands.{unowned, StoreStands, HeapStands, TermsStand, Stands, stands_later, store_append, store_later, terms_later, heap_later, settled_fact}
use Rattle.vx_sound.proofs.Candidates.{values_typed}
use Rattle.vx_sound.proofs.Arguments.{bound}
use Rattle.vx_sound.proofs.Giving.{whole_scale}
use Rattle.vx_sound_preds.specs.Asking.{asking_entries, IsAskingTreeOf, IsAsking}
use Rattle.vx_sound_preds.specs.Bodies.{GoodBodies}
use Rattle.vx_sound_preds.proofs.Looks.{Sees}
use Rattle.vx_sound_preds.proofs.Adding.{added}
use Rattle.vx_sound_preds.proofs.Asked.{AsksFor, asking_positive}
use Rattle.vx_sound_preds.proofs.Entries.{asking_typed}
use Rattle.vx_sound_preds.proofs.Exchanging.{held_rigid}
use Rattle.vx_sound_preds.proofs.Holding.{HoldsInstances, TypedAll, all_single, typed_rigid, typed_added, added_debts, stock, lower, nothing, quiet_world}
use Rattle.vx_sound_funcs.specs.Told.{precondition_of}
use Rattle.vx_sound_funcs.specs.Firm.{firm_application, firmly, GoodFunctions}
use Rattle.vx_sound_funcs.proofs.Steps.{Steps, steps_of}
use Rattle.vx_sound_funcs.proofs.Firm.{taken_total, alike, Begun, begun, speak_now}
use Rattle.vx_sound_funcs.proofs.Seen.{asking_seen}
use Rattle.vx_sound_funcs.proofs.Agree.{taken_amount}
use Rattle.vx_live.specs.Quiet.{Still}
use Rattle.vx_live.proofs.Speaks.{Speaks, SpeaksOf}
use Rattle.vx_sound.proofs.Conjoined.{conjoined_typed}
use Rattle.vx_live.proofs.Quiet.{Quiet, after, outer_left, measured_left, equations_still, name_still, still_quiet}
use Rattle.vx_law.specs.Means.{Promise}
use Rattle.vx_law.proofs.Woken.{woken, fact_woken, Quietly}
use Rattle.vx_law.proofs.Told.{Walk, On, off_still, Told, told_after, FollowsWith, OffGiving, on_quiet, off_quiet, step_told}
use Rattle.vx_law.proofs.Values.{firm_worth, added_is}
use Rattle.vx_law.proofs.ToldProduce.{named_quietly, state_same}
use Rattle.vx_law.proofs.ToldConsume.{Reads}
use Rattle.vx_law.proofs.Facts.{Stated}
use Rattle.vx_law.proofs.Longer.{Longer, found_longer, entries_longer, worth_longer, worth_tree}
use Rattle.vx_law.proofs.Sides.{AllTold, FactsStated, sides_stated}
use Rattle.vx_law.proofs.Symbols.{elements, known}
use Rattle.vx_law.proofs.Promises.{promise_of}
use Rattle.vx_law.proofs.Worth.{Worth, worth_later, worth_seen, worth_snap}

-- what is asked of a function that may be applied
pub record Spoken (p : Program) (Held : Name → Type 0) (g : Function) : Type 0 where
  pub typed : IsTypedFunction p g
  pub requires : SpeaksOf Held (precondition_of g)
  pub asks_for : AsksFor Held (precondition_of g)
  pub body : Speaks Held g.body
  pub ensures : Speaks Held (conjoined g.place g.ensures)

-- an application that is allowed firmly, in a state that can be
pub record Allowed (p : Program) (Held : Name → Type 0) (f : Name) (g : Function) (vs : List Value) (v : Value) (c : run.State) : Type 0 where
  pub held : Held f
  pub named : function_named p f ≡ Some g
  pub types : run.HaveTypes g.parameters vs
  pub holds : HoldsInstances p Held true c.heap c.holdings
  pub fuel : ℕ
  pub is : firm_application p (firmly p fuel) f vs c ≡ Some v

-- What is known of such applications: the symbol of the function means the value, and nothing else; and the value has its type.
pub record Knows (means : Meaning) (p : Program) (Held : Name → Type 0) : Type 0 where
  pub made : (f : Name) (g : Function) (vs : List Value) (v : Value) (c : run.State) (tree : Tree) → Allowed p Held f g vs v c → IsAskingTreeOf p (run.with_store (run.bind g.parameters vs) c) (precondition_of g) tree → means (function_number p f) (TreeElement tree ∷ elements vs) (element v)
  pub single : (k : ℕ) (es : List Element) (d e : Element) → means k es d → means k es e → d ≡ e
  pub typed : (f : Name) (g : Function) (vs : List Value) (v : Value) (c : run.State) (tree : Tree) → Allowed p Held f g vs v c → IsAskingTreeOf p (run.with_store (run.bind g.parameters vs) c) (precondition_of g) tree → type_of v ≡ g.of

append_nil : {A : Type 0} (xs : List A) → xs ≡ xs ++ []
append_nil [] = refl
append_nil (x ∷ xs) = ap (λ ys. x ∷ ys) (append_nil xs)

level_more : (l : ℕ) → nat_lt 0 (l + 1) ≡ true
level_more l = lt-ltb 0 (l + 1) (omega arith)

module _ (means : Meaning) (p : Program) (good : GoodBodies p) (functions : GoodFunctions p) (Held : Name → Type 0) (no_perm : (x : Name) (d : Predicate) → predicate_named p x ≡ Some d → HaveNoPerm d.parameters) (n : ℕ)
    (typed_functions : (f : Name) (g : Function) → function_named p f ≡ Some g → IsTypedFunction p g) (spoken : (f : Name) (g : Function) → Held f → function_named p f ≡ Some g → Spoken p Held g) (knows : Knows means p Held) where
  abbrev pub world : World
  world = quiet_world p good Held no_perm true

  also : {i j k : Interpretation} → Extends means n i j → Extends means n j k → Extends means n i k
  also x y = extends-trans means (le_refl n) x y

  -- where a function starts, what is held can be
  start_holds : (f : Name) (g : Function) (vs : List Value) (m : ℕ) (c u : run.State) (rest : run.Holdings) → Held f → function_named p f ≡ Some g → run.HaveTypes g.parameters vs → HoldsInstances p Held true c.heap c.holdings → (b : Begun p good functions m g vs c u rest) →
      HoldsInstances p Held true c.heap (added full b.entries_of [])
  start_holds f g vs m c u rest held named types h b =
      lower p good Held true c.heap c.holdings (added full b.entries_of []) h typed
      (added_debts p good Held true full b.entries_of [] full-positive (asking_positive p (applications p m) (bare (run.bind g.parameters vs) c.heap) (precondition_of g) b.entries_of (functions.asks f g named) b.entries_are) (λ r s. le-refl none))
      (λ i z. h.grounded i (positive-le z (taken_amount p c.heap b.entries_of c.holdings rest (run.Folded i) (held_rigid i (added full b.entries_of []) (all_single p Held (added full b.entries_of []) typed) z) b.rest_is b.stock)))
      (λ k l. (k, taken_total p good c.heap b.entries_of c.holdings rest k l b.rest_is b.stock))
    where
      says : Spoken p Held g
      says = spoken f g held named

      typed : TypedAll p Held (added full b.entries_of [])
      typed = typed_added p Held full b.entries_of [] (asking_typed p Held no_perm typed_functions g.parameters vs types c.heap m (precondition_of g) b.entries_of (joined_typed p g.parameters g.place g.requires says.typed.requires) says.asks_for b.entries_are) tt

  -- facts that are true are added
  stated_here : {scope : Scope} {i : Interpretation} {s : State} {c : run.State} (t : Term) → Quietly means world n scope i s c → Stated means n i t → Quietly means world n scope i (with_fact t s) c
  stated_here {scope = scope} {i = i} {s = s} {c = c} t here k = record { stands = subst (λ z. Stands means world scope i z c) (fact_woken n t s) (settled_fact means world t here.stands k.settled k.holds) }

  facts_here : {scope : Scope} {i : Interpretation} {c : run.State} (ts : List Term) (s : State) → Quietly means world n scope i s c → Each (Stated means n i) ts → Quietly means world n scope i (with_facts ts s) c
  facts_here [] s here k = here
  facts_here (t ∷ ts) s here k = facts_here ts (with_fact t s) (stated_here t here k.0) k.1

  -- with an interpretation that knows more
  quietly_later : {scope : Scope} {i j : Interpretation} {s : State} {c : run.State} → Extends means n i j → Quietly means world n scope i s c → Quietly means world n scope j s c
  quietly_later {s = s} x here = record { stands = stands_later means world {s = woken n s} n (le_refl n) x here.stands }

  module _ (k : ℕ) (below : (m : ℕ) → AllTold means p good Held no_perm n (outer p k) (firmly p m)) where
    -- where a function's parts are evaluated quietly, nothing is held
    begins : {scope inside : Scope} {i : Interpretation} {s : State} {c : run.State} (xs : rules.Store) (ys : run.Store) → Quietly means world n scope i s c → StoreStands means world n i inside xs ys →
        Quietly means world n inside i (quietly p (outer p k) xs s) (bare ys c.heap)
    begins {i = i} {c = c} xs ys here st =
        let none_held : HeapStands means world n i [] c.heap [] = record { each = tt; sums = λ r. le-refl none } in
        let z = here.stands in
        record {
          stands = record {
            store = st;
            path = z.path;
            heap = none_held;
            old = none_held;
            awake = z.awake;
            bounded = z.bounded;
            null = z.null;
            standard = z.standard;
            owned = unowned means world _ _ _ _ _ _ _ None refl z.owned;
            marked = λ e. tt;
            holds = nothing p good Held true c.heap;
            old_holds = nothing p good Held true c.heap;
          };
        }

    -- an application with its snapshot, where a quiet state stands
    pub record Applied (scope : Scope) (i : Interpretation) (s : State) (c : run.State) (f : Name) (g : Function) (ts : List Term) (vs : List Value) (v : Value) (m : ℕ) (snapshot t : Term) (tree : Tree) : Type 0 where
      here : Quietly means world n scope i s c
      held : Held f
      named : function_named p f ≡ Some g
      each : TermsStand means world n i g.parameters ts vs
      types : run.HaveTypes g.parameters vs
      steps : Steps p (firmly p m) g vs c v
      begun : Begun p good functions m g vs c steps.start steps.rest
      holds : HoldsInstances p Held true c.heap (added full begun.entries_of [])
      worth : Worth means p n i (bare (run.bind g.parameters vs) c.heap) (precondition_of g) tree snapshot
      good_term : Good means n i t (sort_of_type g.of)
      is : value i t ≡ element v
      typed : type_of v ≡ g.of
      promised : Promise p g vs v c.heap

    applied_later : {scope : Scope} {i j : Interpretation} {s s1 : State} {c : run.State} {f : Name} {g : Function} {ts : List Term} {vs : List Value} {v : Value} {m : ℕ} {snapshot t : Term} {tree : Tree} → Extends means n i j → Quietly means world n scope j s1 c →
        Applied scope i s c f g ts vs v m snapshot t tree → Applied scope j s1 c f g ts vs v m snapshot t tree
    applied_later {c = c} {g = g} {ts = ts} {vs = vs} {snapshot = snapshot} {t = t} {tree = tree} x here a = record {
      here = here;
      held = a.held;
      named = a.named;
      each = terms_later means world (le_refl n) x g.parameters ts vs a.each;
      types = a.types;
      steps = a.steps;
      begun = a.begun;
      holds = a.holds;
      worth = worth_later means p n x (bare (run.bind g.parameters vs) c.heap) (precondition_of g) tree snapshot a.worth;
      good_term = good_later means (le_refl n) x a.good_term;
      is = value_kept means t a.good_term.settled x ∙ a.is;
      typed = a.typed;
      promised = a.promised;
    }

    -- what is told of its body
    body_stated : (scope : Scope) (i : Interpretation) (s : State) (c : run.State) (f : Name) (g : Function) (ts : List Term) (vs : List Value) (v : Value) (m : ℕ) (snapshot t : Term) (tree : Tree) → Applied scope i s c f g ts vs v m snapshot t tree →
        FactsStated means p good Held no_perm n i (gathered (quietly p (outer p k) (rules.bind g.parameters ts) s) (λ y. equals t y) (sides_of p (outer p k) g g.body snapshot (quietly p (outer p k) (rules.bind g.parameters ts) s)))
    body_stated scope i s c f g ts vs v m snapshot t tree a =
        let says = spoken f g a.held a.named in
        let b = a.begun in
        sides_stated means p good Held no_perm n (outer p k) (firmly p m) (below m) (λ P. outer_left P p k) (precondition_of g) g.body g.parameters g.of (λ y. equals t y) (quietly p (outer p k) (rules.bind g.parameters ts) s) (level_more s.level) i
        (bare (run.bind g.parameters vs) c.heap) a.steps.start m b.entries_of v snapshot tree (joined_typed p g.parameters g.place g.requires says.typed.requires) says.requires (functions.asks f g a.named) b.entries_are a.holds a.steps.starts
        says.typed.body says.body (subst (λ z. fit p (firmly p m) z g.body ≡ Ok v) (sym (state_same _ a.steps.start (sym b.adds.store) (sym b.adds.heap) (sym b.adds.holdings) (sym b.adds.old_heap) (sym b.adds.old_holdings))) a.steps.fits)
        (begins (rules.bind g.parameters ts) (run.bind g.parameters vs) a.here (bound means world n i g.parameters ts vs a.each)) a.worth
        (λ j y x gy is ty. record { settled = (good_equals means (good_later means (le_refl n) x a.good_term) gy).settled; holds = is_equal j t y (value_kept means t a.good_term.settled x ∙ a.is ∙ sym is) })

    abbrev result_of : Function → Declaration
    result_of g = record { name = result_name; of = g.of }

    -- what is told of its postcondition
    promise_stated : (scope : Scope) (i : Interpretation) (s : State) (c : run.State) (f : Name) (g : Function) (ts : List Term) (vs : List Value) (v : Value) (m : ℕ) (snapshot t : Term) (tree : Tree) → Applied scope i s c f g ts vs v m snapshot t tree →
        FactsStated means p good Held no_perm n i (gathered (quietly p (outer p k) (rules.bind g.parameters ts ++ (result_name, t) ∷ []) s) (λ y. y)
        (sides_of p (outer p k) g (conjoined g.place g.ensures) snapshot (quietly p (outer p k) (rules.bind g.parameters ts ++ (result_name, t) ∷ []) s)))
    promise_stated scope i s c f g ts vs v m snapshot t tree a =
        let kept = a.promised in
        sides_stated means p good Held no_perm n (outer p k) (firmly p kept.fuel) (below kept.fuel) (λ P. outer_left P p k) (precondition_of g) (conjoined g.place g.ensures) (g.parameters ++ result_of g ∷ []) type.Bool (λ y. y)
        (quietly p (outer p k) (rules.bind g.parameters ts ++ (result_name, t) ∷ []) s) (level_more s.level) i inside kept.state m b.entries_of (BoolValue true) snapshot tree
        (typed_longer p g.parameters (result_of g ∷ []) (precondition_of g) (joined_typed p g.parameters g.place g.requires says.typed.requires)) says.requires plain listed a.holds kept.adds
        (conjoined_typed p (g.parameters ++ result_of g ∷ []) g.place g.ensures says.typed.ensures) says.ensures
        (subst (λ z. fit p (firmly p kept.fuel) z (conjoined g.place g.ensures) ≡ Ok (BoolValue true)) state_is kept.fits)
        stands (worth_longer p functions (bare (run.bind g.parameters vs) c.heap) inside longer means n i (precondition_of g) plain tree snapshot a.worth)
        (λ j y x gy is ty. record { settled = gy.settled; holds = ap as_bool is })
      where
        says : Spoken p Held g
        says = spoken f g a.held a.named

        b : Begun p good functions m g vs c a.steps.start a.steps.rest
        b = a.begun

        plain : IsAsking p (precondition_of g)
        plain = functions.asks f g a.named

        inside : run.State
        inside = bare (run.bind g.parameters vs ++ (result_name, v) ∷ []) c.heap

        longer : Longer (bare (run.bind g.parameters vs) c.heap) (bare (run.bind g.parameters vs ++ (result_name, v) ∷ []) c.heap)
        longer = record { variables = found_longer (run.bind g.parameters vs) ((result_name, v) ∷ []); heap = refl }

        listed : asking_entries p (applications p m) (bare (run.bind g.parameters vs ++ (result_name, v) ∷ []) c.heap) (precondition_of g) ≡ Some a.begun.entries_of
        listed = entries_longer p functions (bare (run.bind g.parameters vs) c.heap) inside longer m (precondition_of g) plain b.entries_of b.entries_are

        stands : Quietly means world n (g.parameters ++ result_of g ∷ []) i (quietly p (outer p k) (rules.bind g.parameters ts ++ (result_name, t) ∷ []) s) (bare (run.bind g.parameters vs ++ (result_name, v) ∷ []) c.heap)
        stands = begins (rules.bind g.parameters ts ++ (result_name, t) ∷ []) (run.bind g.parameters vs ++ (result_name, v) ∷ []) a.here
            (store_append means world g.parameters (rules.bind g.parameters ts) (run.bind g.parameters vs) (result_of g) (result_name, t) (result_name, v) (bound means world n i g.parameters ts vs a.each)
            (record { symbolic_name = refl; name = refl; typed = a.typed; good = a.good_term; value_is = a.is }))

        state_is : a.promised.state ≡ run.with_holdings (added full a.begun.entries_of []) (bare (run.bind g.parameters vs ++ (result_name, v) ∷ []) c.heap)
        state_is = added_is p (firmly p a.promised.fuel) (firm_worth p (speak_now p functions) a.promised.fuel) full full-positive (precondition_of g) inside a.promised.state m b.entries_of plain listed a.promised.adds

    -- what is told of the function is added
    pub record Grown (scope : Scope) (i : Interpretation) (s : State) (c : run.State) : Type 0 where
      pub interp : Interpretation
      pub extends : Extends means n i interp
      pub here : Quietly means world n scope interp s c

    pub equations_stand : (scope : Scope) (i : Interpretation) (s : State) (c : run.State) (f : Name) (g : Function) (ts : List Term) (vs : List Value) (v : Value) (m : ℕ) (snapshot t : Term) (tree : Tree) → Applied scope i s c f g ts vs v m snapshot t tree →
        Grown scope i (with_equations p (outer p k) g ts snapshot t s) c
    equations_stand scope i s c f g ts vs v m snapshot t tree a = go (nat_lt s.level 3)
      where
        go : (b : Bool) → Grown scope i (cond b (with_promise p (outer p k) g ts snapshot t (with_body p (outer p k) g ts snapshot t s)) s) c
        go true =
            let one = body_stated scope i s c f g ts vs v m snapshot t tree a in
            let s1 = with_body p (outer p k) g ts snapshot t s in
            let there : Quietly means world n scope one.interp s1 c = facts_here _ s (quietly_later one.extends a.here) one.each in
            let two = promise_stated scope one.interp s1 c f g ts vs v m snapshot t tree (applied_later one.extends there a) in
            record { interp = two.interp; extends = also one.extends two.extends; here = facts_here _ s1 (quietly_later two.extends there) two.each }
        go false = record { interp = i; extends = extends-refl means n i; here = a.here }

    -- An application's term has the function's value, and what is told of the function is true: with an interpretation that knows
    -- the application.
    pub record Tells (scope : Scope) (i : Interpretation) (s : State) (c : run.State) (f : Name) (g : Function) (ts : List Term) (v : Value) (snapshot : Term) : Type 0 where
      pub interp : Interpretation
      pub extends : Extends means n i interp
      pub here : Quietly means world n scope interp (with_equations p (outer p k) g ts snapshot (application (function_number p f) (sort_of_type g.of) snapshot (terms ts)) s) c
      pub good_term : Good means n interp (application (function_number p f) (sort_of_type g.of) snapshot (terms ts)) (sort_of_type g.of)
      pub is : value interp (application (function_number p f) (sort_of_type g.of) snapshot (terms ts)) ≡ element v
      pub typed : type_of v ≡ g.of

    pub application_told : (scope : Scope) (i : Interpretation) (s : State) (c : run.State) (f : Name) (g : Function) (ts : List Term) (vs : List Value) (v : Value) (m : ℕ) (snapshot : Term) (tree : Tree) → Held f → function_named p f ≡ Some g → TermsStand means world n i g.parameters ts vs →
        Quietly means world n scope i s c → firm_application p (firmly p m) f vs c ≡ Some v → Worth means p n i (run.with_store (run.bind g.parameters vs) c) (precondition_of g) tree snapshot → Tells scope i s c f g ts v snapshot
    application_told scope i s c f g ts vs v m snapshot tree held named each here is wo =
        let snap = worth_snap means p n i callee (precondition_of g) tree snapshot wo in
        let sees : Sees callee (bare (run.bind g.parameters vs) c.heap) = record { store = refl; heap = refl } in
        let bare_worth = worth_seen means p n functions i callee (bare (run.bind g.parameters vs) c.heap) sees (precondition_of g) plain tree snapshot wo in
        let there = tree_of (worth_tree means p n i (bare (run.bind g.parameters vs) c.heap) (precondition_of g) tree snapshot m b.entries_of b.entries_are bare_worth) in
        let made = knows.made f g vs v c tree allowed there in
        let value_type = knows.typed f g vs v c tree allowed there in
        let kn = known means world n i g (function_number p f) snapshot tree ts vs v snap.good snap.is each value_type made (λ old z. knows.single (function_number p f) (TreeElement tree ∷ elements vs) old (element v) z made) in
        let t = application (function_number p f) (sort_of_type g.of) snapshot (terms ts) in
        let grown = equations_stand scope kn.interp s c f g ts vs v m snapshot t tree (record {
          here = quietly_later kn.extends here;
          held = held;
          named = named;
          each = terms_later means world (le_refl n) kn.extends g.parameters ts vs each;
          types = types;
          steps = st;
          begun = b;
          holds = start_holds f g vs m c st.start st.rest held named types here.stands.holds b;
          worth = worth_later means p n kn.extends (bare (run.bind g.parameters vs) c.heap) (precondition_of g) tree snapshot bare_worth;
          good_term = kn.good;
          is = kn.is;
          typed = value_type;
          promised = promise_of p good functions m f g vs c v named st;
        }) in
        record {
          interp = grown.interp;
          extends = also kn.extends grown.extends;
          here = grown.here;
          good_term = good_later means (le_refl n) grown.extends kn.good;
          is = value_kept means t kn.good.settled grown.extends ∙ kn.is;
          typed = value_type;
        }
      where
        plain : IsAsking p (precondition_of g)
        plain = functions.asks f g named

        says : Spoken p Held g
        says = spoken f g held named

        st : Steps p (firmly p m) g vs c v
        st = steps_of p (firmly p m) f g vs c v named is

        types : run.HaveTypes g.parameters vs
        types = values_typed means world n i g.parameters ts vs each

        b : Begun p good functions m g vs c st.start st.rest
        b = begun p good functions m m (alike p good functions m m (le_refl m)) f g vs c v named (typed_rigid g.parameters vs says.typed.parameters types) (stock p good Held true c.heap c.holdings here.stands.holds) st

        allowed : Allowed p Held f g vs v c
        allowed = record { held = held; named = named; types = types; holds = here.stands.holds; fuel = m; is = is }

        callee : run.State
        callee = run.with_store (run.bind g.parameters vs) c

        tree_of : IsAskingTreeOf p (bare (run.bind g.parameters vs) c.heap) (precondition_of g) tree → IsAskingTreeOf p (run.with_store (run.bind g.parameters vs) c) (precondition_of g) tree
        tree_of (l, e) =
            let sees : Sees (bare (run.bind g.parameters vs) c.heap) (run.with_store (run.bind g.parameters vs) c) = record { store = refl; heap = refl } in
            (l, asking_seen p functions l (bare (run.bind g.parameters vs) c.heap) (run.with_store (run.bind g.parameters vs) c) sees (tree_by p l c.heap) (precondition_of g) plain ∙ e)

    -- What follows an application, with its value

    -- the heap after the precondition is the caller's
    returned : (w : Walk means n) {scope inside : Scope} {i j : Interpretation} {s s1 : State} {c : run.State} {ys : run.Store} {rest : run.Holdings} → Extends means n i j → On means world n w scope i s c → On means world n w inside j s1 (run.with_holdings rest (run.with_store ys c)) →
        On means world n w scope j (with_heap s.heap (back s s1)) c
    returned w {scope = scope} {s = s} {c = c} x here on1 = record {
      still = (let z = on1.still in record { next = z.next; level = z.level; path = z.path });
      quietly = record {
        stands = (let z = on1.quietly.stands in
            let y = here.quietly.stands in
            record {
              store = store_later means world (le_refl n) x scope s.store c.store y.store;
              path = z.path;
              heap = heap_later means world (le_refl n) x s.heap c.heap c.holdings y.heap;
              old = z.old;
              awake = z.awake;
              bounded = z.bounded;
              null = z.null;
              standard = z.standard;
              owned = z.owned;
              marked = λ e. tt;
              holds = y.holds;
              old_holds = z.old_holds;
            });
      };
    }

    pub applied_told : (w : Walk means n) (m : ℕ) (scope : Scope) (i : Interpretation) (s : State) (c : run.State) (at : Place) (f : Name) (g : Function) (ts : List Term) (vs : List Value) (v : Value) (on : Giving) → Held f → function_named p f ≡ Some g →
        TermsStand means world n i g.parameters ts vs → On means world n w scope i s c → firm_application p (firmly p m) f vs c ≡ Some v → FollowsWith means world n w scope i c g.of v on → OffGiving means world n w on → Told means world n w i (applied p (outer p k) at f ts s on)
    applied_told w m scope i s c at f g ts vs v on held named each here is h off = subst (λ z. Told means world n w i (of_function z)) (sym named) (step_told means world n w _ walked)
      where
        o : Outer
        o = outer p k

        context : Context
        context = record { pure = FunctionCode; permission = FunctionCode; builds = true }

        -- after the measure, and after the precondition
        telling : Function → Term → Going
        telling g named s3 =
            let t = application (function_number p f) (sort_of_type g.of) named (terms ts) in
            Step (on t (with_equations p (outer p k) g ts named t s3))

        taken : Function → Giving
        taken g snapshot s1 =
            let s2 = with_heap s.heap (back s s1) in
            measured p (outer p k) f g (rules.bind g.parameters ts) at (after_name snapshot s2) (telling g (name_of snapshot s2))

        of_function : Option Function → trees.Tree
        of_function None = never at FunctionCode s
        of_function (Some g) = Step (o.consume (joined g.place g.requires) (record { pure = FunctionCode; permission = FunctionCode; builds = true }) whole_amount s.heap (entered (rules.bind g.parameters ts) at s) (taken g))

        says : Spoken p Held g
        says = spoken f g held named

        plain : IsAsking p (precondition_of g)
        plain = functions.asks f g named

        st : Steps p (firmly p m) g vs c v
        st = steps_of p (firmly p m) f g vs c v named is

        holds : HoldsInstances p Held true c.heap c.holdings
        holds = here.quietly.stands.holds

        callee : run.State
        callee = run.with_store (run.bind g.parameters vs) c

        -- with the application known, what is told is added
        finished : (j : Interpretation) (snapshot : Term) (s2 : State) (tree : Tree) → Extends means n i j → On means world n w scope j s2 c → Worth means p n j (run.with_store (run.bind g.parameters vs) c) (precondition_of g) tree snapshot → Told means world n w j (telling g snapshot s2)
        finished j snapshot s2 tree x on2 wo =
            let t = application (function_number p f) (sort_of_type g.of) snapshot (terms ts) in
            let tells = application_told scope j s2 c f g ts vs v m snapshot tree held named (terms_later means world (le_refl n) x g.parameters ts vs each) on2.quietly is wo in
            step_told means world n w _ (told_after means world n w tells.extends
            (h tells.interp t (with_equations p (outer p k) g ts snapshot t s2) (also x tells.extends)
            (record { still = after on2.still (equations_still (w.Tells j) p o (outer_left (w.Tells j) p k) g ts snapshot t s2); quietly = tells.here }) tells.good_term tells.is tells.typed))

        -- above level 0 no measure is asked
        no_measure : (j : Interpretation) (s2 : State) (going : Going) → Quiet s2 → Told means world n w j (going s2) → Told means world n w j (measured p (outer p k) f g (rules.bind g.parameters ts) at s2 going)
        no_measure j s2 going q told = go s2.own
          where
            by_own : Option rules.Own → trees.Tree
            by_own None = Step (going s2)
            by_own (Some own) = cond (is_quiet s2) (Step (going s2)) (cond (is_in_group p own.function f) (decreasing p (outer p k) own g.decreases (rules.bind g.parameters ts) at s2 going) (Step (going s2)))

            quietly_so : (b : Bool) → b ≡ true → (x y : trees.Tree) → Told means world n w j x → Told means world n w j (cond b x y)
            quietly_so true e x y k = k
            quietly_so false e x y k = cc

            go : (own : Option rules.Own) → Told means world n w j (by_own own)
            go None = step_told means world n w (going s2) told
            go (Some own) = quietly_so (is_quiet s2) q (Step (going s2)) _ (step_told means world n w (going s2) told)

        -- above level 0 the snapshot names itself
        by_name : (j : Interpretation) (snapshot : Term) (s2 : State) (tree : Tree) → Extends means n i j → On means world n w scope j s2 c → Worth means p n j (run.with_store (run.bind g.parameters vs) c) (precondition_of g) tree snapshot →
            Told means world n w j (measured p (outer p k) f g (rules.bind g.parameters ts) at (after_name snapshot s2) (telling g (name_of snapshot s2)))
        by_name j snapshot s2 tree x on2 wo = go (is_named snapshot s2) (named_quietly snapshot s2 (on_quiet means world n w on2))
          where
            go : (b : Bool) → b ≡ true → Told means world n w j
                (measured p (outer p k) f g (rules.bind g.parameters ts) at (cond b s2 (with_fact (equals (rules.fresh (sort_of snapshot) s2) snapshot) (rules.after_fresh s2))) (telling g (cond b snapshot (rules.fresh (sort_of snapshot) s2))))
            go true e = no_measure j s2 (telling g snapshot) (on_quiet means world n w on2) (finished j snapshot s2 tree x on2 wo)
            go false e = cc

        off_taken : OffGiving means world n w (taken g)
        off_taken j snapshot s1 z =
            let s2 = with_heap s.heap (back s s1) in
            let named = name_of snapshot s2 in
            let left = outer_left (w.Tells j) p k in
            let before : Still s1 s2 = record { next = refl; level = refl; path = ([], append_nil s1.path) } in
            let renamed : Still s1 (after_name snapshot s2) = after before (name_still snapshot s2 (still_quiet before (off_quiet means world n w z))) in
            measured_left (w.Tells j) p o left (after_name snapshot s2) f g (rules.bind g.parameters ts) at (telling g named) (still_quiet renamed (off_quiet means world n w z)) (λ s3 st3.
            let t = application (function_number p f) (sort_of_type g.of) named (terms ts) in
            off j t (with_equations p (outer p k) g ts named t s3) (off_still means world n w z (after renamed (after st3 (equations_still (w.Tells j) p o left g ts named t s3)))))

        entering : On means world n w g.parameters i (entered (rules.bind g.parameters ts) at s) (run.with_holdings c.holdings (run.with_store (run.bind g.parameters vs) c))
        entering = record {
          still = (let z = here.still in record { next = z.next; level = z.level; path = z.path });
          quietly = record {
            stands = (let z = here.quietly.stands in
                record { store = bound means world n i g.parameters ts vs each; path = z.path; heap = z.heap; old = z.old; awake = z.awake; bounded = z.bounded; null = z.null; standard = z.standard; owned = z.owned; marked = λ e. tt; holds = z.holds; old_holds = z.old_holds });
          };
        }

        reads : Reads means p good Held no_perm n w i s.heap (run.with_store (run.bind g.parameters vs) c)
        reads = record { heap = here.quietly.stands.heap; holds = holds }

        walked : Told means world n w i (o.consume (joined g.place g.requires) (record { pure = FunctionCode; permission = FunctionCode; builds = true }) whole_amount s.heap (entered (rules.bind g.parameters ts) at s) (taken g))
        walked =
            let shown = below m w in
            shown.consumes full (precondition_of g) g.parameters callee c.holdings st.rest (joined_typed p g.parameters g.place g.requires says.typed.requires) says.requires plain st.takes i
            (entered (rules.bind g.parameters ts) at s) context whole_amount s.heap (taken g) (whole_scale means world n i) entering reads
            (λ j snapshot s1 tree x on1 wo. by_name j snapshot (with_heap s.heap (back s s1)) tree x (returned w x here on1) wo) off_taken
