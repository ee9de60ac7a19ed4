-- What is shown of rules for the parts of others; and applications and instances that are unfolded, over them.
use Rattle.std.proofs.Common.{Bool, true, false, cond, List, [], ◌∷◌, ◌++◌, Option, Some, None}
use Rattle.std.specs.Prelude.{IfSome, nat_lt}
use Rattle.vx_ast.specs.declared.Place.{Place}
use Rattle.vx_ast.specs.Syntax.{Name, result_name, Program, Function, Predicate, function_named, predicate_named, joined, conjoined, Expr, Exprs, Assertion, Measure, ByNumber, ByInstance}
use Rattle.vx_terms.specs.Sorts.{SnapSort}
use Rattle.vx_terms.specs.Terms.{Term}
use Rattle.vx_terms.specs.Build.{equals, application, whole_amount}
use Rattle.vx_terms.specs.Interpretations.{Each}
use Rattle.vx_rules.specs.States.{sort_of_type, Store, bind, Chunk, Heap, Own, State, is_quiet, with_heap, new_entries, name_of, after_name}
use Rattle.vx_rules.specs.Trees.{FunctionCode, UnfoldCode, MeasureCode, Tree, Step, On, Left}
use Rattle.vx_rules.specs.Chunks.{instance_key, candidates, holds_some, only_inner}
use Rattle.vx_rules.specs.Groups.{is_in_group, function_number}
use Rattle.vx_rules.specs.Rules.{Giving, Going, GivingAll, never, Context, entered, back, terms, leads_inside, gathered, quietly, sides_of, with_body, with_promise, Outer, with_equations, lesser, decreasing, measured, applied, unfolded}
use Rattle.vx_readable.specs.Numerals.{IsSmallExpr, AreSmallExprs, IsSmallAssertion, IsSmallMeasure, IsSmallFunction, HasSmallNumerals}
use Rattle.vx_readable.proofs.Shapes.{Shaped, truth_shaped, zero_shaped, whole_amount_shaped, and_shaped, implies_shaped, equals_shaped, less_shaped, less_equal_shaped, application_shaped, each_join}
use Rattle.vx_readable.proofs.States.{ShapedHeap, ShapedStore, ShapedChunk, ShapedOwn, ShapedSnapshot, Sound, heap_sound, facts_sound, conjunction_shaped, new_shaped, bind_shaped, name_shaped, name_sound, candidates_shaped, inner_shaped, holds_some_shaped}
use Rattle.vx_readable.proofs.ShapeSteps.{Good, ShapedLeft, good_leaves, Follows, FollowsWith, FollowsAll, either_good, ask_good, never_good, first_good, take_good}
use Rattle.vx_readable.proofs.Programs.{predicate_small, function_small, joined_small, conjoined_small}

pub entered_sound : {s : State} (x : Store) (at : Place) → ShapedStore x → Sound s → Sound (entered x at s)
entered_sound x at h k = record { store = h; heap = k.heap; old = k.old; path = k.path; own = k.own }

pub back_sound : {before s : State} → Sound before → Sound s → Sound (back before s)
back_sound h k = record { store = h.store; heap = k.heap; old = k.old; path = k.path; own = k.own }

-- each of them is shaped where what follows is
pub record OuterGood (o : Outer) : Type 0 where
  pub eval : (e : Expr) → IsSmallExpr e → (s : State) → Sound s → (on : Giving) → FollowsWith on → Good (o.eval e s on)
  pub evals : (es : Exprs) → AreSmallExprs es → (s : State) → Sound s → (on : GivingAll) → FollowsAll on → Good (o.evals es s on)
  pub produce : (a : Assertion) → IsSmallAssertion a → (scale : Term) → Shaped scale → (snapshot : Option Term) → ShapedSnapshot snapshot → (s : State) → Sound s → (on : Going) → Follows on
      → Good (o.produce a scale snapshot s on)
  pub consume : (a : Assertion) → IsSmallAssertion a → (x : Context) (scale : Term) → Shaped scale → (heap : Heap) → ShapedHeap heap → (s : State) → Sound s → (on : Giving) → FollowsWith on
      → Good (o.consume a x scale heap s on)

gathered_shaped : (before : State) (said : Term → Term) (ls : List Left) → ((t : Term) → Shaped t → Shaped (said t)) → Each ShapedLeft ls → Each Shaped (gathered before said ls)
gathered_shaped before said [] w h = tt
gathered_shaped before said (l ∷ ls) w h =
    let added = new_entries before l.state in
    let new = new_shaped before h.0.state in
    (implies_shaped (conjunction_shaped true added new) (and_shaped (conjunction_shaped false added new) (w l.value h.0.value)), gathered_shaped before said ls w h.1)

module _ (p : Program) (small : HasSmallNumerals p) (o : Outer) (below : OuterGood o) where
  -- What an application tells

  sides_shaped : (g : Function) (e : Expr) (snapshot : Term) (start : State) → IsSmallFunction g → IsSmallExpr e → Shaped snapshot → Sound start → Each ShapedLeft (sides_of p o g e snapshot start)
  sides_shaped g e snapshot start sg se h k =
      good_leaves (o.produce (joined g.place g.requires) whole_amount (Some snapshot) start (λ s1. o.eval e s1 On))
      (below.produce (joined g.place g.requires) (joined_small g.place g.requires sg.requires) whole_amount whole_amount_shaped (Some snapshot) h start k (λ s1. o.eval e s1 On)
      (λ s1 k1. below.eval e se s1 k1 On (λ t s2 ht k2. (ht, k2))))

  quiet_sound : {s : State} (x : Store) → ShapedStore x → Sound s → Sound (quietly p o x s)
  quiet_sound x h k = record { store = h; heap = tt; old = tt; path = k.path; own = k.own }

  body_sound : {s : State} (g : Function) (ts : List Term) (snapshot t : Term) → IsSmallFunction g → Each Shaped ts → Shaped snapshot → Shaped t → Sound s → Sound (with_body p o g ts snapshot t s)
  body_sound {s = s} g ts snapshot t sg hs h ht k =
      let start = quietly p o (bind g.parameters ts) s in
      let sides = sides_of p o g g.body snapshot start in
      facts_sound (gathered start (λ w. equals t w) sides)
      (gathered_shaped start (λ w. equals t w) sides (λ w hw. equals_shaped ht hw) (sides_shaped g g.body snapshot start sg sg.body h (quiet_sound {s = s} (bind g.parameters ts) (bind_shaped g.parameters ts hs) k))) k

  promise_sound : {s : State} (g : Function) (ts : List Term) (snapshot t : Term) → IsSmallFunction g → Each Shaped ts → Shaped snapshot → Shaped t → Sound s → Sound (with_promise p o g ts snapshot t s)
  promise_sound {s = s} g ts snapshot t sg hs h ht k =
      let store = bind g.parameters ts ++ (result_name, t) ∷ [] in
      let start = quietly p o store s in
      let e = conjoined g.place g.ensures in
      let sides = sides_of p o g e snapshot start in
      facts_sound (gathered start (λ w. w) sides)
      (gathered_shaped start (λ w. w) sides (λ w hw. hw) (sides_shaped g e snapshot start sg (conjoined_small g.place g.ensures sg.ensures) h
      (quiet_sound {s = s} store (each_join (λ (f : Name × Term). Shaped f.1) (bind g.parameters ts) ((result_name, t) ∷ []) (bind_shaped g.parameters ts hs) (ht, tt)) k))) k

  equations_sound : {s : State} (g : Function) (ts : List Term) (snapshot t : Term) → IsSmallFunction g → Each Shaped ts → Shaped snapshot → Shaped t → Sound s → Sound (with_equations p o g ts snapshot t s)
  equations_sound {s = s} g ts snapshot t sg hs h ht k = go (nat_lt s.level 3)
    where
      go : (b : Bool) → Sound (cond b (with_promise p o g ts snapshot t (with_body p o g ts snapshot t s)) s)
      go true = promise_sound g ts snapshot t sg hs h ht (body_sound g ts snapshot t sg hs h ht k)
      go false = k

  -- An application

  lesser_shaped : (own : Option Term) (m : Term) → IfSome own Shaped → Shaped m → Shaped (lesser p o own m)
  lesser_shaped None m h k = truth_shaped false
  lesser_shaped (Some own) m h k = and_shaped (less_equal_shaped zero_shaped h) (less_shaped k h)

  decreasing_good : (own : Own) (m : Option Measure) (x : Store) (at : Place) (s : State) (on : Going) → IfSome own.measure Shaped → IfSome m IsSmallMeasure → ShapedStore x → Sound s → Follows on
      → Good (decreasing p o own m x at s on)
  decreasing_good own None x at s on g sm hx k h = never_good s at MeasureCode k
  decreasing_good own (Some (ByNumber e)) x at s on g sm hx k h =
      below.eval e sm (entered x at s) (entered_sound x at hx k) _ (λ m s1 hm k1. ask_good (back s s1) (lesser p o own.measure m) at MeasureCode on (lesser_shaped own.measure m g hm) (back_sound k k1) h)
  decreasing_good own (Some (ByInstance place i es)) x at s on g sm hx k h =
      below.evals es sm (entered x at s) (entered_sound x at hx k) _ (λ us s1 hu k1.
      let s2 = back s s1 in
      let k2 : Sound s2 = back_sound k k1 in
      first_good s2 (holds_some us) (only_inner (candidates (instance_key i us) s2.heap)) at MeasureCode (λ c. on s2) (never at MeasureCode s2) (λ c hc. holds_some_shaped us c hu hc)
      (inner_shaped (candidates (instance_key i us) s2.heap) (candidates_shaped (instance_key i us) s2.heap k2.heap)) k2 (λ c hc. h s2 k2) (never_good s2 at MeasureCode k2))

  measured_good : (f : Name) (g : Function) (x : Store) (at : Place) (s : State) (on : Going) → IsSmallFunction g → ShapedStore x → Sound s → Follows on → Good (measured p o f g x at s on)
  measured_good f g x at s on sg hx k h = go s.own k.own
    where
      by_own : Option Own → Tree
      by_own None = Step (on s)
      by_own (Some own) = cond (is_quiet s) (Step (on s)) (cond (is_in_group p own.function f) (decreasing p o own g.decreases x at s on) (Step (on s)))

      go : (own : Option Own) → ShapedOwn own → Good (by_own own)
      go None ho = h s k
      go (Some own) ho =
          let decreased = decreasing p o own g.decreases x at s on in
          either_good (is_quiet s) (Step (on s)) (cond (is_in_group p own.function f) decreased (Step (on s))) (h s k)
          (either_good (is_in_group p own.function f) decreased (Step (on s)) (decreasing_good own g.decreases x at s on ho sg.decreases hx k h) (h s k))

  -- what is told once it is measured, with its snapshot's name
  abbrev telling : Name → Function → List Term → Term → Giving → Going
  telling f g ts named on s =
      let t = application (function_number p f) (sort_of_type g.of) named (terms ts) in
      Step (on t (with_equations p o g ts named t s))

  telling_good : (f : Name) (g : Function) (ts : List Term) (named : Term) (on : Giving) → IsSmallFunction g → Each Shaped ts → Shaped named → FollowsWith on → Follows (telling f g ts named on)
  telling_good f g ts named on sg hs hn h s k =
      let t = application (function_number p f) (sort_of_type g.of) named (terms ts) in
      let ht = application_shaped (function_number p f) (sort_of_type g.of) ts hn hs in
      h t (with_equations p o g ts named t s) ht (equations_sound g ts named t sg hs hn ht k)

  pub applied_good : (at : Place) (f : Name) (ts : List Term) (s : State) (on : Giving) → Each Shaped ts → Sound s → FollowsWith on → Good (applied p o at f ts s on)
  applied_good at f ts s on hs k h = go (function_named p f) (function_small p f small)
    where
      context : Context
      context = record { pure = FunctionCode; permission = FunctionCode; builds = true }

      -- once its precondition is taken
      taken : Function → Giving
      taken g snapshot s1 =
          let s2 = with_heap s.heap (back s s1) in
          measured p o f g (bind g.parameters ts) at (after_name snapshot s2) (telling f g ts (name_of snapshot s2) on)

      taken_good : (g : Function) → IsSmallFunction g → FollowsWith (taken g)
      taken_good g sg snapshot s1 hn k1 =
          let s2 = with_heap s.heap (back s s1) in
          let k2 : Sound s2 = heap_sound k.heap (back_sound k k1) in
          let named = name_of snapshot s2 in
          measured_good f g (bind g.parameters ts) at (after_name snapshot s2) (telling f g ts named on) sg (bind_shaped g.parameters ts hs) (name_sound snapshot hn k2)
          (telling_good f g ts named on sg hs (name_shaped snapshot s2 hn) h)

      by_function : Option Function → Tree
      by_function None = never at FunctionCode s
      by_function (Some g) = Step (o.consume (joined g.place g.requires) context whole_amount s.heap (entered (bind g.parameters ts) at s) (taken g))

      go : (g : Option Function) → IfSome g IsSmallFunction → Good (by_function g)
      go None sg = never_good s at FunctionCode k
      go (Some g) sg =
          below.consume (joined g.place g.requires) (joined_small g.place g.requires sg.requires) context whole_amount whole_amount_shaped s.heap k.heap (entered (bind g.parameters ts) at s)
          (entered_sound (bind g.parameters ts) at (bind_shaped g.parameters ts hs) k) (taken g) (taken_good g sg)

  -- an instance that was taken in a state is exchanged for its body
  pub unfolded_good : (at : Place) (i : Name) (ts : List Term) (a : Term) (s : State) (on : Going) → Each Shaped ts → Shaped a → Sound s → Follows on → Good (unfolded p o at i ts a s on)
  unfolded_good at i ts a s on hs ha k h =
      take_good s (instance_key i ts) a SnapSort at UnfoldCode (λ c s1. by_predicate c s1 (predicate_named p i)) hs ha k (λ c s1 hc k1. of_predicate c s1 hc k1 (predicate_named p i) (predicate_small p i small))
    where
      by_body : Chunk → State → Predicate → Option Assertion → Tree
      by_body c s1 d None = never at UnfoldCode s1
      by_body c s1 d (Some body) = o.produce body a (Some c.value) (record (entered (bind d.parameters ts) at s1) { inner = leads_inside c }) (λ s2. on (back s s2))

      by_predicate : Chunk → State → Option Predicate → Tree
      by_predicate c s1 None = never at UnfoldCode s1
      by_predicate c s1 (Some d) = by_body c s1 d d.body

      inside_sound : {s1 : State} (b : Bool) (x : Store) → ShapedStore x → Sound s1 → Sound (record (entered x at s1) { inner = b })
      inside_sound b x hx k1 = record { store = hx; heap = k1.heap; old = k1.old; path = k1.path; own = k1.own }

      of_body : (c : Chunk) (s1 : State) (d : Predicate) (b : Option Assertion) → ShapedChunk c → Sound s1 → IfSome b IsSmallAssertion → Good (by_body c s1 d b)
      of_body c s1 d None hc k1 sb = never_good s1 at UnfoldCode k1
      of_body c s1 d (Some body) hc k1 sb =
          below.produce body sb a ha (Some c.value) hc.value (record (entered (bind d.parameters ts) at s1) { inner = leads_inside c })
          (inside_sound (leads_inside c) (bind d.parameters ts) (bind_shaped d.parameters ts hs) k1) (λ s2. on (back s s2)) (λ s2 k2. h (back s s2) (back_sound k k2))

      of_predicate : (c : Chunk) (s1 : State) → ShapedChunk c → Sound s1 → (d : Option Predicate) → IfSome d (λ (d : Predicate). IfSome d.body IsSmallAssertion) → Good (by_predicate c s1 d)
      of_predicate c s1 hc k1 None sd = never_good s1 at UnfoldCode k1
      of_predicate c s1 hc k1 (Some d) sd = of_body c s1 d d.body hc k1 sd
