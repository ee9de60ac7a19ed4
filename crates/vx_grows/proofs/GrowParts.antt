-- What is shown of rules for the parts of others; and applications and instances that are unfolded, over them.
use Rattle.std.proofs.Common.{true, cond, List, Option, Some, None}
use Rattle.vx_ast.specs.declared.Place.{Place}
use Rattle.vx_ast.specs.Syntax.{Name, Program, Function, Predicate, function_named, predicate_named, joined, Expr, Exprs, Assertion, Measure, ByNumber, ByInstance}
use Rattle.vx_terms.specs.Sorts.{SnapSort}
use Rattle.vx_terms.specs.Terms.{Term}
use Rattle.vx_terms.specs.Build.{application, whole_amount}
use Rattle.vx_rules.specs.States.{sort_of_type, Store, bind, Chunk, Heap, Own, State, is_quiet, with_heap, name_of, after_name}
use Rattle.vx_rules.specs.Trees.{FunctionCode, UnfoldCode, MeasureCode, Tree, Step}
use Rattle.vx_rules.specs.Chunks.{instance_key, candidates, holds_some, only_inner}
use Rattle.vx_rules.specs.Groups.{is_in_group, function_number}
use Rattle.vx_rules.specs.Rules.{Giving, Going, GivingAll, never, Context, entered, back, terms, leads_inside, Outer, with_equations, lesser, decreasing, measured, applied, unfolded}
use Rattle.vx_grows.proofs.Later.{name_later, equations_later}
use Rattle.vx_grows.proofs.GrowSteps.{GrowsIn, Follows, FollowsWith, FollowsAll, earlier, either_grows, ask_grows, never_grows, first_grows, take_grows}

-- each of them grows where what follows does
pub record OuterGrows (o : Outer) : Type 0 where
  pub eval : (e : Expr) (s : State) (on : Giving) → FollowsWith on → GrowsIn s (o.eval e s on)
  pub evals : (es : Exprs) (s : State) (on : GivingAll) → FollowsAll on → GrowsIn s (o.evals es s on)
  pub produce : (a : Assertion) (scale : Term) (snapshot : Option Term) (s : State) (on : Going) → Follows on → GrowsIn s (o.produce a scale snapshot s on)
  pub consume : (a : Assertion) (x : Context) (scale : Term) (heap : Heap) (s : State) (on : Giving) → FollowsWith on → GrowsIn s (o.consume a x scale heap s on)

module _ (p : Program) (o : Outer) (below : OuterGrows o) where
  -- An application

  decreasing_grows : (own : Own) (m : Option Measure) (x : Store) (at : Place) (s : State) (on : Going) → Follows on → GrowsIn s (decreasing p o own m x at s on)
  decreasing_grows own None x at s on h = never_grows s at MeasureCode
  decreasing_grows own (Some (ByNumber e)) x at s on h =
      below.eval e (entered x at s) _ (λ m s1. ask_grows (back s s1) (lesser p o own.measure m) at MeasureCode on h)
  decreasing_grows own (Some (ByInstance place i es)) x at s on h =
      below.evals es (entered x at s) _ (λ us s1.
      let s2 = back s s1 in
      first_grows s2 (holds_some us) (only_inner (candidates (instance_key i us) s2.heap)) at MeasureCode (λ c. on s2) (never at MeasureCode s2) (λ c. h s2) (never_grows s2 at MeasureCode))

  pub measured_grows : (f : Name) (g : Function) (x : Store) (at : Place) (s : State) (on : Going) → Follows on → GrowsIn s (measured p o f g x at s on)
  measured_grows f g x at s on h = go s.own
    where
      by_own : Option Own → Tree
      by_own None = Step (on s)
      by_own (Some own) = cond (is_quiet s) (Step (on s)) (cond (is_in_group p own.function f) (decreasing p o own g.decreases x at s on) (Step (on s)))

      go : (own : Option Own) → GrowsIn s (by_own own)
      go None = h s
      go (Some own) =
          let decreased = decreasing p o own g.decreases x at s on in
          either_grows s (is_quiet s) (Step (on s)) (cond (is_in_group p own.function f) decreased (Step (on s))) (h s)
          (either_grows s (is_in_group p own.function f) decreased (Step (on s)) (decreasing_grows own g.decreases x at s on h) (h s))

  -- what is told once it is measured, with its snapshot's name
  abbrev pub telling : Name → Function → List Term → Term → Giving → Going
  telling f g ts named on s =
      let t = application (function_number p f) (sort_of_type g.of) named (terms ts) in
      Step (on t (with_equations p o g ts named t s))

  pub telling_grows : (f : Name) (g : Function) (ts : List Term) (named : Term) (on : Giving) → FollowsWith on → Follows (telling f g ts named on)
  telling_grows f g ts named on h s =
      let t = application (function_number p f) (sort_of_type g.of) named (terms ts) in
      earlier (equations_later p o g ts named t s) (on t (with_equations p o g ts named t s)) (h t (with_equations p o g ts named t s))

  pub applied_grows : (at : Place) (f : Name) (ts : List Term) (s : State) (on : Giving) → FollowsWith on → GrowsIn s (applied p o at f ts s on)
  applied_grows at f ts s on h = go (function_named p f)
    where
      context : Context
      context = record { pure = FunctionCode; permission = FunctionCode; builds = true }

      -- once its precondition is taken
      taken : Function → Giving
      taken g snapshot s1 =
          let s2 = with_heap s.heap (back s s1) in
          measured p o f g (bind g.parameters ts) at (after_name snapshot s2) (telling f g ts (name_of snapshot s2) on)

      taken_grows : (g : Function) → FollowsWith (taken g)
      taken_grows g snapshot s1 =
          let s2 = with_heap s.heap (back s s1) in
          let told = telling f g ts (name_of snapshot s2) on in
          earlier {s = s2} (name_later snapshot s2) (taken g snapshot s1)
          (measured_grows f g (bind g.parameters ts) at (after_name snapshot s2) told (telling_grows f g ts (name_of snapshot s2) on h))

      by_function : Option Function → Tree
      by_function None = never at FunctionCode s
      by_function (Some g) = Step (o.consume (joined g.place g.requires) context whole_amount s.heap (entered (bind g.parameters ts) at s) (taken g))

      go : (g : Option Function) → GrowsIn s (by_function g)
      go None = never_grows s at FunctionCode
      go (Some g) = below.consume (joined g.place g.requires) context whole_amount s.heap (entered (bind g.parameters ts) at s) (taken g) (taken_grows g)

  -- an instance that was taken in a state is exchanged for its body
  pub unfolded_grows : (at : Place) (i : Name) (ts : List Term) (a : Term) (s : State) (on : Going) → Follows on → GrowsIn s (unfolded p o at i ts a s on)
  unfolded_grows at i ts a s on h =
      take_grows s (instance_key i ts) a SnapSort at UnfoldCode (λ c s1. by_predicate c s1 (predicate_named p i)) (λ c s1. of_predicate c s1 (predicate_named p i))
    where
      by_body : Chunk → State → Predicate → Option Assertion → Tree
      by_body c s1 d None = never at UnfoldCode s1
      by_body c s1 d (Some body) = o.produce body a (Some c.value) (record (entered (bind d.parameters ts) at s1) { inner = leads_inside c }) (λ s2. on (back s s2))

      by_predicate : Chunk → State → Option Predicate → Tree
      by_predicate c s1 None = never at UnfoldCode s1
      by_predicate c s1 (Some d) = by_body c s1 d d.body

      of_body : (c : Chunk) (s1 : State) (d : Predicate) (b : Option Assertion) → GrowsIn s1 (by_body c s1 d b)
      of_body c s1 d None = never_grows s1 at UnfoldCode
      of_body c s1 d (Some body) =
          below.produce body a (Some c.value) (record (entered (bind d.parameters ts) at s1) { inner = leads_inside c }) (λ s2. on (back s s2)) (λ s2. h (back s s2))

      of_predicate : (c : Chunk) (s1 : State) (d : Option Predicate) → GrowsIn s1 (by_predicate c s1 d)
      of_predicate c s1 None = never_grows s1 at UnfoldCode
      of_predicate c s1 (Some d) = of_body c s1 d d.body
