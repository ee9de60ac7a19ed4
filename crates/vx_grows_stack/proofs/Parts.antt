-- What frames are made of grows where what follows does.
use Rattle.std.proofs.Common.{ℕ, Bool, List, drop, Option, Some, None, pos}
use Rattle.std.specs.Prelude.{string_bytes}
use Rattle.vx_ast.specs.declared.Place.{Place}
use Rattle.vx_ast.specs.Syntax.{Name, Program, Predicate, Assertion, predicate_named}
use Rattle.vx_resolved.specs.Resolved.{function}
use Rattle.vx_terms.specs.Sorts.{Sort, SnapSort}
use Rattle.vx_terms.specs.Terms.{Term, Number}
use Rattle.vx_terms.specs.Build.{negate, equals, less_equal, wrap, zero_amount}
use Rattle.vx_heap.specs.Views.{candidates_of, held_term}
use Rattle.vx_rules.specs.States.{Heap, State, bind, is_quiet, with_heap, fresh, after_fresh, name_of, after_name}
use Rattle.vx_rules.specs.Trees.{Code, AmountCode, DivisorCode, MeasureCode, UnfoldCode, Tree, End, Step}
use Rattle.vx_rules.specs.Chunks.{field_key, instance_key, Candidate, candidates, holds_some, only_inner}
use Rattle.vx_rules.specs.Codes.{code}
use Rattle.vx_rules.specs.Rules.{Giving, Going, Context, ask, never, field_sort, placed, with_built_wrap, produced_value, after_value, produced_snapshot, after_snapshot, entered, back}
use Rattle.vx_rules.specs.Members.{rules}
use Rattle.vx_stack.specs.declared.waiting.Search.{Search}
use Rattle.vx_stack.specs.declared.waiting.Application.{Application}
use Rattle.vx_stack.specs.declared.waiting.Applied.{Applied}
use Rattle.vx_stack.specs.declared.waiting.Production.{Production}
use Rattle.vx_stack.specs.declared.waiting.Consumption.{Consumption}
use Rattle.vx_stack.specs.declared.waiting.Instance.{Instance}
use Rattle.vx_stack.specs.Values.{values}
use Rattle.vx_stack.specs.Stack.{wanted, finding, taking_none, with_instance, with_divisor, telling, told, measuring, measured_by, producing, consuming, with_location, putting, with_held, putting_instance, take_location, taking, take_instance, taking_instance, wrapped, exchanged, body_of}
use Rattle.vx_grows.proofs.Later.{Later, after, name_later, put_later, value_later, snapshot_later, built_wrap_later}
use Rattle.vx_grows.proofs.GrowSteps.{GrowsIn, Follows, FollowsWith, earlier, either_grows, ask_grows, never_grows, first_grows, take_grows}
use Rattle.vx_grows.proofs.GrowParts.{OuterGrows, measured_grows, telling_grows}
use Rattle.vx_grows.proofs.GrowAssertions.{produce_grows, consume_grows}
use Rattle.vx_grows.proofs.GrowMembers.{rules_grow}

pub finding_grows : (x : Search) (k : ℕ) (s : State) (on : Candidate → Tree) (otherwise : Tree) → ((c : Candidate) → GrowsIn s (on c)) → GrowsIn s otherwise → GrowsIn s (finding x k s on otherwise)
finding_grows x k s on otherwise g h = first_grows s (wanted x) (drop k (candidates_of x.candidates.items)) x.place (code x.code) on otherwise g h

pub none_grows : (a : Term) (of : Sort) (at : Place) (c : Code) (s : State) (on : Giving) → FollowsWith on → GrowsIn s (taking_none a of at c s on)
none_grows a of at c s on h =
    let new = λ (s1 : State). on (fresh of s1) (after_fresh s1) in
    either_grows s (is_quiet s) End (ask (equals a zero_amount) at c s new) tt (ask_grows s (equals a zero_amount) at c new (λ s1. h (fresh of s1) (after_fresh s1)))

pub divisor_grows : (at : Place) (s : State) (u : Term) (on : Going) → Follows on → GrowsIn s (with_divisor at s u on)
divisor_grows at s u on h = ask_grows s (negate (equals u (Number (pos 0)))) (placed s at) DivisorCode on h

pub instance_later : (i : Name) (ts : List Term) (a snapshot : Term) (s : State) → Later s (with_instance i ts a snapshot s)
instance_later i ts a snapshot s = after (name_later snapshot s) (put_later (record (instance_key i ts) { amount = a; value = name_of snapshot s }) (after_name snapshot s))

module _ (p : Program) where
  abbrev below : OuterGrows (rules p)
  below = rules_grow p

  -- Applications

  pub told_by_grows : (x : Application) (snapshot : Term) (on : Giving) → FollowsWith on → Follows (telling p x snapshot on)
  told_by_grows x snapshot on h s = telling_grows p (rules p) below (string_bytes x.name.value) (function x.function.value) (values x.arguments.value) snapshot on h s

  pub told_grows : (x : Applied) (on : Giving) → FollowsWith on → Follows (told p x on)
  told_grows x on h s = told_by_grows x.application.value (held_term x.snapshot) on h s

  pub measuring_grows : (x : Application) (snapshot : Term) (on : Giving) → FollowsWith on → Follows (measuring p x snapshot on)
  measuring_grows x snapshot on h s =
      let g = function x.function.value in
      measured_grows p (rules p) below (string_bytes x.name.value) g (bind g.parameters (values x.arguments.value)) x.place s (telling p x snapshot on) (told_by_grows x snapshot on h)

  pub measured_by_grows : (x : Applied) (i : Name) (us : List Term) (s : State) (on : Giving) → FollowsWith on → GrowsIn s (measured_by p x i us s on)
  measured_by_grows x i us s on h =
      let at = x.application.value.place in
      first_grows s (holds_some us) (only_inner (candidates (instance_key i us) s.heap)) at MeasureCode (λ c. told p x on s) (never at MeasureCode s) (λ c. told_grows x on h s) (never_grows s at MeasureCode)

  -- Assertions

  pub producing_grows : (a : Assertion) (x : Production) (s : State) (on : Going) → Follows on → GrowsIn s (producing p a x s on)
  producing_grows a x s on h = produce_grows p (rules p) below a _ _ s on h

  pub consuming_grows : (a : Assertion) (x : Consumption) (s : State) (on : Giving) → FollowsWith on → GrowsIn s (consuming p a x s on)
  consuming_grows a x s on h = consume_grows p (rules p) below a _ _ _ s on h

  -- What is put

  pub location_later : (f : Name) (r a : Term) (snapshot : Option Term) (inside : Bool) (s : State) → Later s (with_location p f r a snapshot inside s)
  location_later f r a snapshot inside s =
      let s1 = after_value (field_sort p f) snapshot s in
      after (value_later (field_sort p f) snapshot s) (put_later (record (field_key f r) { amount = a; value = produced_value (field_sort p f) snapshot s; inner = inside }) s1)

  pub putting_grows : (at : Place) (f : Name) (r a : Term) (snapshot : Option Term) (inside : Bool) (s : State) (on : Going) → Follows on → GrowsIn s (putting p at f r a snapshot inside s on)
  putting_grows at f r a snapshot inside s on h =
      let done = with_location p f r a snapshot inside in
      ask_grows s (less_equal zero_amount a) (placed s at) AmountCode (λ s1. Step (on (done s1))) (λ s1. earlier (location_later f r a snapshot inside s1) (on (done s1)) (h (done s1)))

  pub held_later : (i : Name) (ts : List Term) (a : Term) (snapshot : Option Term) (inside : Bool) (s : State) → Later s (with_held p i ts a snapshot inside s)
  held_later i ts a snapshot inside s =
      after (snapshot_later snapshot s) (put_later (record (instance_key i ts) { amount = a; value = produced_snapshot snapshot s; inner = inside }) (after_snapshot snapshot s))

  pub putting_instance_grows : (at : Place) (i : Name) (ts : List Term) (a : Term) (snapshot : Option Term) (inside : Bool) (s : State) (on : Going) → Follows on → GrowsIn s (putting_instance p at i ts a snapshot inside s on)
  putting_instance_grows at i ts a snapshot inside s on h =
      let done = with_held p i ts a snapshot inside in
      ask_grows s (less_equal zero_amount a) (placed s at) AmountCode (λ s1. Step (on (done s1))) (λ s1. earlier (held_later i ts a snapshot inside s1) (on (done s1)) (h (done s1)))

  -- What is taken

  pub take_location_grows : (at : Place) (f : Name) (r a : Term) (c : Code) (heap : Heap) (s : State) (on : Giving) → FollowsWith on → GrowsIn s (take_location p at f r a c heap s on)
  take_location_grows at f r a c heap s on h =
      take_grows (with_heap heap s) (field_key f r) a (field_sort p f) (placed s at) c (λ k s1. on k.value s1) (λ k s1. h k.value s1)

  pub taking_grows : (at : Place) (f : Name) (r a : Term) (c : Code) (heap : Heap) (s : State) (on : Giving) → FollowsWith on → GrowsIn s (taking p at f r a c heap s on)
  taking_grows at f r a c heap s on h =
      ask_grows s (less_equal zero_amount a) (placed s at) AmountCode (λ s1. take_location p at f r a c heap s1 on) (λ s1. take_location_grows at f r a c heap s1 on h)

  pub take_instance_grows : (at : Place) (i : Name) (ts : List Term) (a : Term) (c : Code) (heap : Heap) (s : State) (on : Giving) → FollowsWith on → GrowsIn s (take_instance p at i ts a c heap s on)
  take_instance_grows at i ts a c heap s on h =
      take_grows (with_heap heap s) (instance_key i ts) a SnapSort (placed s at) c (λ k s1. on k.value s1) (λ k s1. h k.value s1)

  pub taking_instance_grows : (at : Place) (i : Name) (ts : List Term) (a : Term) (c : Code) (heap : Heap) (s : State) (on : Giving) → FollowsWith on → GrowsIn s (taking_instance p at i ts a c heap s on)
  taking_instance_grows at i ts a c heap s on h =
      ask_grows s (less_equal zero_amount a) (placed s at) AmountCode (λ s1. take_instance p at i ts a c heap s1 on) (λ s1. take_instance_grows at i ts a c heap s1 on h)

  pub wrapped_grows : (f : Name) (x : Context) (on : Giving) → FollowsWith on → FollowsWith (wrapped p f x on)
  wrapped_grows f x on h v s =
      let t = wrap (field_sort p f) v in
      let s1 = with_built_wrap x (field_sort p f) v s in
      earlier (built_wrap_later x (field_sort p f) v s) (on t s1) (h t s1)

  pub exchanged_grows : (at : Place) (i : Name) (ts : List Term) (a snapshot : Term) (inside : Bool) (s : State) (on : Going) → Follows on → GrowsIn s (exchanged p at i ts a snapshot inside s on)
  exchanged_grows at i ts a snapshot inside s on h = go (predicate_named p i)
    where
      by_body : Predicate → Option Assertion → Tree
      by_body d None = never at UnfoldCode s
      by_body d (Some body) = (rules p).produce body a (Some snapshot) (record (entered (bind d.parameters ts) at s) { inner = inside }) (λ s1. on (back s s1))

      by_predicate : Option Predicate → Tree
      by_predicate None = never at UnfoldCode s
      by_predicate (Some d) = by_body d d.body

      of_body : (d : Predicate) (b : Option Assertion) → GrowsIn s (by_body d b)
      of_body d None = never_grows s at UnfoldCode
      of_body d (Some body) = (rules_grow p).produce body a (Some snapshot) (record (entered (bind d.parameters ts) at s) { inner = inside }) (λ s1. on (back s s1)) (λ s1. h (back s s1))

      go : (d : Option Predicate) → GrowsIn s (by_predicate d)
      go None = never_grows s at UnfoldCode
      go (Some d) = of_body d d.body

  pub body_of_grows : (x : Instance) (snapshot : Term) (inside : Bool) (s : State) (on : Going) → Follows on → GrowsIn s (body_of p x snapshot inside s on)
  body_of_grows x snapshot inside s on h = exchanged_grows x.place (string_bytes x.predicate.value) (values x.arguments.value) (held_term x.amount) snapshot inside s on h
