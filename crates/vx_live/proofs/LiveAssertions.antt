-- Assertions ask well-sorted questions where they are produced and consumed, and leave a state of the same shape.
use Rattle.std.proofs.Common.{◌≡◌, ℕ, Bool, true, false, cond, inr, List, Option, Some, None, refl, sym, subst}
use Rattle.vx_ast.specs.declared.Place.{Place}
use Rattle.vx_ast.specs.declared.ValueType.{ValueType}
use Rattle.vx_ast.specs.declared.ValueType.TheVariants.{Perm}
use Rattle.vx_ast.specs.Syntax.{Name, Program, Predicate, predicate_named, place_of, Expr, Assertion, Pure, Points, Instance, Both, Implied, Chosen}
use Rattle.vx_terms.specs.Sorts.{RealSort, SnapSort, Equal}
use Rattle.vx_terms.specs.Terms.{Term, Binary}
use Rattle.vx_terms.specs.Build.{unit, pair, first, second, wrap, unwrap, written_unwrap, equals, less_equal, multiply, zero_amount}
use Rattle.vx_smt_meaning.specs.Commands.{Declared}
use Rattle.vx_rules.specs.States as rules
use Rattle.vx_rules.specs.States.{sort_of_type}
use Rattle.vx_rules.specs.Trees.{AmountCode, Step}
use Rattle.vx_rules.specs.Chunks.{field_key, instance_key, put}
use Rattle.vx_rules.specs.Rules.{Giving, Going, Context, Outer, ask, placed, field_sort, pair_facts, with_built_wrap, with_built_pair, produced_value, after_value, produced_snapshot, after_snapshot, left_part, right_part, with_split, with_unit, take_chunk, eval, produce, consume}
use Rattle.vx_types.specs.Typing.{Scope, HasType, IsTyped}
use Rattle.vx_elements.proofs.Values.{sort_of_field}
use Rattle.vx_meaning.specs.States.{field_type}
use Rattle.vx_live.proofs.Speaks.{Speaks, SpeaksOf}
use Rattle.vx_live.proofs.Over.{Sorts, Above, stays, above, Fine, fine_later, built_type, sign_fine, equals_fine, multiply_fine}
use Rattle.vx_live.proofs.Snapshots.{unit_fine, written_equal_fine, pair_fine, written_first_fine, written_second_fine, first_fine, second_fine, wrap_fine, written_unwrap_fine, unwrap_fine}
use Rattle.vx_live.proofs.Shapes.{AllFine, arguments_of, parameters_of, HeapShape, Shaped, Later, heap_le, all_fine_later, with_chunks, fact_later, facts_later, fresh_later, Named, named}
use Rattle.vx_live.proofs.LiveSteps.{Saying, LiveBy, Follows, FollowsWith, ask_live, fork_live}
use Rattle.vx_live.proofs.LiveChunks.{put_live}
use Rattle.vx_live.proofs.LiveSums.{take_live}
use Rattle.vx_live.proofs.LiveEvaluate.{PartsLive, eval_live, evals_live}

-- Snapshots that something is produced with, where there is one

abbrev pub SnapshotFine : {fs : List Declared} → Sorts fs → ℕ → Option Term → Type 0
SnapshotFine sorts n None = Unit {0}
SnapshotFine sorts n (Some t) = Fine sorts n t SnapSort

snapshot_later : {fs : List Declared} {sorts : Sorts fs} {m n : ℕ} (snapshot : Option Term) (le : Above sorts m n) → SnapshotFine sorts m snapshot → SnapshotFine le.sorts n snapshot
snapshot_later None le z = tt
snapshot_later (Some t) le z = fine_later le z

left_fine : {fs : List Declared} (sorts : Sorts fs) (n : ℕ) (snapshot : Option Term) → SnapshotFine sorts n snapshot → SnapshotFine sorts n (left_part snapshot)
left_fine sorts n None z = tt
left_fine sorts n (Some t) z = first_fine z

right_fine : {fs : List Declared} (sorts : Sorts fs) (n : ℕ) (snapshot : Option Term) → SnapshotFine sorts n snapshot → SnapshotFine sorts n (right_part snapshot)
right_fine sorts n None z = tt
right_fine sorts n (Some t) z = second_fine z

module _ {p : Program} {fs : List Declared} {sorts : Sorts fs} {scope : Scope} {s : rules.State} where
  split_later : (snapshot : Option Term) → Shaped p sorts scope s → SnapshotFine sorts s.next snapshot → Later p sorts scope s.next (with_split snapshot s)
  split_later None sh z = record { le = stays; shaped = sh }
  split_later (Some t) sh z = fact_later (equals t (pair (first t) (second t))) sh (equals_fine z (pair_fine (first_fine z) (second_fine z)))

  unit_later : (snapshot : Option Term) → Shaped p sorts scope s → SnapshotFine sorts s.next snapshot → Later p sorts scope s.next (with_unit snapshot s)
  unit_later None sh z = record { le = stays; shaped = sh }
  unit_later (Some t) sh z = fact_later (equals t unit) sh (equals_fine z unit_fine)

  -- the value of a location of this type
  type_valued : (t : ValueType) (snapshot : Option Term) → Shaped p sorts scope s → SnapshotFine sorts s.next snapshot →
      Named p sorts scope s.next (sort_of_type t) (produced_value (sort_of_type t) snapshot s) (after_value (sort_of_type t) snapshot s)
  type_valued t None sh z = let k = fresh_later (sort_of_type t) (built_type t) sh in record { le = k.le; shaped = k.shaped; formed = k.formed }
  type_valued t (Some u) sh z =
      let a = sort_of_type t in
      let n = named (unwrap a u) a sh (unwrap_fine t u z) in
      let k = fact_later (equals u (wrap a (rules.name_of (unwrap a u) s))) n.shaped (equals_fine (fine_later n.le z) (wrap_fine t n.formed)) in
      record { le = above n.le k.le; shaped = k.shaped; formed = fine_later k.le n.formed }

  valued : (f : Name) (snapshot : Option Term) → Shaped p sorts scope s → SnapshotFine sorts s.next snapshot →
      Named p sorts scope s.next (field_sort p f) (produced_value (field_sort p f) snapshot s) (after_value (field_sort p f) snapshot s)
  valued f snapshot sh z =
      subst (λ a. Named p sorts scope s.next a (produced_value a snapshot s) (after_value a snapshot s)) (sym (sort_of_field p f)) (type_valued (field_type p f) snapshot sh z)

  kept_snapshot : (snapshot : Option Term) → Shaped p sorts scope s → SnapshotFine sorts s.next snapshot → Named p sorts scope s.next SnapSort (produced_snapshot snapshot s) (after_snapshot snapshot s)
  kept_snapshot None sh z = let k = fresh_later SnapSort tt sh in record { le = k.le; shaped = k.shaped; formed = k.formed }
  kept_snapshot (Some t) sh z = named t SnapSort sh z

  -- What is built where something is consumed

  built_pair_later : (x : Context) (t u : Term) → Shaped p sorts scope s → Fine sorts s.next t SnapSort → Fine sorts s.next u SnapSort → Later p sorts scope s.next (with_built_pair x t u s)
  built_pair_later x t u sh f g = go x.builds
    where
      go : (b : Bool) → Later p sorts scope s.next (cond b (rules.with_facts (pair_facts t u) s) s)
      go true = facts_later (pair_facts t u) s sh (written_equal_fine (written_first_fine (pair_fine f g)) f, (written_equal_fine (written_second_fine (pair_fine f g)) g, tt))
      go false = record { le = stays; shaped = sh }

  type_wrap_later : (t : ValueType) (x : Context) (v : Term) → Shaped p sorts scope s → Fine sorts s.next v (sort_of_type t) → Later p sorts scope s.next (with_built_wrap x (sort_of_type t) v s)
  type_wrap_later t x v sh f = go x.builds
    where
      go : (b : Bool) → Later p sorts scope s.next (cond b (rules.with_fact (Binary Equal (written_unwrap (sort_of_type t) (wrap (sort_of_type t) v)) v) s) s)
      go true = fact_later (Binary Equal (written_unwrap (sort_of_type t) (wrap (sort_of_type t) v)) v) sh (written_equal_fine (written_unwrap_fine t (wrap_fine t f)) f)
      go false = record { le = stays; shaped = sh }

  built_wrap_later : (x : Context) (f : Name) (v : Term) → Shaped p sorts scope s → Fine sorts s.next v (field_sort p f) → Later p sorts scope s.next (with_built_wrap x (field_sort p f) v s)
  built_wrap_later x f v sh g =
      subst (λ a. Later p sorts scope s.next (with_built_wrap x a v s)) (sym (sort_of_field p f)) (type_wrap_later (field_type p f) x v sh (subst (λ a. Fine sorts s.next v a) (sort_of_field p f) g))

wrapped : {fs : List Declared} {sorts : Sorts fs} {n : ℕ} (p : Program) (f : Name) (v : Term) → Fine sorts n v (field_sort p f) → Fine sorts n (wrap (field_sort p f) v) SnapSort
wrapped {sorts = sorts} {n = n} p f v g = subst (λ a. Fine sorts n (wrap a v) SnapSort) (sym (sort_of_field p f)) (wrap_fine (field_type p f) (subst (λ a. Fine sorts n v a) (sort_of_field p f) g))

-- an instance's arguments, by its predicate
pub instance_arguments : {fs : List Declared} (p : Program) (sorts : Sorts fs) (n : ℕ) (i : Name) (d : Predicate) (ts : List Term) → predicate_named p i ≡ Some d → AllFine sorts n d.parameters ts → AllFine sorts n (arguments_of p false i) ts
instance_arguments p sorts n i d ts is f = subst (λ o. AllFine sorts n (parameters_of o) ts) (sym is) f

module _ {fs : List Declared} (P : Saying) (p : Program) (Held : Name → Type 0) (o : Outer) (parts : PartsLive fs P p Held o) where
  -- an amount, by a scale
  amount_live : {sorts : Sorts fs} {scope : Scope} {share : Expr} (at : Place) → HasType p scope share Perm → Speaks Held share → {s : rules.State} (scale : Term) (on : Term → Going) → Shaped p sorts scope s → Fine sorts s.next scale RealSort →
      ((a : Term) (s1 : rules.State) (le : Above sorts s.next s1.next) → Shaped p le.sorts scope s1 → Fine le.sorts s1.next a RealSort → LiveBy fs P (on a s1)) →
      LiveBy fs P (eval p o share s (λ a s1. ask (less_equal zero_amount (multiply scale a)) (placed s1 at) AmountCode s1 (on (multiply scale a))))
  amount_live at t k scale on sh q h =
      eval_live P p Held o parts t k _ sh (λ a s1 le sh1 f.
      let m = multiply_fine (inr refl) (fine_later le q) f in
      ask_live P (less_equal zero_amount (multiply scale a)) (placed s1 at) AmountCode (on (multiply scale a)) sh1 (sign_fine m) (λ s2 le2 sh2.
      h (multiply scale a) s2 (above le le2) sh2 (fine_later le2 m)))

  pub produce_live : {scope : Scope} (a : Assertion) → IsTyped p scope a → SpeaksOf Held a → {sorts : Sorts fs} {s : rules.State} (scale : Term) (snapshot : Option Term) (on : Going) → Shaped p sorts scope s → Fine sorts s.next scale RealSort →
      SnapshotFine sorts s.next snapshot → Follows P p sorts s.next scope on → LiveBy fs P (produce p o a scale snapshot s on)
  produce_live (Pure e) t k scale snapshot on sh q z h =
      eval_live P p Held o parts t k _ sh (λ u s1 le sh1 f.
      let g = fact_later u sh1 f in
      let r = unit_later snapshot g.shaped (snapshot_later snapshot (above le g.le) z) in
      h (with_unit snapshot (rules.with_fact u s1)) (above le (above g.le r.le)) r.shaped)
  produce_live (Both a b) t k scale snapshot on sh q z h =
      let w = split_later snapshot sh z in
      produce_live a t.0 k.0 scale (left_part snapshot) _ w.shaped (fine_later w.le q) (left_fine _ _ snapshot (snapshot_later snapshot w.le z)) (λ s1 le sh1.
      let past = above w.le le in
      produce_live b t.1 k.1 scale (right_part snapshot) on sh1 (fine_later past q) (right_fine _ _ snapshot (snapshot_later snapshot past z)) (λ s2 le2 sh2. h s2 (above past le2) sh2))
  produce_live (Points at e f share) t k {s = s} scale snapshot on sh q z h =
      eval_live P p Held o parts t.0 k.0 _ sh (λ r s1 le sh1 g.
      amount_live at t.2 k.1 scale (λ a s3. Step (on (put (record (field_key f r) { amount = a; value = produced_value (field_sort p f) snapshot s3; inner = s.inner }) (after_value (field_sort p f) snapshot s3)))) sh1 (fine_later le q) (λ a s3 le3 sh3 ga.
      let v = valued f snapshot sh3 (snapshot_later snapshot (above le le3) z) in
      let l = put_live (record (field_key f r) { amount = a; value = produced_value (field_sort p f) snapshot s3; inner = s.inner }) v.shaped (record { arguments = (fine_later (above le3 v.le) g, tt); amount = fine_later v.le ga; content = v.formed }) in
      h (put (record (field_key f r) { amount = a; value = produced_value (field_sort p f) snapshot s3; inner = s.inner }) (after_value (field_sort p f) snapshot s3)) (above le (above le3 (above v.le l.le))) l.shaped))
  produce_live (Instance at i es share) t k {s = s} scale snapshot on sh q z h =
      evals_live P p Held o parts t.0.2 k.1 _ sh (λ ts s1 le sh1 g.
      amount_live at t.1 k.2 scale (λ a s3. Step (on (put (record (instance_key i ts) { amount = a; value = produced_snapshot snapshot s3; inner = s.inner }) (after_snapshot snapshot s3)))) sh1 (fine_later le q) (λ a s3 le3 sh3 ga.
      let v = kept_snapshot snapshot sh3 (snapshot_later snapshot (above le le3) z) in
      let l = put_live (record (instance_key i ts) { amount = a; value = produced_snapshot snapshot s3; inner = s.inner }) v.shaped
      (record { arguments = instance_arguments p _ _ i t.0.0 ts t.0.1 (all_fine_later t.0.0.parameters ts (above le3 v.le) g); amount = fine_later v.le ga; content = v.formed }) in
      h (put (record (instance_key i ts) { amount = a; value = produced_snapshot snapshot s3; inner = s.inner }) (after_snapshot snapshot s3)) (above le (above le3 (above v.le l.le))) l.shaped))
  produce_live (Implied c a) t k scale snapshot on sh q z h =
      eval_live P p Held o parts t.0 k.0 _ sh (λ u s1 le sh1 f.
      fork_live P u (λ s2. produce p o a scale snapshot s2 on) (λ s2. on (with_unit snapshot s2)) sh1 f
      (λ s2 le2 sh2. produce_live a t.1 k.1 scale snapshot on sh2 (fine_later (above le le2) q) (snapshot_later snapshot (above le le2) z) (λ s3 le3 sh3. h s3 (above le (above le2 le3)) sh3))
      (λ s2 le2 sh2. let r = unit_later snapshot sh2 (snapshot_later snapshot (above le le2) z) in h (with_unit snapshot s2) (above le (above le2 r.le)) r.shaped))
  produce_live (Chosen c a b) t k scale snapshot on sh q z h =
      eval_live P p Held o parts t.0 k.0 _ sh (λ u s1 le sh1 f.
      fork_live P u (λ s2. produce p o a scale snapshot s2 on) (λ s2. produce p o b scale snapshot s2 on) sh1 f
      (λ s2 le2 sh2. produce_live a t.1 k.1 scale snapshot on sh2 (fine_later (above le le2) q) (snapshot_later snapshot (above le le2) z) (λ s3 le3 sh3. h s3 (above le (above le2 le3)) sh3))
      (λ s2 le2 sh2. produce_live b t.2 k.2 scale snapshot on sh2 (fine_later (above le le2) q) (snapshot_later snapshot (above le le2) z) (λ s3 le3 sh3. h s3 (above le (above le2 le3)) sh3)))

  pub consume_live : {scope : Scope} (a : Assertion) → IsTyped p scope a → SpeaksOf Held a → {sorts : Sorts fs} {s : rules.State} (x : Context) (scale : Term) (heap : rules.Heap) (on : Giving) → Shaped p sorts scope s → HeapShape p sorts s.next heap →
      Fine sorts s.next scale RealSort → FollowsWith P p sorts s.next scope SnapSort on → LiveBy fs P (consume p o a x scale heap s on)
  consume_live (Pure e) t k {s = s} x scale heap on sh hs q h =
      eval_live P p Held o parts t k {s = rules.with_heap heap s} _ (with_chunks heap stays hs sh) (λ u s1 le sh1 f.
      ask_live P u (placed s1 (place_of e)) x.pure (λ s2. Step (on unit (rules.with_heap s.heap s2))) sh1 f (λ s2 le2 sh2.
      h unit (rules.with_heap s.heap s2) (above le le2) (with_chunks s.heap (above le le2) sh.heap sh2) unit_fine))
  consume_live (Points at e f share) t k {s = s} x scale heap on sh hs q h =
      eval_live P p Held o parts t.0 k.0 {s = rules.with_heap heap s} _ (with_chunks heap stays hs sh) (λ r s1 le sh1 g.
      amount_live at t.2 k.1 scale
      (λ a s3. take_chunk (field_key f r) a (field_sort p f) (placed s3 at) x.permission (rules.with_heap s.heap s3) (λ c s4. Step (on (wrap (field_sort p f) c.value) (with_built_wrap x (field_sort p f) c.value s4))))
      sh1 (fine_later le q) (λ a s3 le3 sh3 ga.
      take_live P (field_key f r) a (placed s3 at) x.permission (λ c s4. Step (on (wrap (field_sort p f) c.value) (with_built_wrap x (field_sort p f) c.value s4)))
      (with_chunks s.heap (above le le3) sh.heap sh3) (fine_later le3 g, tt) ga (λ c s4 le4 sh4 gv.
      let b = built_wrap_later x f c.value sh4 gv in
      h (wrap (field_sort p f) c.value) (with_built_wrap x (field_sort p f) c.value s4) (above le (above le3 (above le4 b.le))) b.shaped (fine_later b.le (wrapped p f c.value gv)))))
  consume_live (Both a b) t k {s = s} x scale heap on sh hs q h =
      consume_live a t.0 k.0 x scale heap _ sh hs q (λ l s1 le sh1 f.
      consume_live b t.1 k.1 x scale heap _ sh1 (heap_le p heap le hs) (fine_later le q) (λ u s2 le2 sh2 g.
      let b = built_pair_later x l u sh2 (fine_later le2 f) g in
      h (pair l u) (with_built_pair x l u s2) (above le (above le2 b.le)) b.shaped (pair_fine (fine_later (above le2 b.le) f) (fine_later b.le g))))
  consume_live (Instance at i es share) t k {s = s} x scale heap on sh hs q h =
      evals_live P p Held o parts t.0.2 k.1 {s = rules.with_heap heap s} _ (with_chunks heap stays hs sh) (λ ts s1 le sh1 g.
      amount_live at t.1 k.2 scale (λ a s3. take_chunk (instance_key i ts) a SnapSort (placed s3 at) x.permission (rules.with_heap s.heap s3) (λ c s4. Step (on c.value s4))) sh1 (fine_later le q) (λ a s3 le3 sh3 ga.
      take_live P (instance_key i ts) a (placed s3 at) x.permission (λ c s4. Step (on c.value s4)) (with_chunks s.heap (above le le3) sh.heap sh3)
      (instance_arguments p _ _ i t.0.0 ts t.0.1 (all_fine_later t.0.0.parameters ts le3 g)) ga (λ c s4 le4 sh4 gv.
      h c.value s4 (above le (above le3 le4)) sh4 gv)))
  consume_live (Implied c a) t k {s = s} x scale heap on sh hs q h =
      eval_live P p Held o parts t.0 k.0 {s = rules.with_heap heap s} _ (with_chunks heap stays hs sh) (λ u s1 le sh1 f.
      fork_live P u (λ s2. consume p o a x scale heap s2 on) (on unit) (with_chunks s.heap le sh.heap sh1) f
      (λ s2 le2 sh2. consume_live a t.1 k.1 x scale heap on sh2 (heap_le p heap (above le le2) hs) (fine_later (above le le2) q) (λ l s3 le3 sh3 g. h l s3 (above le (above le2 le3)) sh3 g))
      (λ s2 le2 sh2. h unit s2 (above le le2) sh2 unit_fine))
  consume_live (Chosen c a b) t k {s = s} x scale heap on sh hs q h =
      eval_live P p Held o parts t.0 k.0 {s = rules.with_heap heap s} _ (with_chunks heap stays hs sh) (λ u s1 le sh1 f.
      fork_live P u (λ s2. consume p o a x scale heap s2 on) (λ s2. consume p o b x scale heap s2 on) (with_chunks s.heap le sh.heap sh1) f
      (λ s2 le2 sh2. consume_live a t.1 k.1 x scale heap on sh2 (heap_le p heap (above le le2) hs) (fine_later (above le le2) q) (λ l s3 le3 sh3 g. h l s3 (above le (above le2 le3)) sh3 g))
      (λ s2 le2 sh2. consume_live b t.2 k.2 x scale heap on sh2 (heap_le p heap (above le le2) hs) (fine_later (above le le2) q) (λ l s3 le3 sh3 g. h l s3 (above le (above le2 le3)) sh3 g)))
