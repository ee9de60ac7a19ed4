-- A state that stands in one world stands in another where its marks stand for as much, or for nothing; and where no instance was
-- marked, the instance that a function's measure names becomes the root.
use Rattle.std.proofs.Common.{◌≡◌, ℕ, ℤ, Bool, true, false, cond, ◌⊎◌, inl, inr, List, [], ◌∷◌, ◌++◌, Option, Some, None, refl, sym, ◌∙◌, ap, subst, le_refl, true≢false}
use Rattle.std.specs.Prelude.{nat_lt}
use Rattle.vx_ast.specs.declared.Place.{Place}
use Rattle.vx_ast.specs.Syntax.{Name, result_name, Declaration, Program, Function, conjoined}
use Rattle.vx_meaning.specs.Values.{Value}
use Rattle.vx_meaning.specs.States as run
use Rattle.vx_terms.specs.Sorts.{SnapSort}
use Rattle.vx_terms.specs.Terms.{Term}
use Rattle.vx_terms.specs.Build.{equals}
use Rattle.vx_terms.specs.Interpretations.{Interpretation}
use Rattle.vx_rules.specs.States as rules
use Rattle.vx_rules.specs.Trees.{MeasureCode}
use Rattle.vx_rules.specs.Chunks.{Candidate, candidates, instance_key, holds_some}
use Rattle.vx_rules.specs.Rules.{Going, Outer, never, first_with, gathered, quietly, sides_of, with_body, with_promise, with_equations}
use Rattle.vx_rules.specs.Members.{rooted}
use Rattle.vx_types.specs.Typing.{Scope}
use Rattle.vx_amounts.proofs.Amounts.{Positive, positive-le}
use Rattle.vx_elements.proofs.Settled.{Meaning, Extends, extends-refl}
use Rattle.vx_elements.proofs.Lists.{each_map}
use Rattle.vx_elements.proofs.Places.{IsPlace}
use Rattle.vx_sound.proofs.Marks.{Marks, Unmarked, Rooted, Unsaid, MayMark, IsRoot, IsInner}
use Rattle.vx_sound.proofs.World.{Walked, World}
use Rattle.vx_sound.proofs.Passes.{Cleared}
use Rattle.vx_sound.proofs.Stands.{values_of, location_of, instance_of, resource_of, StoreStands, FactStands, PathStands, MeasureStands, OwnStands, TermsStand, InstanceKey, ChunkStands, HeapStands, Stands, stands_later}
use Rattle.vx_sound.proofs.Chunks.{Apart, taken_apart, put_together, chunk_held}
use Rattle.vx_sound.proofs.Candidates.{InstanceTerms, Keys, of_instance, good_some, some_is, FirstWith, first_one}
use Rattle.vx_sound.proofs.Goes.{Goes, stuck}

-- what is right of marks in one sense is right in another
pub record Fewer (p : Program) (from to : Marks) : Type 0 where
  pub may : MayMark from → MayMark to
  pub root : (k : run.Instance) → IsRoot from k → IsRoot to k
  pub inner : (h : run.Heap) (k : run.Instance) → IsInner p from h k → IsInner p to h k

-- where none is marked each sense is right, and where nothing is said all are
pub from_unmarked : (p : Program) (from to : Marks) → from ≡ Unmarked → Fewer p from to
from_unmarked p from to e = subst (λ from. Fewer p from to) (sym e) record { may = λ h. absurd h; root = λ k h. absurd h; inner = λ h k i. absurd i }

pub to_unsaid : (p : Program) (from : Marks) → Fewer p from Unsaid
to_unsaid p from = record { may = λ h. tt; root = λ k h. tt; inner = λ h k i. tt }

module _ (means : Meaning) (world : World) (marks : Marks) where
  -- the world in which marks stand for this
  abbrev pub marked : World
  marked = record world { marks = marks }

  store_marked : (n : ℕ) (i : Interpretation) (scope : Scope) (xs : rules.Store) (ys : run.Store) → StoreStands means world n i scope xs ys → StoreStands means marked n i scope xs ys
  store_marked n i [] [] [] h = tt
  store_marked n i (d ∷ ds) (a ∷ xs) (b ∷ ys) h =
      (record { symbolic_name = h.0.symbolic_name; name = h.0.name; typed = h.0.typed; good = h.0.good; value_is = h.0.value_is }, store_marked n i ds xs ys h.1)
  store_marked n i [] [] (b ∷ ys) h = absurd h
  store_marked n i [] (a ∷ xs) ys h = absurd h
  store_marked n i (d ∷ ds) [] ys h = absurd h
  store_marked n i (d ∷ ds) (a ∷ xs) [] h = absurd h

  pub terms_marked : (n : ℕ) (i : Interpretation) (ds : List Declaration) (ts : List Term) (vs : List Value) → TermsStand means world n i ds ts vs → TermsStand means marked n i ds ts vs
  terms_marked n i [] [] [] h = tt
  terms_marked n i (d ∷ ds) (t ∷ ts) (v ∷ vs) h = (record { typed = h.0.typed; good = h.0.good; value_is = h.0.value_is }, terms_marked n i ds ts vs h.1)
  terms_marked n i [] [] (v ∷ vs) h = absurd h
  terms_marked n i [] (t ∷ ts) vs h = absurd h
  terms_marked n i (d ∷ ds) [] vs h = absurd h
  terms_marked n i (d ∷ ds) (t ∷ ts) [] h = absurd h

  instance_marked : (n : ℕ) (i : Interpretation) (x : Name) (ts : List Term) → InstanceKey means world n i x ts → InstanceKey means marked n i x ts
  instance_marked n i x ts k = record { held = k.held; predicate = k.predicate; named = k.named; no_perm = k.no_perm; each = terms_marked n i k.predicate.parameters ts (values_of i ts) k.each }

  module _ (fewer : Fewer world.program world.marks marks) where
    chunk_marked : (n : ℕ) (i : Interpretation) (heap : run.Heap) (c : rules.Chunk) → ChunkStands means world n i heap c → ChunkStands means marked n i heap c
    chunk_marked n i heap c k = record {
      field = λ e. let o = k.field e in record { single = o.single; receiver = o.receiver };
      instance = λ e. instance_marked n i c.resource c.arguments (k.instance e);
      written = k.written;
      amount = k.amount;
      sign = k.sign;
      content = k.content;
      content_is = k.content_is;
      is_root = λ f e. fewer.root (instance_of i c) (k.is_root f e);
      is_inner = λ f e. fewer.inner heap (instance_of i c) (k.is_inner f e);
    }

    heap_marked : (n : ℕ) (i : Interpretation) (chunks : rules.Heap) (heap : run.Heap) (holdings : run.Holdings) → HeapStands means world n i chunks heap holdings → HeapStands means marked n i chunks heap holdings
    heap_marked n i chunks heap holdings h = record { each = each_map (ChunkStands means world n i heap) (ChunkStands means marked n i heap) (chunk_marked n i heap) chunks h.each; sums = h.sums }

    pub stands_marked : {scope : Scope} {i : Interpretation} {s : rules.State} {c : run.State} → Stands means world scope i s c → Stands means marked scope i s c
    stands_marked {scope = scope} {i = i} {s = s} {c = c} st = record {
      store = store_marked s.next i scope s.store c.store st.store;
      path = each_map (FactStands means world s.next i) (FactStands means marked s.next i) (λ e h. record { settled = h.settled; holds = h.holds }) s.path st.path;
      heap = heap_marked s.next i s.heap c.heap c.holdings st.heap;
      old = heap_marked s.next i s.old c.old_heap c.old_holdings st.old;
      awake = st.awake;
      bounded = st.bounded;
      null = st.null;
      standard = st.standard;
      owned = own_marked s.own world.own st.owned;
      marked = λ e. fewer.may (st.marked e);
      holds = st.holds;
      old_holds = st.old_holds;
    }
      where
        measure_marked : (t : Option Term) (z : Option ℤ) → MeasureStands means world s.next i t z → MeasureStands means marked s.next i t z
        measure_marked None None h = tt
        measure_marked (Some t) (Some z) h = h
        measure_marked None (Some z) h = absurd h
        measure_marked (Some t) None h = absurd h

        own_marked : (o : Option rules.Own) (w : Option Walked) → OwnStands means world s.next i c.heap c.old_heap o w → OwnStands means marked s.next i c.heap c.old_heap o w
        own_marked None None h = tt
        own_marked (Some own) (Some walked) h = (h.0, measure_marked own.measure walked.measure h.1, h.2, h.3)
        own_marked None (Some walked) h = absurd h
        own_marked (Some own) None h = absurd h

-- Facts add to the path alone.

fact_path : (t : Term) (s : rules.State) → rules.with_fact t s ≡ record s { path = (rules.with_fact t s).path }
fact_path t s = go (rules.is_known t s)
  where
    go : (b : Bool) → (let r : rules.State = cond b s (rules.with_entry record { term = t; branch = false } s) in r ≡ record s { path = r.path })
    go true = refl
    go false = refl

pub facts_path : (ts : List Term) (s : rules.State) → rules.with_facts ts s ≡ record s { path = (rules.with_facts ts s).path }
facts_path [] s = refl
facts_path (t ∷ ts) s = facts_path ts (rules.with_fact t s) ∙ ap (λ (z : rules.State). record z { path = (rules.with_facts ts (rules.with_fact t s)).path }) (fact_path t s)

-- so does what an application tells
pub equations_path : (p : Program) (o : Outer) (g : Function) (ts : List Term) (snapshot t : Term) (s : rules.State) → with_equations p o g ts snapshot t s ≡ record s { path = (with_equations p o g ts snapshot t s).path }
equations_path p o g ts snapshot t s = go (nat_lt s.level 3)
  where
    go : (b : Bool) → (let r : rules.State = cond b (with_promise p o g ts snapshot t (with_body p o g ts snapshot t s)) s in r ≡ record s { path = r.path })
    go true =
        let mid = with_body p o g ts snapshot t s in
        let inside = quietly p o (rules.bind g.parameters ts ++ (result_name, t) ∷ []) mid in
        facts_path (gathered inside (λ w. w) (sides_of p o g (conjoined g.place g.ensures) snapshot inside)) mid
        ∙ ap (λ (z : rules.State). record z { path = (with_promise p o g ts snapshot t (with_body p o g ts snapshot t s)).path }) (facts_path (gathered (quietly p o (rules.bind g.parameters ts) s) (λ w. equals t w) (sides_of p o g g.body snapshot (quietly p o (rules.bind g.parameters ts) s))) s)
    go false = refl

module _ (means : Meaning) (world : World) (marks : Marks) where
  -- what was told where marks stand for something else is true where they stand for this
  pub stands_told : {scope : Scope} {i j : Interpretation} {s t : rules.State} {c : run.State} → Stands means world scope i s c → Extends means s.next i j → t ≡ record s { path = t.path } → Stands means (marked means world marks) scope j t c → Stands means world scope j t c
  stands_told {scope = scope} {i = i} {j = j} {s = s} {t = t} {c = c} st x e there = subst (λ (z : rules.State). Stands means world scope j z c) (sym e) record {
    store = later.store;
    path = subst (λ n. PathStands means world n j t.path) (ap (λ (z : rules.State). z.next) e) (each_map (FactStands means (marked means world marks) t.next j) (FactStands means world t.next j) (λ e h. record { settled = h.settled; holds = h.holds }) t.path there.path);
    heap = later.heap;
    old = later.old;
    awake = later.awake;
    bounded = later.bounded;
    null = later.null;
    standard = later.standard;
    owned = later.owned;
    marked = later.marked;
    holds = later.holds;
    old_holds = later.old_holds;
  }
    where
      later : Stands means world scope j (record s { next = s.next }) c
      later = stands_later means world s.next (le_refl s.next) x st

module _ (means : Meaning) (world : World) (none : world.marks ≡ Unmarked) where
  -- the instance of a chunk becomes the root
  pub stands_rooted : {scope : Scope} {i : Interpretation} {s : rules.State} {c : run.State} {key : rules.Chunk} (d : Candidate) (k : run.Instance) → IsPlace key s.heap d → d.chunk.is_field ≡ false → resource_of i d.chunk ≡ run.Folded k →
      Stands means world scope i s c → Stands means (marked means world (Rooted k)) scope i (rooted d s) c
  stands_rooted {scope = scope} {i = i} {s = s} {c = c} {key = key} d k pl kind is st = record {
    store = there.store;
    path = there.path;
    heap = subst (λ x. HeapStands means (marked means world (Rooted k)) s.next i x c.heap c.holdings) (sym (pl.set_is (record d.chunk { root = true })))
        (put_together means (marked means world (Rooted k)) s.next i c.heap pl.front (record d.chunk { root = true }) pl.back record { chunk = chunk; others = a.others; sums = a.sums });
    old = there.old;
    awake = there.awake;
    bounded = there.bounded;
    null = there.null;
    standard = there.standard;
    owned = there.owned;
    marked = there.marked;
    holds = there.holds;
    old_holds = there.old_holds;
  }
    where
      there : Stands means (marked means world (Rooted k)) scope i s c
      there = stands_marked means world (Rooted k) (from_unmarked world.program world.marks (Rooted k) none) st

      a : Apart means (marked means world (Rooted k)) s.next i c.heap pl.front d.chunk pl.back c.holdings
      a = taken_apart means (marked means world (Rooted k)) s.next i c.heap pl there.heap

      instance_is : (b : Bool) → b ≡ false → cond b (run.At (location_of i d.chunk)) (run.Folded (instance_of i d.chunk)) ≡ run.Folded k → instance_of i d.chunk ≡ k
      instance_is true f e = absurd (true≢false f)
      instance_is false f e = same (instance_of i d.chunk) k e
        where
          same : (j k : run.Instance) → ◌≡◌ {A = run.Resource} (run.Folded j) (run.Folded k) → j ≡ k
          same j k e = cc

      chunk : ChunkStands means (marked means world (Rooted k)) s.next i c.heap (record d.chunk { root = true })
      chunk = record {
        field = a.chunk.field;
        instance = a.chunk.instance;
        written = a.chunk.written;
        amount = a.chunk.amount;
        sign = a.chunk.sign;
        content = a.chunk.content;
        content_is = a.chunk.content_is;
        is_root = λ f e. instance_is d.chunk.is_field kind is;
        is_inner = a.chunk.is_inner;
      }

  -- a function's entry where its measure is an instance: something of it is held, and it is the root from there on
  pub record Enters (scope : Scope) (i : Interpretation) (n : ℕ) (on : Going) (c : run.State) (k : run.Instance) : Type 0 where
    pub goes : Goes means (marked means world (Rooted k)) scope i n on c
    pub held : Positive (run.amount c.holdings (run.Folded k))

  pub root_entered : {scope : Scope} {i : Interpretation} {s : rules.State} {c : run.State} (at : Place) (x : Name) (ts : List Term) (vs : List Value) (on : Going) → InstanceTerms means world s.next i x ts vs → Stands means world scope i s c →
      Cleared (first_with (holds_some ts) (candidates (instance_key x ts) s.heap) at MeasureCode s (λ d. on (rooted d s)) (never at MeasureCode s)) → Enters scope i s.next on c (record { predicate = x; arguments = vs })
  root_entered {scope = scope} {i = i} {s = s} {c = c} at x ts vs on each st h =
      by_first (first_one means world (instance_key x ts) (holds_some ts) at MeasureCode (λ d. on (rooted d s)) (never at MeasureCode s) st (λ d kind resource m. good_some means world keys d kind resource m) h)
    where
      keys : Keys means world s.next i (instance_key x ts) (run.Folded record { predicate = x; arguments = vs }) SnapSort
      keys = of_instance x ts vs each

      by_first : FirstWith means world (instance_key x ts) (holds_some ts) i s (λ d. on (rooted d s)) ⊎ Cleared (never at MeasureCode s) → Enters scope i s.next on c (record { predicate = x; arguments = vs })
      by_first (inr m) = stuck means world at MeasureCode st m
      by_first (inl m) =
          let d = m.candidate.chunk in
          let a = taken_apart means world s.next i c.heap m.place st.heap in
          let is = some_is means world keys d m.place.kind m.place.resource a.chunk m.as_wanted in
          record {
            goes = record { interp = i; state = rooted m.candidate s; extends = extends-refl means s.next i; later = le_refl _; stands = stands_rooted m.candidate (record { predicate = x; arguments = vs }) m.place m.place.kind is.0 st; cleared = m.cleared };
            held = subst (λ r. Positive (run.amount c.holdings r)) is.0 (positive-le is.1 (chunk_held means world s.next i c.heap m.place st.heap));
          }
