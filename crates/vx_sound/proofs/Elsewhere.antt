-- A state that stands in one world stands in another where other functions may be applied, and where a function's body is entered.
use Rattle.std.proofs.Common.{ℕ, List, [], ◌∷◌, Option}
use Rattle.vx_ast.specs.Syntax.{Name, Declaration}
use Rattle.vx_meaning.specs.Values.{Value}
use Rattle.vx_meaning.specs.States as run
use Rattle.vx_terms.specs.Terms.{Term}
use Rattle.vx_terms.specs.Interpretations.{Interpretation}
use Rattle.vx_rules.specs.States as rules
use Rattle.vx_types.specs.Typing.{Scope}
use Rattle.vx_elements.proofs.Settled.{Meaning}
use Rattle.vx_elements.proofs.Lists.{each_map}
use Rattle.vx_sound.proofs.World.{Walked, World}
use Rattle.vx_sound.proofs.Stands.{values_of, StoreStands, FactStands, TermsStand, InstanceKey, ChunkStands, HeapStands, OwnStands, Stands}

module _ (means : Meaning) (world : World) (Applied : Name → Type 0) (own : Option Walked) (Measured : run.Heap → Name → List Value → Type 0) where
  -- the world in which these may be applied, and the body of this function is walked, where this is shown of applications
  abbrev pub there : World
  there = record world { Applied = Applied; own = own; Measured = Measured }

  store_there : (n : ℕ) (i : Interpretation) (scope : Scope) (xs : rules.Store) (ys : run.Store) → StoreStands means world n i scope xs ys → StoreStands means there n i scope xs ys
  store_there n i [] [] [] h = tt
  store_there n i (d ∷ ds) (a ∷ xs) (b ∷ ys) h =
      (record { symbolic_name = h.0.symbolic_name; name = h.0.name; typed = h.0.typed; good = h.0.good; value_is = h.0.value_is }, store_there n i ds xs ys h.1)
  store_there n i [] [] (b ∷ ys) h = absurd h
  store_there n i [] (a ∷ xs) ys h = absurd h
  store_there n i (d ∷ ds) [] ys h = absurd h
  store_there n i (d ∷ ds) (a ∷ xs) [] h = absurd h

  pub terms_there : (n : ℕ) (i : Interpretation) (ds : List Declaration) (ts : List Term) (vs : List Value) → TermsStand means world n i ds ts vs → TermsStand means there n i ds ts vs
  terms_there n i [] [] [] h = tt
  terms_there n i (d ∷ ds) (t ∷ ts) (v ∷ vs) h = (record { typed = h.0.typed; good = h.0.good; value_is = h.0.value_is }, terms_there n i ds ts vs h.1)
  terms_there n i [] [] (v ∷ vs) h = absurd h
  terms_there n i [] (t ∷ ts) vs h = absurd h
  terms_there n i (d ∷ ds) [] vs h = absurd h
  terms_there n i (d ∷ ds) (t ∷ ts) [] h = absurd h

  fact_there : (n : ℕ) (i : Interpretation) (e : rules.Entry) → FactStands means world n i e → FactStands means there n i e
  fact_there n i e h = record { settled = h.settled; holds = h.holds }

  instance_there : (n : ℕ) (i : Interpretation) (x : Name) (ts : List Term) → InstanceKey means world n i x ts → InstanceKey means there n i x ts
  instance_there n i x ts k = record { held = k.held; predicate = k.predicate; named = k.named; no_perm = k.no_perm; each = terms_there n i k.predicate.parameters ts (values_of i ts) k.each }

  chunk_there : (n : ℕ) (i : Interpretation) (heap : run.Heap) (c : rules.Chunk) → ChunkStands means world n i heap c → ChunkStands means there n i heap c
  chunk_there n i heap c k = record {
    field = λ e. let o = k.field e in record { single = o.single; receiver = o.receiver };
    instance = λ e. instance_there n i c.resource c.arguments (k.instance e);
    written = k.written;
    amount = k.amount;
    sign = k.sign;
    content = k.content;
    content_is = k.content_is;
    is_root = k.is_root;
    is_inner = k.is_inner;
  }

  heap_there : (n : ℕ) (i : Interpretation) (chunks : rules.Heap) (heap : run.Heap) (holdings : run.Holdings) → HeapStands means world n i chunks heap holdings → HeapStands means there n i chunks heap holdings
  heap_there n i chunks heap holdings h = record { each = each_map (ChunkStands means world n i heap) (ChunkStands means there n i heap) (chunk_there n i heap) chunks h.each; sums = h.sums }

  pub stands_there : {scope : Scope} {i : Interpretation} {s : rules.State} {c : run.State} (entered : Option rules.Own) → OwnStands means there s.next i c.heap c.old_heap entered own → Stands means world scope i s c → Stands means there scope i (record s { own = entered }) c
  stands_there {scope = scope} {i = i} {s = s} {c = c} entered k st = record {
    store = store_there s.next i scope s.store c.store st.store;
    path = each_map (FactStands means world s.next i) (FactStands means there s.next i) (fact_there s.next i) s.path st.path;
    heap = heap_there s.next i s.heap c.heap c.holdings st.heap;
    old = heap_there s.next i s.old c.old_heap c.old_holdings st.old;
    awake = st.awake;
    bounded = st.bounded;
    null = st.null;
    standard = st.standard;
    owned = k;
    marked = st.marked;
    holds = st.holds;
    old_holds = st.old_holds;
  }
