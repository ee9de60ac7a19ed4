-- A location that is written: exposed, it isn't held whole and the place is its own, or the state behind matches the heap with the new value.
use Rattle.std.proofs.Common.{◌≡◌, ◌⊎◌, inl, inr, ℕ, suc, ◌≤◌, Bool, true, false, cond, ◌&&◌, List, [], ◌∷◌, ◌++◌, slice_set, Option, Some, None, refl, sym, ◌∙◌, ap, subst}
use Rattle.vx_frac.specs.Fractions.{full, sum}
use Rattle.vx_ast.specs.declared.Place.{Place}
use Rattle.vx_ast.specs.Syntax.{Name, Program}
use Rattle.vx_meaning.specs.Values.{Value, RefValue, type_of}
use Rattle.vx_meaning.specs.States as run
use Rattle.vx_terms.specs.Sorts.{BoolSort, RealSort, RefSort}
use Rattle.vx_terms.specs.Terms.{Term, same_bool}
use Rattle.vx_terms.specs.Build.{true_term, less_equal, negate, whole_amount}
use Rattle.vx_terms.specs.Interpretations.{Each, Interpretation, value, IsTrueIn, AllTrue}
use Rattle.vx_terms.proofs.Same.{term_is}
use Rattle.vx_rules.specs.States as rules
use Rattle.vx_rules.specs.Trees.{Code, PermissionCode, Tree, Step}
use Rattle.vx_rules.specs.Chunks.{Candidate, is_kin, same_arguments, chosen, candidates, field_key, holds_amount, surely, sum_at, written, written_each}
use Rattle.vx_rules.specs.Rules.{Going, ask, field_sort, write_field}
use Rattle.vx_types.specs.Typing.{Scope}
use Rattle.vx_elements.proofs.Settled.{Meaning, extends-refl}
use Rattle.vx_elements.proofs.Built.{Good}
use Rattle.vx_elements.proofs.Elements.{element}
use Rattle.vx_elements.proofs.Truth.{true_le, le_true, good_whole, good_at_most}
use Rattle.vx_elements.proofs.Places.{IsPlace, matching_places}
use Rattle.vx_elements.proofs.Lists.{each_append, each_map}
use Rattle.vx_amounts.proofs.Amounts.{Le, le-trans, le-is}
use Rattle.vx_grows.proofs.GrowSteps.{Follows, writing_all_grows}
use Rattle.vx_sound.proofs.World.{at_field}
use Rattle.vx_sound.proofs.Stands.{location_of, resource_of, amount_of, own, held, ChunkStands, HeapStands, Stands, heap_later, unowned}
use Rattle.vx_sound.proofs.Chunks.{field_resource, taken_apart, chunk_held}
use Rattle.vx_sound.proofs.Candidates.{Keys, of_field, amount_is}
use Rattle.vx_sound.proofs.Puts.{all_held, written_stands}
use Rattle.vx_sound.proofs.Summed.{IsOf as OfField, SumIs, parts, sum_is, parts_below, candidates_are}
use Rattle.vx_sound.proofs.SumReads.{surely_is}
use Rattle.vx_sound.proofs.Slots.{candidates_stand, candidates_differ}
use Rattle.vx_sound.proofs.SumWrites.{EachAt, Among, kin_among, start_at, held_each}
use Rattle.vx_sound.proofs.Fields.{fields_world, fields_changing}
use Rattle.vx_real.specs.Exposed.{Exposed}
use Rattle.vx_real.proofs.Exactly.{Exact, AreApart, keys, IsReal, parts_above}
use Rattle.vx_real.proofs.Keys.{keys_set, real_by_keys}
use Rattle.vx_real.proofs.SumReads.{not_true}
use Rattle.vx_real.proofs.SumTakes.{NamedReal, named_real}
use Rattle.vx_real.proofs.TakesKeep.{stands_named}
use Rattle.vx_real.proofs.SumWrites.{each_keys, written_keeps, each_keeps, WrittenReal, all_written}
use Rattle.vx_real.proofs.Matched.{Matches}
use Rattle.vx_real.proofs.Grown.{keeps}
use Rattle.vx_real.proofs.Questions.{Behind, asked}

-- what holds of each chunk holds of the candidates
candidates_each : (P : rules.Chunk → Type 0) (key : rules.Chunk) (h : rules.Heap) → Each P h → Each (λ (d : Candidate). P d.chunk) (candidates key h)
candidates_each P key h e = each_append (λ (d : Candidate). P d.chunk) (chosen true key 0 h) (chosen false key 0 h) (go true h 0 e) (go false h 0 e)
  where
    go : (identical : Bool) (h : rules.Heap) (n : ℕ) → Each P h → Each (λ (d : Candidate). P d.chunk) (chosen identical key n h)
    go identical [] n e = tt
    go identical (c ∷ cs) n e = pick (is_kin key c && same_bool identical (same_arguments key.arguments c.arguments)) (go identical cs (suc n) e.1)
      where
        pick : (b : Bool) → Each (λ (d : Candidate). P d.chunk) (chosen identical key (suc n) cs) → Each (λ (d : Candidate). P d.chunk) (cond b (record { number = n; chunk = c } ∷ chosen identical key (suc n) cs) (chosen identical key (suc n) cs))
        pick true rest = (e.0, rest)
        pick false rest = rest

-- another value changes nothing of what is held
value_held : (i : Interpretation) (front : rules.Heap) (c : rules.Chunk) (u : Term) (back : rules.Heap) (x : run.Resource) → held i (front ++ record c { value = u } ∷ back) x ≡ held i (front ++ c ∷ back) x
value_held i [] c u back x = refl
value_held i (d ∷ front) c u back x = ap (λ q. sum (own i d x) q) (value_held i front c u back x)

module _ (means : Meaning) (p : Program) (i : Interpretation) (at : Place) (code : Code) where
  -- the state behind matches the heap with the new value, and what follows is exposed
  pub record WrittenAt (scope : Scope) (f : Name) (k : ℕ) (v : Value) (s : rules.State) (c : run.State) (on : Going) : Type 0 where
    pub state : rules.State
    pub later : s.next ≤ state.next
    pub at_is : state.at ≡ s.at
    pub matches : Matches means p i scope state (run.with_heap ((at_field k f, v) ∷ c.heap) c)
    pub enough : Le full (run.amount c.holdings (run.At (at_field k f)))
    pub exposed : Exposed i at code (on state)

  module _ (scope : Scope) (s : rules.State) (c : run.State) (m : Matches means p i scope s c) (f : Name) (r : Term) (k : ℕ) (g : Good means s.next i r RefSort) (e : value i r ≡ element (RefValue k))
      (t : Term) (v : Value) (gt : Good means s.next i t (field_sort p f)) (vt : value i t ≡ element v) (ty : type_of v ≡ run.field_type p f) (on : Going) (follows : Follows on) where
    -- the whole state, with these chunks
    over_new : (s1 : rules.State) (h : rules.Heap) → Stands means (fields_world p) scope i (rules.with_heap h s1) c → (after : rules.Heap) → HeapStands means (fields_world p) s1.next i after ((at_field k f, v) ∷ c.heap) c.holdings → Le full (run.amount c.holdings (run.At (at_field k f))) →
        Stands means (fields_world p) scope i (rules.with_heap after s1) (run.with_heap ((at_field k f, v) ∷ c.heap) c)
    over_new s1 h st after heap enough = record {
      store = st.store;
      path = st.path;
      heap = heap;
      old = st.old;
      awake = st.awake;
      bounded = st.bounded;
      null = st.null;
      standard = st.standard;
      owned = unowned means (fields_world p) _ _ _ _ _ _ _ None refl st.owned;
      marked = st.marked;
      holds = st.holds;
      old_holds = st.old_holds;
    }

    -- into a chunk of its own
    own_written : (d : Candidate) → IsPlace (field_key f r) s.heap d → IsTrueIn i (holds_amount whole_amount (r ∷ []) d.chunk) → Exposed i at code (on (written d t s)) → WrittenAt scope f k v s c on
    own_written d pl h x = record {
      state = written d t s;
      later = n.later;
      at_is = written_keeps (λ (y : rules.State). y.at) (λ e y. refl) (λ y. refl) (λ h y. refl) d t s;
      matches = record {
        stands = over_new (rules.after_name t s) (rules.after_name t s).heap (stands_named means (fields_world p) (field_sort p f) t m.stands gt path) (slice_set s.heap d.number (record d.chunk { value = rules.name_of t s })) heap_is enough;
        exact = record {
          each = real_by_keys i s.heap (slice_set s.heap d.number (record d.chunk { value = rules.name_of t s })) (sym same_keys) m.exact.each;
          all = λ y. le-trans (m.exact.all y) (le-is (ap (λ (z : rules.Heap). held i z (run.At y)) pl.is ∙ sym (ap (λ (z : rules.Heap). held i z (run.At y)) (pl.set_is (record d.chunk { value = rules.name_of t s })) ∙ value_held i pl.front d.chunk (rules.name_of t s) pl.back (run.At y))));
          apart = subst AreApart (sym same_keys) m.exact.apart;
        };
        old_exact = subst (λ (z : rules.Heap). Exact i z c.old_holdings) (sym (written_keeps (λ (y : rules.State). y.old) (λ e y. refl) (λ y. refl) (λ h y. refl) d t s)) m.old_exact;
      };
      enough = enough;
      exposed = x;
    }
      where
        path : AllTrue i (rules.path_terms (rules.after_name t s).path)
        path = keeps i at code on follows (written d t s) x

        n : NamedReal means i (field_sort p f) t s
        n = named_real means i (field_sort p f) t s gt path

        held_whole : (resource_of i d.chunk ≡ run.At (at_field k f)) × Le full (amount_of i d.chunk)
        held_whole =
            let keys : Keys means (fields_world p) s.next i (field_key f r) (run.At (at_field k f)) (field_sort p f) = of_field f r k g e in
            let gw : Good means s.next i whole_amount RealSort = good_whole means in
            amount_is means (fields_world p) keys d.chunk pl.kind pl.resource (taken_apart means (fields_world p) s.next i c.heap pl m.stands.heap).chunk gw h

        location : (l m : run.Location) → run.At l ≡ run.At m → l ≡ m
        location l m e = cc

        at_is' : location_of i d.chunk ≡ at_field k f
        at_is' = location (location_of i d.chunk) (at_field k f) (sym (field_resource i d.chunk pl.kind) ∙ held_whole.0)

        enough : Le full (run.amount c.holdings (run.At (at_field k f)))
        enough = subst (λ y. Le full (run.amount c.holdings y)) held_whole.0 (le-trans held_whole.1 (chunk_held means (fields_world p) s.next i c.heap pl m.stands.heap))

        heap_is : HeapStands means (fields_world p) (rules.after_name t s).next i (slice_set s.heap d.number (record d.chunk { value = rules.name_of t s })) ((at_field k f, v) ∷ c.heap) c.holdings
        heap_is =
            subst (λ l. HeapStands means (fields_world p) (rules.after_name t s).next i (slice_set s.heap d.number (record d.chunk { value = rules.name_of t s })) ((l, v) ∷ c.heap) c.holdings) at_is'
            (written_stands means (fields_world p) (fields_changing p) (rules.after_name t s).next i c.heap pl pl.kind (heap_later means (fields_world p) n.later (extends-refl means s.next i) s.heap c.heap c.holdings m.stands.heap) m.stands.holds held_whole.1 (rules.name_of t s) v
            (subst (λ x. Good means (rules.after_name t s).next i (rules.name_of t s) (field_sort p x)) (sym pl.resource) n.good) (n.value_is ∙ vt) (ty ∙ ap (run.field_type p) (sym pl.resource)))

        same_keys : keys (slice_set s.heap d.number (record d.chunk { value = rules.name_of t s })) ≡ keys s.heap
        same_keys = keys_set pl (record d.chunk { value = rules.name_of t s }) refl

    abbrev summed : Going
    summed s1 = on (written_each r t (candidates (field_key f r) s1.heap) s1)

    -- into each that may be there
    each_written : IsTrueIn i (less_equal whole_amount (sum_at r (candidates (field_key f r) s.heap))) → Behind means p i at code scope s c summed → WrittenAt scope f k v s c on
    each_written told b = record {
      state = written_each r t cs b.state;
      later = subst (λ n. n ≤ (written_each r t (candidates (field_key f r) b.state.heap) b.state).next) b.next_is z.later;
      at_is = each_keeps (λ (y : rules.State). y.at) (λ e y. refl) (λ y. refl) (λ h y. refl) r t cs b.state ∙ b.at_is;
      matches = record {
        stands = over_new (written_each r t cs b.state) b.state.heap z.stands (written_each r t cs b.state).heap
            record { each = z.each; sums = λ x. le-trans (le-is (same_held x)) (b.matches.stands.heap.sums x) } enough;
        exact = record {
          each = real_by_keys i b.state.heap (written_each r t cs b.state).heap (sym same_keys) b.matches.exact.each;
          all = λ y. le-trans (b.matches.exact.all y) (le-is (sym (same_held (run.At y))));
          apart = subst AreApart (sym same_keys) b.matches.exact.apart;
        };
        old_exact = subst (λ (x : rules.Heap). Exact i x c.old_holdings) (sym (each_keeps (λ (y : rules.State). y.old) (λ e y. refl) (λ y. refl) (λ h y. refl) r t cs b.state)) b.matches.old_exact;
      };
      enough = enough;
      exposed = b.exposed;
    }
      where
        cs : List Candidate
        cs = candidates (field_key f r) b.state.heap

        g1 : Good means b.state.next i r RefSort
        g1 = subst (λ n. Good means n i r RefSort) (sym b.next_is) g

        gt1 : Good means b.state.next i t (field_sort p f)
        gt1 = subst (λ n. Good means n i t (field_sort p f)) (sym b.next_is) gt

        of : Each (λ (d : Candidate). OfField means (fields_world p) b.state.next i c.heap f d.chunk) (candidates (field_key f r) b.state.heap)
        of = candidates_are means (fields_world p) b.state.next i c.heap f r k g1 e b.state.heap b.matches.stands.heap.each

        sum_good : SumIs means (fields_world p) b.state.next i c.heap f r k g1 e (sum_at r (candidates (field_key f r) b.state.heap)) (parts means (fields_world p) b.state.next i c.heap f r k g1 e (candidates (field_key f r) b.state.heap))
        sum_good = sum_is means (fields_world p) b.state.next i c.heap f r k g1 e cs of

        enough : Le full (run.amount c.holdings (run.At (at_field k f)))
        enough =
            let gw : Good means b.state.next i whole_amount RealSort = good_whole means in
            le-trans (true_le means (sum_at r cs) gw (subst (λ (h : rules.Heap). IsTrueIn i (less_equal whole_amount (sum_at r (candidates (field_key f r) h)))) (sym b.heap_is) told))
            (le-trans sum_good.is.there (le-trans (parts_below means (fields_world p) b.state.next i c.heap f r k g1 e b.state.heap b.matches.stands.heap.each) (b.matches.stands.heap.sums (run.At (at_field k f)))))

        start : EachAt (λ m d. ChunkStands means (fields_world p) b.state.next i ((at_field k f, v) ∷ c.heap) d ⊎ Among m (candidates (field_key f r) b.state.heap)) b.state.heap
        start = start_at means (fields_world p) (fields_changing p) b.state.next i c.heap c.holdings f r k v b.matches.stands.holds enough (λ n. Among n cs) b.state.heap b.matches.stands.heap.each
            (all_held means (fields_world p) b.state.next i c.heap c.holdings b.state.heap b.matches.stands.heap) (kin_among (field_key f r) b.state.heap)

        z : WrittenReal means (fields_world p) i c.heap f r k e t v vt ty scope b.state.next c b.state.heap (written_each r t (candidates (field_key f r) b.state.heap) b.state)
        z = all_written means (fields_world p) i c.heap f r k e t v vt ty b.state.heap cs b.state b.matches.stands of (candidates_each (IsReal i) (field_key f r) b.state.heap b.matches.exact.each) g1 gt1 start
            (keeps i at code on follows (written_each r t cs b.state) b.exposed)

        same_held : (x : run.Resource) → held i (written_each r t (candidates (field_key f r) b.state.heap) b.state).heap x ≡ held i b.state.heap x
        same_held x = held_each i r t cs b.state x (candidates_stand (field_key f r) b.state.heap) (candidates_differ (field_key f r) b.state.heap)

        same_keys : keys (written_each r t (candidates (field_key f r) b.state.heap) b.state).heap ≡ keys b.state.heap
        same_keys = each_keys (field_key f r) r t cs b.state (candidates_stand (field_key f r) b.state.heap) (candidates_differ (field_key f r) b.state.heap)
            (each_map (λ (d : Candidate). OfField means (fields_world p) b.state.next i c.heap f d.chunk) (λ (d : Candidate). (d.chunk.resource ≡ f) × (d.chunk.is_field ≡ true)) (λ d o. (o.resource, o.kind)) cs of)

    -- the location isn't held whole at the place, or it is written
    pub write_real : (place : Place) → Exposed i at code (write_field f r t place s on) → ((place ≡ at) × (Le full (run.amount c.holdings (run.At (at_field k f))) → ⊥)) ⊎ WrittenAt scope f k v s c on
    write_real place x = go (surely (holds_amount whole_amount (r ∷ [])) (chosen true (field_key f r) 0 s.heap)) refl x
      where
        sum_good : SumIs means (fields_world p) s.next i c.heap f r k g e (sum_at r (candidates (field_key f r) s.heap)) (parts means (fields_world p) s.next i c.heap f r k g e (candidates (field_key f r) s.heap))
        sum_good = sum_is means (fields_world p) s.next i c.heap f r k g e (candidates (field_key f r) s.heap) (candidates_are means (fields_world p) s.next i c.heap f r k g e s.heap m.stands.heap.each)

        gw : Good means s.next i whole_amount RealSort
        gw = good_whole means

        good_asked : Good means s.next i (less_equal whole_amount (sum_at r (candidates (field_key f r) s.heap))) BoolSort
        good_asked = good_at_most means gw sum_good.good

        held_enough : Le full (run.amount c.holdings (run.At (at_field k f))) → IsTrueIn i (less_equal whole_amount (sum_at r (candidates (field_key f r) s.heap)))
        held_enough le =
            le_true means (sum_at r (candidates (field_key f r) s.heap)) gw
            (le-trans le (le-trans (m.exact.all (at_field k f)) (le-trans (parts_above means (fields_world p) s.next i c.heap f r k g e s.heap m.stands.heap.each m.exact.each) sum_good.is.back)))

        by_asking : ((place ≡ at) × IsTrueIn i (negate (less_equal whole_amount (sum_at r (candidates (field_key f r) s.heap))))) ⊎ (IsTrueIn i (less_equal whole_amount (sum_at r (candidates (field_key f r) s.heap))) × Behind means p i at code scope s c summed) →
            ((place ≡ at) × (Le full (run.amount c.holdings (run.At (at_field k f))) → ⊥)) ⊎ WrittenAt scope f k v s c on
        by_asking (inl z) = inl (z.0, λ le. not_true i good_asked z.1 (held_enough le))
        by_asking (inr z) = inr (each_written z.0 z.1)

        go : (o : Option Candidate) → surely (holds_amount whole_amount (r ∷ [])) (chosen true (field_key f r) 0 s.heap) ≡ o →
            Exposed i at code (elim o as (λ o. Tree) [ Some d ↦ Step (on (written d t s)) | None ↦ ask (less_equal whole_amount (sum_at r (candidates (field_key f r) s.heap))) place PermissionCode s summed ]) →
            ((place ≡ at) × (Le full (run.amount c.holdings (run.At (at_field k f))) → ⊥)) ⊎ WrittenAt scope f k v s c on
        go (Some d) o z =
            let y = surely_is (holds_amount whole_amount (r ∷ [])) (IsPlace (field_key f r) s.heap) (chosen true (field_key f r) 0 s.heap) d (matching_places (field_key f r) s.heap) o in
            inr (own_written d y.0 (subst (IsTrueIn i) (sym (term_is (holds_amount whole_amount (r ∷ []) d.chunk) true_term y.1)) refl) z)
        go None o z = by_asking (asked means p i at code (less_equal whole_amount (sum_at r (candidates (field_key f r) s.heap))) place PermissionCode summed m good_asked (λ s1. writing_all_grows s1 f r t on follows) z)
