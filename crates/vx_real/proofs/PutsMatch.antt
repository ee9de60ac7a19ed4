-- A put whose facts are true: the state behind matches what is then held, over a heap that has the value that was put.
use Rattle.std.proofs.Common.{◌≡◌, ℕ, Bool, true, false, not, cond, [], ◌∷◌, None, refl, sym, ◌∙◌, ap, subst, true≢false}
use Rattle.vx_frac.specs.Fractions.{Fraction, none, full, sum, is_positive}
use Rattle.vx_ast.specs.Syntax.{Name, Program}
use Rattle.vx_meaning.specs.Values.{Value, RefValue, type_of}
use Rattle.vx_meaning.specs.States as run
use Rattle.vx_terms.specs.Sorts.{RealSort, RefSort}
use Rattle.vx_terms.specs.Terms.{Term, same}
use Rattle.vx_terms.specs.Build.{equals, less, null, negate, zero_amount}
use Rattle.vx_terms.specs.Interpretations.{Each, Interpretation, as_fraction, value, IsTrueIn, AllTrue}
use Rattle.vx_terms.proofs.Same.{term_is}
use Rattle.vx_rules.specs.States as rules
use Rattle.vx_rules.specs.States.{sort_of_type}
use Rattle.vx_rules.specs.Chunks.{chosen, field_key, is_not_null, field_facts, whole_fact, put_over, put_facts, put}
use Rattle.vx_rules.specs.Rules.{field_sort}
use Rattle.vx_types.specs.Typing.{Scope}
use Rattle.vx_elements.proofs.Settled.{Meaning}
use Rattle.vx_elements.proofs.Built.{Good, good_equals, good_negate}
use Rattle.vx_elements.proofs.Elements.{element}
use Rattle.vx_elements.proofs.Truth.{is_equal, good_null, good_positive, positive_true}
use Rattle.vx_elements.proofs.Lists.{each_map}
use Rattle.vx_amounts.proofs.Amounts.{Le, Positive, Same, le-refl, le-trans, positive-le, positive-or, add-mono, add-below, below-add, none-sum}
use Rattle.vx_sound.proofs.World.{at_field}
use Rattle.vx_sound.proofs.Stands.{resource_of, amount_of, held, ChunkStands, HeapStands, Stands, unowned}
use Rattle.vx_sound.proofs.Chunks.{location_is}
use Rattle.vx_sound.proofs.Candidates.{of_field, Keyed, keyed}
use Rattle.vx_sound.proofs.Puts.{read_written, read_elsewhere, heap_changed, is_put, stands_with_holdings, put_stands}
use Rattle.vx_sound.proofs.Summed.{chosen_by}
use Rattle.vx_sound.proofs.Fields.{HoldsFields, fields_world, fields_changing}
use Rattle.vx_real.proofs.Backwards.{AgreeOn, become}
use Rattle.vx_real.proofs.Consistency.{agree_changes}
use Rattle.vx_real.proofs.Exactly.{Exact, IsReal}
use Rattle.vx_real.proofs.Keys.{once}
use Rattle.vx_real.proofs.SumReads.{facts_true, implied, not_true}
use Rattle.vx_real.proofs.PutBounds.{true_append, put_limited}
use Rattle.vx_real.proofs.PutValues.{put_value}
use Rattle.vx_real.proofs.PutsExactly.{put_held, put_real, put_apart}
use Rattle.vx_real.proofs.FieldsStay.{facts_keep}
use Rattle.vx_real.proofs.Matched.{HasReferences, Matches}

module _ (means : Meaning) (p : Program) (i : Interpretation) where
  -- over another heap that agrees with what is held
  pub matches_heap : {scope : Scope} {s : rules.State} {c : run.State} (heap : run.Heap) → AgreeOn p c.holdings heap c.heap → Matches means p i scope s c → Matches means p i scope s (run.with_heap heap c)
  matches_heap {s = s} {c = c} heap agrees m =
      let st = m.stands in
      record {
        stands = record {
          store = st.store;
          path = st.path;
          heap = heap_changed means (fields_world p) (fields_changing p) s.next i s.heap c heap st.heap st.holds (agree_changes p c heap st.holds.only agrees);
          old = st.old;
          awake = st.awake;
          bounded = st.bounded;
          null = st.null;
          standard = st.standard;
          owned = unowned means (fields_world p) _ _ _ _ _ _ _ None refl st.owned;
          marked = st.marked;
          holds = st.holds;
          old_holds = st.old_holds;
        };
        exact = m.exact;
        old_exact = m.old_exact;
      }

  -- a heap in which a location has a value, where none of it was held
  pub record Room (c : run.State) (l : run.Location) (a : Fraction) (t : Term) : Type 0 where
    pub heap : run.Heap
    pub agrees : AgreeOn p c.holdings heap c.heap
    pub there : Positive a → value i t ≡ element (run.value_at p heap l)

  pub room : (c : run.State) (l : run.Location) (a : Fraction) (t : Term) (v : Value) → type_of v ≡ run.field_type p l.field → value i t ≡ element v → (Positive (run.amount c.holdings (run.At l)) → Positive a → value i t ≡ element (run.value_at p c.heap l)) → Room c l a t
  room c l a t v ty is same = go (is_positive (run.amount c.holdings (run.At l))) refl
    where
      go : (b : Bool) → is_positive (run.amount c.holdings (run.At l)) ≡ b → Room c l a t
      go true e = record { heap = c.heap; agrees = λ k pos. refl; there = same record { holds = e } }
      go false e = record { heap = (l, v) ∷ c.heap; agrees = agrees; there = λ pos. is ∙ ap element (sym (read_written p l v c.heap ty)) }
        where
          agrees : AgreeOn p c.holdings ((l, v) ∷ c.heap) c.heap
          agrees k pos = elsewhere (run.same_location k l) refl
            where
              elsewhere : (b : Bool) → run.same_location k l ≡ b → run.value_at p ((l, v) ∷ c.heap) k ≡ run.value_at p c.heap k
              elsewhere false q = read_elsewhere p l k v c.heap q
              elsewhere true q = absurd (true≢false (sym pos.holds ∙ ap (λ (m : run.Location). is_positive (run.amount c.holdings (run.At m))) (location_is k l q) ∙ e))

  -- the state behind a put
  pub record PutReal (scope : Scope) (s : rules.State) (c : run.State) (l : run.Location) (q : Fraction) : Type 0 where
    pub heap : run.Heap
    pub matches : Matches means p i scope s (become c.store heap (run.gained (run.At l) q c.holdings) c)
    pub back : (g : run.Heap) → AgreeOn p (run.gained (run.At l) q c.holdings) g heap → AgreeOn p c.holdings g c.heap

  -- what agrees with more agrees with less
  agrees_back : (c : run.State) (l : run.Location) (q : Fraction) (heap : run.Heap) → Le none q → AgreeOn p c.holdings heap c.heap → (g : run.Heap) → AgreeOn p (run.gained (run.At l) q c.holdings) g heap → AgreeOn p c.holdings g c.heap
  agrees_back c l q heap sign agrees g e k pos = e k (positive-le pos (more (run.same_location k l))) ∙ agrees k pos
    where
      more : (b : Bool) → Le (run.amount c.holdings (run.At k)) (cond b (sum q (run.amount c.holdings (run.At k))) (run.amount c.holdings (run.At k)))
      more true = below-add (run.amount c.holdings (run.At k)) sign
      more false = le-refl _

  module _ (refs : HasReferences i) (scope : Scope) (s : rules.State) (c : run.State) (m : Matches means p i scope s c) (f : Name) (r : Term) (k : ℕ) (g : Good means s.next i r RefSort) (e : value i r ≡ element (RefValue k))
      (a : Term) (q : Fraction) (ga : Good means s.next i a RealSort) (same_q : Same (as_fraction (value i a)) q) (sign : Le none (as_fraction (value i a))) (t : Term) (gt : Good means s.next i t (field_sort p f)) (v : Value)
      (ty : type_of v ≡ run.field_type p f) (t_is : value i t ≡ element v) (inner : Bool) where
    abbrev new : rules.Chunk
    new = record (field_key f r) { amount = a; value = t; inner = inner }

    abbrev l : run.Location
    l = at_field k f

    abbrev hs : run.Holdings
    hs = run.gained (run.At (at_field k f)) q c.holdings

    -- nothing is put
    none_put : Le q none → PutReal scope s c (at_field k f) q
    none_put z = record {
      heap = c.heap;
      matches = record {
        stands = stands_with_holdings means (fields_world p) s.heap (run.gained (run.At (at_field k f)) q c.holdings) m.stands
            record { each = m.stands.heap.each; sums = λ x. le-trans (m.stands.heap.sums x) (more x (run.same_resource x (run.At (at_field k f)))) }
            record { limited = record { most = λ b x. le-trans (less x (run.same_location x l)) (m.stands.holds.limited.most b x); null = λ x. le-trans (less (at_field 0 x) (run.same_location (at_field 0 x) l)) (m.stands.holds.limited.null x) }; only = m.stands.holds.only };
        exact = record { each = m.exact.each; all = λ x. le-trans (less x (run.same_location x l)) (m.exact.all x); apart = m.exact.apart };
        old_exact = m.old_exact;
      };
      back = agrees_back c (at_field k f) q c.heap (le-trans sign same_q.there) (λ x pos. refl);
    }
      where
        more : (x : run.Resource) (b : Bool) → Le (run.amount c.holdings x) (cond b (sum q (run.amount c.holdings x)) (run.amount c.holdings x))
        more x true = below-add (run.amount c.holdings x) (le-trans sign same_q.there)
        more x false = le-refl _

        less : (x : run.Location) (b : Bool) → Le (cond b (sum q (run.amount c.holdings (run.At x))) (run.amount c.holdings (run.At x))) (run.amount c.holdings (run.At x))
        less x true = add-below (run.amount c.holdings (run.At x)) z
        less x false = le-refl _

    -- what is put is no receiver that is null
    not_null_told : (cs : _) → AllTrue i (field_facts true true cs new s.heap) → IsTrueIn i (is_not_null new)
    not_null_told [] h = h.0
    not_null_told (d ∷ ds) h = h.0

    module _ (facts : AllTrue i (put_facts true true new s.heap)) where
      abbrev after : rules.Heap
      after = put_over (chosen true new 0 s.heap) new s.heap

      told : AllTrue i (field_facts true true (chosen true new 0 s.heap) new s.heap)
      told = (true_append i (field_facts true true (chosen true new 0 s.heap) new s.heap) (whole_fact new (put_over (chosen true new 0 s.heap) new s.heap)) facts).0

      space : Room c (at_field k f) (as_fraction (value i a)) t
      space = room c (at_field k f) (as_fraction (value i a)) t v ty t_is (λ held_it pos.
          put_value means (fields_world p) s.next i c.heap f r k g e a t inner ga gt pos s.heap m.stands.heap.each m.exact.each (once new s.heap m.exact.apart)
          (subst (λ cs. AllTrue i (field_facts true true cs new s.heap)) (chosen_by true new (field_key f r) 0 s.heap refl refl refl) told) (positive-le held_it (m.exact.all (at_field k f))))

      moved : Matches means p i scope s (run.with_heap space.heap c)
      moved = matches_heap space.heap space.agrees m

      key : Keyed means (fields_world p) s.next i space.heap (run.At (at_field k f)) new
      key = keyed means (fields_world p) (of_field f r k g e) a t inner ga sign gt (λ z. absurd (true≢false z)) space.there (λ z. tt)

      null_held : (x : Name) → Le (run.amount hs (run.At (at_field 0 x))) none
      null_held x = go (run.same_location (at_field 0 x) l) refl
        where
          nothing : k ≡ 0 → Le q none
          nothing z = positive-or (as_fraction (value i a)) (λ pos. absurd (is_null pos)) (λ small. le-trans same_q.back small)
            where
              is_null : Positive (as_fraction (value i a)) → ⊥
              is_null pos =
                  let ge = good_equals means g (good_null means) in
                  let same_null : value i r ≡ value i null = e ∙ ap (λ n. element (RefValue n)) z ∙ sym m.stands.null in
                  not_true i ge (implied i (less zero_amount a) (negate (equals r null)) (good_positive means ga) (good_negate means ge) (not_null_told (chosen true new 0 s.heap) told) (positive_true means ga pos)) (is_equal i r null same_null)

          go : (b : Bool) → run.same_location (at_field 0 x) (at_field k f) ≡ b → Le (cond b (sum q (run.amount c.holdings (run.At (at_field 0 x)))) (run.amount c.holdings (run.At (at_field 0 x)))) none
          go false z = m.stands.holds.limited.null x
          go true z = le-trans (add-below (run.amount c.holdings (run.At (at_field 0 x))) (nothing (sym (ap (λ (y : run.Location). y.receiver) (location_is (at_field 0 x) l z))))) (m.stands.holds.limited.null x)

      -- the chunks stand for what is then held
      after_stands : HeapStands means (fields_world p) s.next i (put_over (chosen true new 0 s.heap) new s.heap) space.heap (run.gained (resource_of i new) q c.holdings)
      after_stands = (is_put means (fields_world p) s.next i space.heap new key.chunk m.stands.null s.heap q c.holdings true false moved.stands.heap same_q
          record { most = λ z. absurd (true≢false (sym z)); null = λ x. subst (λ y. Le (run.amount (run.gained y q c.holdings) (run.At (at_field 0 x))) none) (sym key.resource) (null_held x) }).heap_stands

      reals : Each (IsReal i) (put_over (chosen true new 0 s.heap) new s.heap)
      reals = put_real i new s.heap record { kind = refl; reference = k; receiver = e } m.exact.each

      all_held : (x : run.Location) → Le (run.amount hs (run.At x)) (held i (put_over (chosen true new 0 s.heap) new s.heap) (run.At x))
      all_held x =
          le-trans (go (run.same_location x l) (m.exact.all x))
          (subst (λ y. Le (sum (cond (run.same_resource (run.At x) y) (amount_of i new) none) (held i s.heap (run.At x))) (held i (put_over (chosen true new 0 s.heap) new s.heap) (run.At x))) key.resource
          (put_held means s.next i new ga s.heap (run.At x) (each_map (ChunkStands means (fields_world p) s.next i c.heap) (λ (d : rules.Chunk). Good means s.next i d.amount RealSort) (λ d o. o.amount) s.heap m.stands.heap.each)))
        where
          go : (b : Bool) → Le (run.amount c.holdings (run.At x)) (held i s.heap (run.At x)) → Le (cond b (sum q (run.amount c.holdings (run.At x))) (run.amount c.holdings (run.At x))) (sum (cond b (amount_of i new) none) (held i s.heap (run.At x)))
          go true z = add-mono same_q.back z
          go false z = le-trans z (none-sum (held i s.heap (run.At x))).back

      limited : HoldsFields hs
      limited = record { limited = record { most = λ b x. go b x (run.same_location x l) refl; null = null_held }; only = m.stands.holds.only }
        where
          whole : Le (held i (put_over (chosen true new 0 s.heap) new s.heap) (run.At (at_field k f))) full
          whole = put_limited means (fields_world p) s.next i space.heap new s.heap k refl key.chunk e (once new s.heap m.exact.apart) after_stands.each reals facts

          go : true ≡ true → (x : run.Location) (b : Bool) → run.same_location x (at_field k f) ≡ b → Le (cond b (sum q (run.amount c.holdings (run.At x))) (run.amount c.holdings (run.At x))) full
          go z x false y = m.stands.holds.limited.most z x
          go z x true y =
              le-trans (subst (λ b. Le (cond b (sum q (run.amount c.holdings (run.At x))) (run.amount c.holdings (run.At x))) (held i (put_over (chosen true new 0 s.heap) new s.heap) (run.At x))) y (all_held x))
              (subst (λ (w : run.Location). Le (held i (put_over (chosen true new 0 s.heap) new s.heap) (run.At w)) full) (sym (location_is x l y)) whole)

      put_stood : Stands means (fields_world p) scope i (put new s) (become c.store space.heap hs c)
      put_stood = put_stands means (fields_world p) new (run.At (at_field k f)) q moved.stands key same_q limited

    abbrev putting : rules.State
    putting = rules.with_facts (put_facts (not (rules.is_quiet s)) s.bounded new s.heap) (rules.with_heap (put_over (chosen true new 0 s.heap) new s.heap) s)

    -- the state behind matches, where its path is true
    pub put_matches : AllTrue i (rules.path_terms (put new s).path) → PutReal scope (put new s) c (at_field k f) q
    put_matches h = go (same a zero_amount) refl h
      where
        go : (b : Bool) → same a zero_amount ≡ b → AllTrue i (rules.path_terms (cond b s (rules.with_facts (put_facts (not (rules.is_quiet s)) s.bounded new s.heap) (rules.with_heap (put_over (chosen true new 0 s.heap) new s.heap) s))).path) →
            PutReal scope (cond b s (rules.with_facts (put_facts (not (rules.is_quiet s)) s.bounded new s.heap) (rules.with_heap (put_over (chosen true new 0 s.heap) new s.heap) s))) c (at_field k f) q
        go true z h = none_put (subst (λ y. Le q (as_fraction (value i y))) (term_is a zero_amount z) same_q.back)
        go false z h =
            let raw = (facts_true i (put_facts (not (rules.is_quiet s)) s.bounded new s.heap) (rules.with_heap (put_over (chosen true new 0 s.heap) new s.heap) s) h).0 in
            let facts : AllTrue i (put_facts true true new s.heap) = subst (λ b. AllTrue i (put_facts true b new s.heap)) m.stands.bounded (subst (λ b. AllTrue i (put_facts (not b) s.bounded new s.heap)) m.stands.awake raw) in
            let room_is = space facts in
            record {
              heap = room_is.heap;
              matches = record {
                stands = subst (λ b. Stands means (fields_world p) scope i (cond b s (rules.with_facts (put_facts (not (rules.is_quiet s)) s.bounded new s.heap) (rules.with_heap (put_over (chosen true new 0 s.heap) new s.heap) s))) (become c.store room_is.heap hs c)) z (put_stood facts);
                exact = subst (λ (x : rules.Heap). Exact i x hs) (sym (facts_keep (λ (y : rules.State). y.heap) (λ e y. refl) (λ y. refl) (put_facts (not (rules.is_quiet s)) s.bounded new s.heap) (rules.with_heap (put_over (chosen true new 0 s.heap) new s.heap) s)))
                    record { each = reals facts; all = all_held facts; apart = put_apart new s.heap m.exact.apart };
                old_exact = subst (λ (x : rules.Heap). Exact i x c.old_holdings) (sym (facts_keep (λ (y : rules.State). y.old) (λ e y. refl) (λ y. refl) (put_facts (not (rules.is_quiet s)) s.bounded new s.heap) (rules.with_heap (put_over (chosen true new 0 s.heap) new s.heap) s))) m.old_exact;
              };
              back = agrees_back c (at_field k f) q room_is.heap (le-trans sign same_q.there) room_is.agrees;
            }
