-- Taking an amount of a location: what the rule says of it, from the question on.
use Rattle.std.proofs.Common.{◌≡◌, ℕ, suc, ◌≤◌, Bool, true, false, not, cond, ◌||◌, List, [], ◌∷◌, Option, Some, None, refl, sym, ◌∙◌, ap, subst, true≢false, le_trans, le_refl, le_of_lt, lt-suc_self}
use Rattle.vx_frac.specs.Fractions.{Fraction, none, sum, minus}
use Rattle.vx_ast.specs.declared.Place.{Place}
use Rattle.vx_ast.specs.Syntax.{Name, Program}
use Rattle.vx_meaning.specs.Values.{RefValue}
use Rattle.vx_meaning.specs.States as run
use Rattle.vx_terms.specs.Sorts.{BoolSort, RealSort, RefSort}
use Rattle.vx_terms.specs.Terms.{Term, same}
use Rattle.vx_terms.specs.Build.{true_term, false_term, less_equal, zero_amount}
use Rattle.vx_terms.specs.Interpretations.{Each, Interpretation, IsOf, as_bool, as_fraction, value, IsTrueIn}
use Rattle.vx_terms.proofs.Same.{term_is}
use Rattle.vx_rules.specs.States as rules
use Rattle.vx_rules.specs.Trees.{Code, Tree, Step}
use Rattle.vx_rules.specs.Chunks.{Candidate, chosen, candidates, field_key, holds_amount, reduced, surely, sum_at, shared_out, value_facts, with_value, without_empty}
use Rattle.vx_rules.specs.Rules.{Going, ask, field_sort, take_chunk}
use Rattle.vx_types.specs.Typing.{Scope}
use Rattle.vx_elements.proofs.Settled.{Meaning, Extends, extends-refl, extends-trans, with_symbol, symbol_extends, fresh_value, value_kept}
use Rattle.vx_elements.proofs.Built.{Good, good_later}
use Rattle.vx_elements.proofs.Elements.{element, element_is}
use Rattle.vx_elements.proofs.Values.{value_typed, sort_of_field}
use Rattle.vx_elements.proofs.Truth.{true_le, good_at_most}
use Rattle.vx_elements.proofs.Places.{IsPlace, matching_places}
use Rattle.vx_amounts.proofs.Amounts.{Le, Positive, Same, le-refl, le-trans, positive-le, minus_same, add-right, add-left, below-add}
use Rattle.vx_sound.proofs.World.{at_field, World}
use Rattle.vx_sound.proofs.Stands.{amount_of, own, held, IsThere, content_sort, ChunkStands, HeapStands, Stands, stands_later, stands_fact, facts_stand, next_after_fact, next_after_facts}
use Rattle.vx_sound.proofs.Chunks.{taken_apart, chunk_held, own_sign, reduced_stands}
use Rattle.vx_sound.proofs.Passes.{Cleared}
use Rattle.vx_sound.proofs.Goes.{cleared_case, refuted_true, good_fresh}
use Rattle.vx_sound.proofs.Candidates.{Keys, of_field, amount_is}
use Rattle.vx_sound.proofs.Puts.{stands_with_holdings}
use Rattle.vx_sound.proofs.Summed.{IsOf as OfField, sum_is, parts_below, candidates_are}
use Rattle.vx_sound.proofs.SumReads.{surely_is, value_facts_hold}
use Rattle.vx_sound.proofs.Slots.{candidates_stand, candidates_differ}
use Rattle.vx_sound.proofs.SumTakes.{shared, of_later}

module _ (means : Meaning) (world : World) where
  abbrev p : Program
  p = world.program

  -- empty chunks are gone
  module _ (n : ℕ) (i : Interpretation) (heap : run.Heap) where
    fuller : (h : rules.Heap) → Each (ChunkStands means world n i heap) h → Each (ChunkStands means world n i heap) (without_empty h)
    fuller [] st = tt
    fuller (c ∷ cs) st = go (same c.amount zero_amount) (fuller cs st.1)
      where
        go : (b : Bool) → Each (ChunkStands means world n i heap) (without_empty cs) → Each (ChunkStands means world n i heap) (cond b (without_empty cs) (c ∷ without_empty cs))
        go true rest = rest
        go false rest = (st.0, rest)

    less_held : (h : rules.Heap) → Each (ChunkStands means world n i heap) h → (x : run.Resource) → Le (held i (without_empty h) x) (held i h x)
    less_held [] st x = le-refl none
    less_held (c ∷ cs) st x = go (same c.amount zero_amount) (less_held cs st.1 x)
      where
        go : (b : Bool) → Le (held i (without_empty cs) x) (held i cs x) → Le (held i (cond b (without_empty cs) (c ∷ without_empty cs)) x) (held i (c ∷ cs) x)
        go true rest = le-trans rest (below-add (held i cs x) (own_sign i c x st.0.sign))
        go false rest = add-left (own i c x) rest

  -- what is taken, and the state behind it
  pub record TakenAt (scope : Scope) (f : Name) (k : ℕ) (q : Fraction) (i : Interpretation) (n : ℕ) (c : run.State) (on : rules.Chunk → Going) : Type 0 where
    pub interp : Interpretation
    pub state : rules.State
    pub chunk : rules.Chunk
    pub extends : Extends means n i interp
    pub later : n ≤ state.next
    pub stands : Stands means world scope interp state (run.with_holdings (run.lost (run.At (at_field k f)) q c.holdings) c)
    pub enough : Le q (run.amount c.holdings (run.At (at_field k f)))
    pub good : Good means state.next interp chunk.value (field_sort p f)
    pub there : Positive q → value interp chunk.value ≡ element (run.value_at p c.heap (at_field k f))
    pub cleared : Cleared (on chunk state)

  lost_same : (l x : run.Resource) (a q : Fraction) (hs : run.Holdings) → Same a q → Le (run.amount (run.lost l a hs) x) (run.amount (run.lost l q hs) x)
  lost_same l x a q hs s = go (run.same_resource x l)
    where
      go : (b : Bool) → Le (cond b (sum (minus a) (run.amount hs x)) (run.amount hs x)) (cond b (sum (minus q) (run.amount hs x)) (run.amount hs x))
      go true = add-right (run.amount hs x) (minus_same s).there
      go false = le-refl _

  heap_after_fact : (t : Term) (s : rules.State) → (rules.with_fact t s).heap ≡ s.heap
  heap_after_fact t s = go (rules.is_known t s)
    where
      go : (b : Bool) → (cond b s (rules.with_entry record { term = t; branch = false } s)).heap ≡ s.heap
      go true = refl
      go false = refl

  -- a question that was asked, or needed no asking: the state behind it has the same chunks
  pub record AskedAt (scope : Scope) (i : Interpretation) (s : rules.State) (c : run.State) (on : Going) : Type 0 where
    pub state : rules.State
    pub heap_is : state.heap ≡ s.heap
    pub next_is : state.next ≡ s.next
    pub stands : Stands means world scope i state c
    pub cleared : Cleared (on state)

  pub asked_at : {scope : Scope} {i : Interpretation} {s : rules.State} {c : run.State} (t : Term) (at : Place) (code : Code) (on : Going) →
      Stands means world scope i s c → Good means s.next i t BoolSort → Cleared (ask t at code s on) → IsTrueIn i t × AskedAt scope i s c on
  asked_at {scope = scope} {i = i} {s = s} {c = c} t at code on st g h = cleared_case (same t true_term || rules.is_quiet s) _ _ h
      (λ e k. (subst (IsTrueIn i) (sym (term_is t true_term (or_false _ _ e st.awake))) refl, record { state = s; heap_is = refl; next_is = refl; stands = st; cleared = k }))
      (λ e k.
      let told = refuted_true means world false t at code st g k.0 in (
        told,
        cleared_case (same t false_term) _ _ k.1
            (λ f m. absurd (true≢false (sym told ∙ subst (λ u. as_bool (value i u) ≡ false) (sym (term_is t false_term f)) refl)))
            (λ f m. record { state = rules.with_fact t s; heap_is = heap_after_fact t s; next_is = next_after_fact means world t s; stands = stands_fact means world t st g told; cleared = m }),
      ))
    where
      or_false : (a b : Bool) → (a || b) ≡ true → b ≡ false → a ≡ true
      or_false true b e f = refl
      or_false false b e f = absurd (true≢false (sym e ∙ f))

  -- a fresh symbol has the value at a location, and what these candidates say of it holds
  told_fresh : {scope : Scope} {i : Interpretation} {s : rules.State} {c : run.State} (f : Name) (r : Term) (k : ℕ) (q : Fraction) (key : rules.Chunk) (on : rules.Chunk → Going) (cs : List Candidate) → Stands means world scope i s (run.with_holdings (run.lost (run.At (at_field k f)) q c.holdings) c) →
      Each (λ (d : Candidate). OfField means world s.next i c.heap f d.chunk) cs → Good means s.next i r RefSort → value i r ≡ element (RefValue k) → Le q (run.amount c.holdings (run.At (at_field k f))) →
      Cleared (on (record key { value = rules.fresh (field_sort p f) s }) (with_value r (rules.fresh (field_sort p f) s) cs s)) → TakenAt scope f k q i s.next c on
  told_fresh {scope = scope} {i = i} {s = s} {c = c} f r k q key on cs st of g e enough h = record {
    interp = with_symbol means i s.next (element (run.value_at p c.heap (at_field k f)));
    state = with_value r (rules.fresh (field_sort p f) s) cs s;
    chunk = record key { value = rules.fresh (field_sort p f) s };
    extends = ext;
    later = subst (λ m. s.next ≤ m) (sym after) le;
    stands = facts_stand means world (value_facts r (rules.fresh (field_sort p f) s) cs) (rules.after_fresh s) (stands_later means world (suc s.next) le ext st)
        (value_facts_hold means world (suc s.next) (with_symbol means i s.next (element (run.value_at p c.heap (at_field k f)))) c.heap f r k (good_later means le ext g) (value_kept means r g.settled ext ∙ e) (rules.fresh (field_sort p f) s) gu is cs (of_later means world c.heap f le ext cs of));
    enough = enough;
    good = subst (λ m. Good means m (with_symbol means i s.next (element (run.value_at p c.heap (at_field k f)))) (rules.fresh (field_sort p f) s) (field_sort p f)) (sym after) gu;
    there = λ pos. is;
    cleared = h;
  }
    where
      le : s.next ≤ suc s.next
      le = le_of_lt (lt-suc_self s.next)

      ext : Extends means s.next i (with_symbol means i s.next (element (run.value_at p c.heap (at_field k f))))
      ext = symbol_extends means i s.next (element (run.value_at p c.heap (at_field k f)))

      gu : Good means (suc s.next) (with_symbol means i s.next (element (run.value_at p c.heap (at_field k f)))) (rules.fresh (field_sort p f) s) (field_sort p f)
      gu = good_fresh means world i s.next (element (run.value_at p c.heap (at_field k f))) (field_sort p f)

      of_sort : IsOf (field_sort p f) (element (run.value_at p c.heap (at_field k f)))
      of_sort = subst (λ a. IsOf a (element (run.value_at p c.heap (at_field k f)))) (ap rules.sort_of_type (value_typed p c.heap (at_field k f)) ∙ sym (sort_of_field p f)) (element_is (run.value_at p c.heap (at_field k f)))

      is : value (with_symbol means i s.next (element (run.value_at p c.heap (at_field k f)))) (rules.fresh (field_sort p f) s) ≡ element (run.value_at p c.heap (at_field k f))
      is = fresh_value means i s.next (element (run.value_at p c.heap (at_field k f))) (field_sort p f) of_sort

      after : (with_value r (rules.fresh (field_sort p f) s) cs s).next ≡ suc s.next
      after = next_after_facts means world (value_facts r (rules.fresh (field_sort p f) s) cs) (rules.after_fresh s)

  pub take_one : {scope : Scope} {i : Interpretation} {s : rules.State} {c : run.State} (f : Name) (r : Term) (k : ℕ) (a : Term) (q : Fraction) (at : Place) (code : Code) (on : rules.Chunk → Going) → Stands means world scope i s c →
      Good means s.next i r RefSort → value i r ≡ element (RefValue k) → Good means s.next i a RealSort → Same (as_fraction (value i a)) q → Le none (as_fraction (value i a)) →
      Cleared (take_chunk (field_key f r) a (field_sort p f) at code s on) → TakenAt scope f k q i s.next c on
  take_one {scope = scope} {i = i} {s = s} {c = c} f r k a q at code on st g e ga same_q sign h = cleared_case (not (rules.is_quiet s)) _ _ h
      (λ x m. go (surely (holds_amount a (r ∷ [])) (chosen true (field_key f r) 0 s.heap)) refl m)
      (λ x m. absurd (true≢false (sym (ap not st.awake) ∙ x)))
    where
      keys : Keys means world s.next i (field_key f r) (run.At (at_field k f)) (field_sort p f)
      keys = of_field f r k g e

      summed : Going
      summed s1 =
          let s2 = shared_out r a (candidates (field_key f r) s1.heap) s1 in
          on (record (field_key f r) { amount = a; value = rules.fresh (field_sort p f) s2 }) (with_value r (rules.fresh (field_sort p f) s2) (candidates (field_key f r) s1.heap) (rules.with_heap (without_empty s2.heap) s2))

      by_asking : IsTrueIn i (less_equal a (sum_at r (candidates (field_key f r) s.heap))) × AskedAt scope i s c summed → TakenAt scope f k q i s.next c on
      by_asking (told, after) =
          let s1 = after.state in
          let cs = candidates (field_key f r) s1.heap in
          let g1 : Good means after.state.next i r RefSort = subst (λ m. Good means m i r RefSort) (sym after.next_is) g in
          let ga1 : Good means after.state.next i a RealSort = subst (λ m. Good means m i a RealSort) (sym after.next_is) ga in
          let told1 : IsTrueIn i (less_equal a (sum_at r (candidates (field_key f r) after.state.heap))) = subst (λ (h : rules.Heap). IsTrueIn i (less_equal a (sum_at r (candidates (field_key f r) h)))) (sym after.heap_is) told in
          let of = candidates_are means world s1.next i c.heap f r k g1 e s1.heap after.stands.heap.each in
          let m = sum_is means world s1.next i c.heap f r k g1 e cs of in
          let most = le-trans (true_le means (sum_at r cs) ga1 told1) m.is.there in
          let enough : Le q (run.amount c.holdings (run.At (at_field k f))) = le-trans same_q.back (le-trans most (le-trans (parts_below means world s1.next i c.heap f r k g1 e s1.heap after.stands.heap.each) (after.stands.heap.sums (run.At (at_field k f))))) in
          let sh = shared means world f r k cs {scope = scope} {i = i} {s = s1} {c = c} after.stands (candidates_stand (field_key f r) s1.heap) (candidates_differ (field_key f r) s1.heap) of g1 e a ga1 sign most in
          let s2 = shared_out r a cs s1 in
          let st2 : Stands means world scope sh.interp (rules.with_heap (without_empty s2.heap) s2) (run.with_holdings (run.lost (run.At (at_field k f)) q c.holdings) c) =
          stands_with_holdings means world (without_empty s2.heap) (run.lost (run.At (at_field k f)) q c.holdings) sh.stands record {
            each = fuller s2.next sh.interp c.heap s2.heap sh.stands.heap.each;
            sums = λ x. le-trans (less_held s2.next sh.interp c.heap s2.heap sh.stands.heap.each x) (le-trans (sh.stands.heap.sums x) (le-trans (sh.below x) (lost_same (run.At (at_field k f)) x (as_fraction (value i a)) q c.holdings same_q)));
          } (world.taken c.heap c.holdings (run.At (at_field k f)) q tt (le-trans sign same_q.there) enough st.holds) in
          let z = told_fresh f r k q (record (field_key f r) { amount = a }) on cs st2 (of_later means world c.heap f sh.later sh.extends cs of) (good_later means sh.later sh.extends g1) (value_kept means r g1.settled sh.extends ∙ e) enough after.cleared in
          record {
            interp = z.interp;
            state = z.state;
            chunk = z.chunk;
            extends = subst (λ m. Extends means m i z.interp) after.next_is (extends-trans means sh.later sh.extends z.extends);
            later = subst (λ m. m ≤ z.state.next) after.next_is (le_trans sh.later z.later);
            stands = z.stands;
            enough = enough;
            good = z.good;
            there = z.there;
            cleared = z.cleared;
          }

      go : (o : Option Candidate) → surely (holds_amount a (r ∷ [])) (chosen true (field_key f r) 0 s.heap) ≡ o →
          Cleared (elim o as (λ o. Tree) [ Some d ↦ Step (on d.chunk (rules.with_heap (reduced d a s.heap) s)) | None ↦ ask (less_equal a (sum_at r (candidates (field_key f r) s.heap))) at code s summed ]) → TakenAt scope f k q i s.next c on
      go (Some d) o m =
          let x = surely_is (holds_amount a (r ∷ [])) (IsPlace (field_key f r) s.heap) (chosen true (field_key f r) 0 s.heap) d (matching_places (field_key f r) s.heap) o in
          let apart = taken_apart means world s.next i c.heap x.0 st.heap in
          let is = amount_is means world keys d.chunk x.0.kind x.0.resource apart.chunk ga (subst (IsTrueIn i) (sym (term_is (holds_amount a (r ∷ []) d.chunk) true_term x.1)) refl) in
          let enough : Le q (run.amount c.holdings (run.At (at_field k f))) = le-trans same_q.back (le-trans is.1 (subst (λ y. Le (amount_of i d.chunk) (run.amount c.holdings y)) is.0 (chunk_held means world s.next i c.heap x.0 st.heap))) in
          record {
            interp = i;
            state = rules.with_heap (reduced d a s.heap) s;
            chunk = d.chunk;
            extends = extends-refl means s.next i;
            later = le_refl _;
            stands = stands_with_holdings means world (reduced d a s.heap) (run.lost (run.At (at_field k f)) q c.holdings) st
                (subst (λ y. HeapStands means world s.next i (reduced d a s.heap) c.heap (run.lost y q c.holdings)) is.0 (reduced_stands means world s.next i c.heap x.0 st.heap a q ga same_q sign is.1))
                (world.taken c.heap c.holdings (run.At (at_field k f)) q tt (le-trans sign same_q.there) enough st.holds);
            enough = enough;
            good = subst (λ y. Good means s.next i d.chunk.value (field_sort p y)) x.0.resource (subst (λ b. Good means s.next i d.chunk.value (content_sort p b d.chunk.resource)) x.0.kind apart.chunk.content);
            there = λ pos. subst (λ y. IsThere p c.heap y (value i d.chunk.value)) is.0 (apart.chunk.content_is (positive-le pos (le-trans same_q.back is.1)));
            cleared = m;
          }
      go None o m =
          let gs = (sum_is means world s.next i c.heap f r k g e (candidates (field_key f r) s.heap) (candidates_are means world s.next i c.heap f r k g e s.heap st.heap.each)).good in
          by_asking (asked_at (less_equal a (sum_at r (candidates (field_key f r) s.heap))) at code summed st (good_at_most means ga gs) m)
