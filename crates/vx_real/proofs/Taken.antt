-- A location that is taken: exposed, the amount isn't held and the place is its own, or the state behind matches what is left.
use Rattle.std.proofs.Common.{◌≡◌, ◌⊎◌, inl, inr, ℕ, suc, ◌≤◌, true, not, cond, List, [], ◌∷◌, Option, Some, None, refl, sym, ◌∙◌, ap, subst, true≢false, le_trans, le_refl, le_of_lt, lt-suc_self}
use Rattle.vx_frac.specs.Fractions.{Fraction, none, sum}
use Rattle.vx_ast.specs.declared.Place.{Place}
use Rattle.vx_ast.specs.Syntax.{Name, Program}
use Rattle.vx_meaning.specs.Values.{RefValue}
use Rattle.vx_meaning.specs.States as run
use Rattle.vx_terms.specs.Sorts.{BoolSort, RealSort, RefSort, Variable}
use Rattle.vx_terms.specs.Terms.{Term}
use Rattle.vx_terms.specs.Formed.{constant}
use Rattle.vx_terms.specs.Build.{true_term, less_equal, negate}
use Rattle.vx_terms.specs.Interpretations.{Each, Interpretation, as_fraction, value, IsTrueIn, AllTrue}
use Rattle.vx_terms.proofs.Same.{term_is}
use Rattle.vx_rules.specs.States as rules
use Rattle.vx_rules.specs.Trees.{Code, Tree, Step}
use Rattle.vx_rules.specs.Chunks.{Candidate, chosen, candidates, field_key, holds_amount, reduced, surely, sum_at, shared_out, value_facts, with_value, without_empty}
use Rattle.vx_rules.specs.Rules.{Going, ask, field_sort, take_chunk}
use Rattle.vx_types.specs.Typing.{Scope}
use Rattle.vx_elements.proofs.Settled.{Meaning, extends-refl}
use Rattle.vx_elements.proofs.Built.{Good, good_later}
use Rattle.vx_elements.proofs.Elements.{element}
use Rattle.vx_elements.proofs.Truth.{true_le, le_true, good_at_most, subtract_is}
use Rattle.vx_elements.proofs.Places.{IsPlace, matching_places}
use Rattle.vx_elements.proofs.Lists.{each_map}
use Rattle.vx_amounts.proofs.Amounts.{Le, Same, le-trans, add-left}
use Rattle.vx_grows.proofs.GrowSteps.{Follows, taking_all_grows}
use Rattle.vx_sound.proofs.World.{at_field}
use Rattle.vx_sound.proofs.Stands.{amount_of, held, HeapStands, Stands, stands_later, facts_stand, next_after_facts}
use Rattle.vx_sound.proofs.Chunks.{taken_apart, chunk_held, reduced_stands}
use Rattle.vx_sound.proofs.Candidates.{Keys, of_field, amount_is}
use Rattle.vx_sound.proofs.Puts.{stands_with_holdings}
use Rattle.vx_sound.proofs.Summed.{IsOf as OfField, SumIs, parts, sum_is, parts_below, candidates_are}
use Rattle.vx_sound.proofs.SumReads.{surely_is}
use Rattle.vx_sound.proofs.Slots.{candidates_stand, candidates_differ}
use Rattle.vx_sound.proofs.SumTakes.{of_later}
use Rattle.vx_sound.proofs.Fields.{fields_world}
use Rattle.vx_real.specs.Exposed.{Exposed}
use Rattle.vx_real.proofs.Exactly.{Exact, AreApart, keys, parts_above}
use Rattle.vx_real.proofs.SumReads.{exposed_case, facts_true, not_true}
use Rattle.vx_real.proofs.SumTakes.{shared_real}
use Rattle.vx_real.proofs.Keys.{real_by_keys, real_full, apart_full, real_reduced, apart_reduced}
use Rattle.vx_real.proofs.LostHoldings.{lost_held, lost_same, full_held, reduced_held}
use Rattle.vx_real.proofs.TakesKeep.{full_stands, facts_good, SharedReal, shared_stands}
use Rattle.vx_real.proofs.FieldsStay.{facts_keep, shared_keeps, shared_keys}
use Rattle.vx_real.proofs.Matched.{Matches}
use Rattle.vx_real.proofs.Grown.{keeps}
use Rattle.vx_real.proofs.Questions.{Behind, asked}

module _ (means : Meaning) (p : Program) (i : Interpretation) (at : Place) (code : Code) where
  -- the state behind matches what is left, and what follows is exposed
  pub record TakenReal (scope : Scope) (f : Name) (k : ℕ) (q : Fraction) (s : rules.State) (c : run.State) (on : rules.Chunk → Going) : Type 0 where
    pub state : rules.State
    pub chunk : rules.Chunk
    pub later : s.next ≤ state.next
    pub at_is : state.at ≡ s.at
    pub matches : Matches means p i scope state (run.with_holdings (run.lost (run.At (at_field k f)) q c.holdings) c)
    pub enough : Le q (run.amount c.holdings (run.At (at_field k f)))
    pub exposed : Exposed i at code (on chunk state)

  module _ (scope : Scope) (s : rules.State) (c : run.State) (m : Matches means p i scope s c) (f : Name) (r : Term) (k : ℕ) (g : Good means s.next i r RefSort) (e : value i r ≡ element (RefValue k))
      (a : Term) (q : Fraction) (ga : Good means s.next i a RealSort) (same_q : Same (as_fraction (value i a)) q) (sign : Le none (as_fraction (value i a))) (on : rules.Chunk → Going) where
    -- from a chunk of its own
    own_taken : (d : Candidate) → IsPlace (field_key f r) s.heap d → IsTrueIn i (holds_amount a (r ∷ []) d.chunk) → Exposed i at code (on d.chunk (rules.with_heap (reduced d a s.heap) s)) → TakenReal scope f k q s c on
    own_taken d pl h x =
        let here = taken_apart means (fields_world p) s.next i c.heap pl m.stands.heap in
        let keys : Keys means (fields_world p) s.next i (field_key f r) (run.At (at_field k f)) (field_sort p f) = of_field f r k g e in
        let is = amount_is means (fields_world p) keys d.chunk pl.kind pl.resource here.chunk ga h in
        let enough : Le q (run.amount c.holdings (run.At (at_field k f))) = le-trans same_q.back (le-trans is.1 (subst (λ y. Le (amount_of i d.chunk) (run.amount c.holdings y)) is.0 (chunk_held means (fields_world p) s.next i c.heap pl m.stands.heap))) in
        let less = λ (y : run.Location). subst (λ z. Le (held i s.heap (run.At y)) (sum (cond (run.same_resource (run.At y) z) (as_fraction (value i a)) none) (held i (reduced d a s.heap) (run.At y)))) is.0
        (reduced_held means i pl a (as_fraction (value i a)) (subtract_is means here.chunk.amount ga) (run.At y)) in
        record {
          state = rules.with_heap (reduced d a s.heap) s;
          chunk = d.chunk;
          later = le_refl _;
          at_is = refl;
          matches = record {
            stands = stands_with_holdings means (fields_world p) (reduced d a s.heap) (run.lost (run.At (at_field k f)) q c.holdings) m.stands
                (subst (λ y. HeapStands means (fields_world p) s.next i (reduced d a s.heap) c.heap (run.lost y q c.holdings)) is.0 (reduced_stands means (fields_world p) s.next i c.heap pl m.stands.heap a q ga same_q sign is.1))
                ((fields_world p).taken c.heap c.holdings (run.At (at_field k f)) q tt (le-trans sign same_q.there) enough m.stands.holds);
            exact = record {
              each = real_reduced i pl a m.exact.each;
              all = λ y. lost_held i (run.At (at_field k f)) (run.At y) (as_fraction (value i a)) q c.holdings s.heap (reduced d a s.heap) same_q.there (m.exact.all y) (less y);
              apart = apart_reduced pl a m.exact.apart;
            };
            old_exact = m.old_exact;
          };
          enough = enough;
          exposed = x;
        }

    abbrev summed : Going
    summed s1 =
        let s2 = shared_out r a (candidates (field_key f r) s1.heap) s1 in
        on (record (field_key f r) { amount = a; value = rules.fresh (field_sort p f) s2 }) (with_value r (rules.fresh (field_sort p f) s2) (candidates (field_key f r) s1.heap) (rules.with_heap (without_empty s2.heap) s2))

    -- from all of them
    all_taken : ((d : rules.Chunk) → Follows (on d)) → IsTrueIn i (less_equal a (sum_at r (candidates (field_key f r) s.heap))) → Behind means p i at code scope s c summed → TakenReal scope f k q s c on
    all_taken follows told b = record {
      state = with_value r u cs s3;
      chunk = taken;
      later = subst (λ n. n ≤ (with_value r (rules.fresh (field_sort p f) s2) (candidates (field_key f r) b.state.heap) s3).next) b.next_is (subst (λ n. b.state.next ≤ n) (sym next_is) (le_trans sh.later le3));
      at_is = facts_keep (λ (z : rules.State). z.at) (λ e z. refl) (λ z. refl) (value_facts r u cs) (rules.after_fresh s3) ∙ shared_keeps (λ (z : rules.State). z.at) (λ e z. refl) (λ z. refl) (λ h z. refl) r a cs b.state ∙ b.at_is;
      matches = record {
        stands = facts_stand means (fields_world p) (value_facts r u cs) (rules.after_fresh s3) st4 (facts_good means (fields_world p) (suc s2.next) i c.heap f r k g4 e u gu cs of4 facts.0);
        exact = subst (λ (h : rules.Heap). Exact i h (run.lost (run.At (at_field k f)) q c.holdings)) (sym heap_is) record {
          each = real_full i s2.heap (real_by_keys i b.state.heap s2.heap (sym same_keys) b.matches.exact.each);
          all = λ y. lost_held i (run.At (at_field k f)) (run.At y) (as_fraction (value i a)) q c.holdings b.state.heap (without_empty s2.heap) same_q.there (b.matches.exact.all y)
              (le-trans (less.1 (run.At y)) (add-left (cond (run.same_resource (run.At y) (run.At (at_field k f))) (as_fraction (value i a)) none) (full_held i s2.heap (run.At y))));
          apart = apart_full s2.heap (subst AreApart (sym same_keys) b.matches.exact.apart);
        };
        old_exact = subst (λ (h : rules.Heap). Exact i h c.old_holdings) (sym old_is) m.old_exact;
      };
      enough = enough;
      exposed = b.exposed;
    }
      where
        cs : List Candidate
        cs = candidates (field_key f r) b.state.heap

        s2 : rules.State
        s2 = shared_out r a (candidates (field_key f r) b.state.heap) b.state

        s3 : rules.State
        s3 = rules.with_heap (without_empty (shared_out r a (candidates (field_key f r) b.state.heap) b.state).heap) (shared_out r a (candidates (field_key f r) b.state.heap) b.state)

        u : Term
        u = rules.fresh (field_sort p f) s2

        taken : rules.Chunk
        taken = record (field_key f r) { amount = a; value = rules.fresh (field_sort p f) s2 }

        g1 : Good means b.state.next i r RefSort
        g1 = subst (λ n. Good means n i r RefSort) (sym b.next_is) g

        ga1 : Good means b.state.next i a RealSort
        ga1 = subst (λ n. Good means n i a RealSort) (sym b.next_is) ga

        of : Each (λ (d : Candidate). OfField means (fields_world p) b.state.next i c.heap f d.chunk) (candidates (field_key f r) b.state.heap)
        of = candidates_are means (fields_world p) b.state.next i c.heap f r k g1 e b.state.heap b.matches.stands.heap.each

        sum_good : SumIs means (fields_world p) b.state.next i c.heap f r k g1 e (sum_at r (candidates (field_key f r) b.state.heap)) (parts means (fields_world p) b.state.next i c.heap f r k g1 e (candidates (field_key f r) b.state.heap))
        sum_good = sum_is means (fields_world p) b.state.next i c.heap f r k g1 e cs of

        most : Le (as_fraction (value i a)) (parts means (fields_world p) b.state.next i c.heap f r k g1 e (candidates (field_key f r) b.state.heap))
        most = le-trans (true_le means (sum_at r cs) ga1 (subst (λ (h : rules.Heap). IsTrueIn i (less_equal a (sum_at r (candidates (field_key f r) h)))) (sym b.heap_is) told)) sum_good.is.there

        enough : Le q (run.amount c.holdings (run.At (at_field k f)))
        enough = le-trans same_q.back (le-trans most (le-trans (parts_below means (fields_world p) b.state.next i c.heap f r k g1 e b.state.heap b.matches.stands.heap.each) (b.matches.stands.heap.sums (run.At (at_field k f)))))

        facts : AllTrue i (value_facts r u cs) × AllTrue i (rules.path_terms s2.path)
        facts = facts_true i (value_facts r u cs) (rules.after_fresh s3) (keeps i at code (on taken) (follows taken) (with_value r u cs s3) b.exposed)

        sh : SharedReal means (fields_world p) scope i b.state.next c (run.At (at_field k f)) (as_fraction (value i a)) s2
        sh = shared_stands means (fields_world p) f r k cs b.matches.stands (candidates_stand (field_key f r) b.state.heap) (candidates_differ (field_key f r) b.state.heap) of g1 e a ga1 sign most facts.1

        less : AllTrue i (rules.path_terms b.state.path) × ((x : run.Resource) → Le (held i b.state.heap x) (sum (cond (run.same_resource x (run.At (at_field k f))) (as_fraction (value i a)) none) (held i s2.heap x)))
        less = shared_real means (fields_world p) i c.heap f r k cs b.state (candidates_stand (field_key f r) b.state.heap) (candidates_differ (field_key f r) b.state.heap) of g1 e a ga1 sign most facts.1

        st3 : Stands means (fields_world p) scope i s3 (run.with_holdings (run.lost (run.At (at_field k f)) q c.holdings) c)
        st3 = stands_with_holdings means (fields_world p) (without_empty s2.heap) (run.lost (run.At (at_field k f)) q c.holdings) sh.stands
            (full_stands means (fields_world p) s2.next i c.heap s2.heap sh.holdings (run.lost (run.At (at_field k f)) q c.holdings) sh.stands.heap (λ x. le-trans (sh.below x) (lost_same (run.At (at_field k f)) x (as_fraction (value i a)) q c.holdings same_q)))
            ((fields_world p).taken c.heap c.holdings (run.At (at_field k f)) q tt (le-trans sign same_q.there) enough m.stands.holds)

        le3 : s2.next ≤ suc s2.next
        le3 = le_of_lt (lt-suc_self s2.next)

        st4 : Stands means (fields_world p) scope i (rules.after_fresh s3) (run.with_holdings (run.lost (run.At (at_field k f)) q c.holdings) c)
        st4 = stands_later means (fields_world p) (suc s2.next) le3 (extends-refl means s2.next i) st3

        g4 : Good means (suc s2.next) i r RefSort
        g4 = good_later means (le_trans sh.later le3) (extends-refl means b.state.next i) g1

        of4 : Each (λ (d : Candidate). OfField means (fields_world p) (suc s2.next) i c.heap f d.chunk) (candidates (field_key f r) b.state.heap)
        of4 = of_later means (fields_world p) c.heap f (le_trans sh.later le3) (extends-refl means b.state.next i) cs of

        gu : Good means (suc s2.next) i (rules.fresh (field_sort p f) s2) (field_sort p f)
        gu = record { formed = constant (Variable s2.next) (field_sort p f) (lt-suc_self s2.next); settled = lt-suc_self s2.next }

        next_is : (with_value r u cs s3).next ≡ suc s2.next
        next_is = next_after_facts means (fields_world p) (value_facts r u cs) (rules.after_fresh s3)

        heap_is : (with_value r u cs s3).heap ≡ without_empty s2.heap
        heap_is = facts_keep (λ (z : rules.State). z.heap) (λ e z. refl) (λ z. refl) (value_facts r u cs) (rules.after_fresh s3)

        old_is : (with_value r u cs s3).old ≡ s.old
        old_is = facts_keep (λ (z : rules.State). z.old) (λ e z. refl) (λ z. refl) (value_facts r u cs) (rules.after_fresh s3) ∙ shared_keeps (λ (z : rules.State). z.old) (λ e z. refl) (λ z. refl) (λ h z. refl) r a cs b.state ∙ b.old_is

        same_keys : keys s2.heap ≡ keys b.state.heap
        same_keys = shared_keys (field_key f r) r a cs b.state (candidates_stand (field_key f r) b.state.heap) (candidates_differ (field_key f r) b.state.heap)
            (each_map (λ (d : Candidate). OfField means (fields_world p) b.state.next i c.heap f d.chunk) (λ (d : Candidate). (d.chunk.resource ≡ f) × (d.chunk.is_field ≡ true)) (λ d o. (o.resource, o.kind)) cs of)

    -- the amount isn't held at the place, or it is taken
    pub take_real : (place : Place) (its : Code) → ((d : rules.Chunk) → Follows (on d)) → Exposed i at code (take_chunk (field_key f r) a (field_sort p f) place its s on) →
        ((place ≡ at) × (Le q (run.amount c.holdings (run.At (at_field k f))) → ⊥)) ⊎ TakenReal scope f k q s c on
    take_real place its follows x = exposed_case i at code (not (rules.is_quiet s)) _ _ x
        (λ y z. go (surely (holds_amount a (r ∷ [])) (chosen true (field_key f r) 0 s.heap)) refl z)
        (λ y z. absurd (true≢false (sym (ap not m.stands.awake) ∙ y)))
      where
        sum_good : SumIs means (fields_world p) s.next i c.heap f r k g e (sum_at r (candidates (field_key f r) s.heap)) (parts means (fields_world p) s.next i c.heap f r k g e (candidates (field_key f r) s.heap))
        sum_good = sum_is means (fields_world p) s.next i c.heap f r k g e (candidates (field_key f r) s.heap) (candidates_are means (fields_world p) s.next i c.heap f r k g e s.heap m.stands.heap.each)

        good_asked : Good means s.next i (less_equal a (sum_at r (candidates (field_key f r) s.heap))) BoolSort
        good_asked = good_at_most means ga sum_good.good

        held_enough : Le q (run.amount c.holdings (run.At (at_field k f))) → IsTrueIn i (less_equal a (sum_at r (candidates (field_key f r) s.heap)))
        held_enough le =
            le_true means (sum_at r (candidates (field_key f r) s.heap)) ga
            (le-trans same_q.there (le-trans le (le-trans (m.exact.all (at_field k f)) (le-trans (parts_above means (fields_world p) s.next i c.heap f r k g e s.heap m.stands.heap.each m.exact.each) sum_good.is.back))))

        by_asking : ((place ≡ at) × IsTrueIn i (negate (less_equal a (sum_at r (candidates (field_key f r) s.heap))))) ⊎ (IsTrueIn i (less_equal a (sum_at r (candidates (field_key f r) s.heap))) × Behind means p i at code scope s c summed) →
            ((place ≡ at) × (Le q (run.amount c.holdings (run.At (at_field k f))) → ⊥)) ⊎ TakenReal scope f k q s c on
        by_asking (inl z) = inl (z.0, λ le. not_true i good_asked z.1 (held_enough le))
        by_asking (inr z) = inr (all_taken follows z.0 z.1)

        go : (o : Option Candidate) → surely (holds_amount a (r ∷ [])) (chosen true (field_key f r) 0 s.heap) ≡ o →
            Exposed i at code (elim o as (λ o. Tree) [ Some d ↦ Step (on d.chunk (rules.with_heap (reduced d a s.heap) s)) | None ↦ ask (less_equal a (sum_at r (candidates (field_key f r) s.heap))) place its s summed ]) →
            ((place ≡ at) × (Le q (run.amount c.holdings (run.At (at_field k f))) → ⊥)) ⊎ TakenReal scope f k q s c on
        go (Some d) o z =
            let y = surely_is (holds_amount a (r ∷ [])) (IsPlace (field_key f r) s.heap) (chosen true (field_key f r) 0 s.heap) d (matching_places (field_key f r) s.heap) o in
            inr (own_taken d y.0 (subst (IsTrueIn i) (sym (term_is (holds_amount a (r ∷ []) d.chunk) true_term y.1)) refl) z)
        go None o z = by_asking (asked means p i at code (less_equal a (sum_at r (candidates (field_key f r) s.heap))) place its summed m good_asked (λ s1. taking_all_grows s1 (field_key f r) a (field_sort p f) on follows) z)
