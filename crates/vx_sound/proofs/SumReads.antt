-- Reading by the sum over the chunks of a field: what is read is the value at the location, of which some is held.
use Rattle.std.proofs.Common.{◌≡◌, ℕ, suc, ◌≤◌, Bool, true, false, cond, List, [], ◌∷◌, Option, Some, None, refl, sym, ◌∙◌, ap, subst, true≢false, le_trans, le_refl, le_of_lt, lt-suc_self}
use Rattle.vx_ast.specs.declared.Place.{Place}
use Rattle.vx_ast.specs.Syntax.{Name, Program}
use Rattle.vx_meaning.specs.Values.{Value, RefValue}
use Rattle.vx_meaning.specs.States as run
use Rattle.vx_terms.specs.Sorts.{BoolSort, RefSort}
use Rattle.vx_terms.specs.Terms.{Term, same}
use Rattle.vx_terms.specs.Build.{true_term, less, zero_amount}
use Rattle.vx_terms.specs.Interpretations.{Each, Interpretation, IsOf, value, IsTrueIn}
use Rattle.vx_terms.proofs.Same.{term_is}
use Rattle.vx_rules.specs.States as rules
use Rattle.vx_rules.specs.Trees.{PermissionCode, Tree, Step}
use Rattle.vx_rules.specs.Chunks.{Candidate, chosen, candidates, field_key, holds_some, surely, sum_at, value_facts, with_value}
use Rattle.vx_rules.specs.Rules.{Giving, Going, ask, field_sort, read_field}
use Rattle.vx_types.specs.Typing.{Scope}
use Rattle.vx_elements.proofs.Settled.{Meaning, Extends, extends-refl, extends-trans, with_symbol, symbol_extends, fresh_value, value_kept}
use Rattle.vx_elements.proofs.Built.{Good, good_later, good_implies, good_equals}
use Rattle.vx_elements.proofs.Elements.{element, element_is}
use Rattle.vx_elements.proofs.Values.{value_typed, sort_of_field}
use Rattle.vx_elements.proofs.Truth.{is_equal, if_true, true_positive, good_positive}
use Rattle.vx_elements.proofs.Places.{IsPlace, matching_places}
use Rattle.vx_amounts.proofs.Amounts.{Positive, le-trans, positive-le}
use Rattle.vx_sound.proofs.World.{at_field, World}
use Rattle.vx_sound.proofs.Stands.{IsThere, content_sort, Stands, stands_later, facts_stand, next_after_facts}
use Rattle.vx_sound.proofs.Chunks.{taken_apart, chunk_held}
use Rattle.vx_sound.proofs.Passes.{Cleared}
use Rattle.vx_sound.proofs.Goes.{cleared_case, Goes, asked, good_fresh}
use Rattle.vx_sound.proofs.Candidates.{Keys, of_field, good_some, some_is}
use Rattle.vx_sound.proofs.Summed.{IsOf as OfField, sum_is, parts_below, candidates_are}

-- the first that is surely as wanted is one of them, and literally so
pub surely_is : (wanted : rules.Chunk → Term) (P : Candidate → Type 0) (cs : List Candidate) (c : Candidate) → Each P cs → surely wanted cs ≡ Some c → P c × (same (wanted c.chunk) true_term ≡ true)
surely_is wanted P [] c h e = cc
surely_is wanted P (d ∷ ds) c h e = go (same (wanted d.chunk) true_term) refl e (surely_is wanted P ds c h.1)
  where
    some_is_it : Some d ≡ Some c → d ≡ c
    some_is_it e = cc

    go : (b : Bool) → same (wanted d.chunk) true_term ≡ b → cond b (Some d) (surely wanted ds) ≡ Some c →
        (surely wanted ds ≡ Some c → P c × (same (wanted c.chunk) true_term ≡ true)) → P c × (same (wanted c.chunk) true_term ≡ true)
    go true k e rest = subst (λ (x : Candidate). P x × (same (wanted x.chunk) true_term ≡ true)) (some_is_it e) (h.0, k)
    go false k e rest = rest e

module _ (means : Meaning) (world : World) where
  abbrev p : Program
  p = world.program

  -- what a location's chunks say of its value
  module _ (n : ℕ) (i : Interpretation) (heap : run.Heap) (f : Name) (r : Term) (k : ℕ) (g : Good means n i r RefSort) (e : value i r ≡ element (RefValue k)) where
    pub value_facts_hold : (u : Term) → Good means n i u (field_sort p f) → value i u ≡ element (run.value_at p heap (at_field k f)) → (cs : List Candidate) →
        Each (λ (c : Candidate). OfField means world n i heap f c.chunk) cs → Each (λ t. Good means n i t BoolSort × IsTrueIn i t) (value_facts r u cs)
    value_facts_hold u gu v [] h = tt
    value_facts_hold u gu v (c ∷ cs) h =
        let d = c.chunk in
        let keys : Keys means world n i (field_key f r) (run.At (at_field k f)) (field_sort p f) = of_field f r k g e in
        let gs = good_some means world keys d h.0.kind h.0.resource h.0.stands in
        let gv : Good means n i d.value (field_sort p f) = subst (λ x. Good means n i d.value (field_sort p x)) h.0.resource (subst (λ b. Good means n i d.value (content_sort p b d.resource)) h.0.kind h.0.stands.content) in
        let ge = good_equals means gu gv in (
          (
            good_implies means gs ge,
            if_true means gs ge (λ t.
                let m = some_is means world keys d h.0.kind h.0.resource h.0.stands t in
                is_equal i u d.value (v ∙ sym (subst (λ x. IsThere p heap x (value i d.value)) m.0 (h.0.stands.content_is m.1)))),
          ),
          value_facts_hold u gu v cs h.1,
        )

  -- the term that is read, and the state behind it
  pub record ReadAt (scope : Scope) (f : Name) (k : ℕ) (i : Interpretation) (n : ℕ) (c : run.State) (on : Giving) : Type 0 where
    pub interp : Interpretation
    pub state : rules.State
    pub term : Term
    pub extends : Extends means n i interp
    pub later : n ≤ state.next
    pub stands : Stands means world scope interp state c
    pub good : Good means state.next interp term (field_sort p f)
    pub value_is : value interp term ≡ element (run.value_at p c.heap (at_field k f))
    pub positive : Positive (run.amount c.holdings (run.At (at_field k f)))
    pub cleared : Cleared (on term state)

  -- a fresh symbol has the value there, and the facts on it hold
  read_fresh : {scope : Scope} {i : Interpretation} {s : rules.State} {c : run.State} (f : Name) (r : Term) (k : ℕ) (on : Giving) → Stands means world scope i s c → Good means s.next i r RefSort → value i r ≡ element (RefValue k) →
      Positive (run.amount c.holdings (run.At (at_field k f))) →
      Cleared (on (rules.fresh (field_sort p f) s) (with_value r (rules.fresh (field_sort p f) s) (candidates (field_key f r) s.heap) s)) → ReadAt scope f k i s.next c on
  read_fresh {scope = scope} {i = i} {s = s} {c = c} f r k on st g e pos h = record {
    interp = with_symbol means i s.next (element v);
    state = with_value r (rules.fresh (field_sort p f) s) (candidates (field_key f r) s.heap) s;
    term = rules.fresh (field_sort p f) s;
    extends = ext;
    later = subst (λ m. s.next ≤ m) (sym after) le;
    stands = facts_stand means world (value_facts r (rules.fresh (field_sort p f) s) (candidates (field_key f r) s.heap)) (rules.after_fresh s) st'
        (value_facts_hold (suc s.next) (with_symbol means i s.next (element v)) c.heap f r k (good_later means le ext g) (value_kept means r g.settled ext ∙ e) (rules.fresh (field_sort p f) s) gu is
        (candidates (field_key f r) s.heap) (candidates_are means world (suc s.next) (with_symbol means i s.next (element v)) c.heap f r k (good_later means le ext g) (value_kept means r g.settled ext ∙ e) s.heap st'.heap.each));
    good = subst (λ m. Good means m (with_symbol means i s.next (element v)) (rules.fresh (field_sort p f) s) (field_sort p f)) (sym after) gu;
    value_is = is;
    positive = pos;
    cleared = h;
  }
    where
      v : Value
      v = run.value_at p c.heap (at_field k f)

      le : s.next ≤ suc s.next
      le = le_of_lt (lt-suc_self s.next)

      ext : Extends means s.next i (with_symbol means i s.next (element (run.value_at p c.heap (at_field k f))))
      ext = symbol_extends means i s.next (element (run.value_at p c.heap (at_field k f)))

      st' : Stands means world scope (with_symbol means i s.next (element (run.value_at p c.heap (at_field k f)))) (rules.after_fresh s) c
      st' = stands_later means world (suc s.next) le ext st

      gu : Good means (suc s.next) (with_symbol means i s.next (element (run.value_at p c.heap (at_field k f)))) (rules.fresh (field_sort p f) s) (field_sort p f)
      gu = good_fresh means world i s.next (element (run.value_at p c.heap (at_field k f))) (field_sort p f)

      of_sort : IsOf (field_sort p f) (element (run.value_at p c.heap (at_field k f)))
      of_sort = subst (λ a. IsOf a (element (run.value_at p c.heap (at_field k f)))) (ap rules.sort_of_type (value_typed p c.heap (at_field k f)) ∙ sym (sort_of_field p f)) (element_is (run.value_at p c.heap (at_field k f)))

      is : value (with_symbol means i s.next (element (run.value_at p c.heap (at_field k f)))) (rules.fresh (field_sort p f) s) ≡ element (run.value_at p c.heap (at_field k f))
      is = fresh_value means i s.next (element (run.value_at p c.heap (at_field k f))) (field_sort p f) of_sort

      after : (with_value r (rules.fresh (field_sort p f) s) (candidates (field_key f r) s.heap) s).next ≡ suc s.next
      after = next_after_facts means world (value_facts r (rules.fresh (field_sort p f) s) (candidates (field_key f r) s.heap)) (rules.after_fresh s)

  pub read_one : {scope : Scope} {i : Interpretation} {s : rules.State} {c : run.State} (f : Name) (r : Term) (k : ℕ) (at : Place) (on : Giving) →
      Stands means world scope i s c → Good means s.next i r RefSort → value i r ≡ element (RefValue k) → Cleared (read_field f r (field_sort p f) at s on) → ReadAt scope f k i s.next c on
  read_one {scope = scope} {i = i} {s = s} {c = c} f r k at on st g e h = cleared_case (rules.is_quiet s) _ _ h
      (λ q m. absurd (true≢false (sym q ∙ st.awake)))
      (λ q m. go (surely (holds_some (r ∷ [])) (chosen true (field_key f r) 0 s.heap)) refl m)
    where
      summed : Going
      summed s1 = on (rules.fresh (field_sort p f) s1) (with_value r (rules.fresh (field_sort p f) s1) (candidates (field_key f r) s1.heap) s1)

      by_asking : IsTrueIn i (less zero_amount (sum_at r (candidates (field_key f r) s.heap))) × Goes means world scope i s.next summed c → ReadAt scope f k i s.next c on
      by_asking (told, goes) =
          let m = sum_is means world s.next i c.heap f r k g e (candidates (field_key f r) s.heap) (candidates_are means world s.next i c.heap f r k g e s.heap st.heap.each) in
          let pos : Positive (run.amount c.holdings (run.At (at_field k f))) = positive-le (true_positive means m.good told) (le-trans m.is.there (le-trans (parts_below means world s.next i c.heap f r k g e s.heap st.heap.each) (st.heap.sums (run.At (at_field k f))))) in
          let q = read_fresh f r k on goes.stands (good_later means goes.later goes.extends g) (value_kept means r g.settled goes.extends ∙ e) pos goes.cleared in
          record {
            interp = q.interp;
            state = q.state;
            term = q.term;
            extends = extends-trans means goes.later goes.extends q.extends;
            later = le_trans goes.later q.later;
            stands = q.stands;
            good = q.good;
            value_is = q.value_is;
            positive = q.positive;
            cleared = q.cleared;
          }

      go : (o : Option Candidate) → surely (holds_some (r ∷ [])) (chosen true (field_key f r) 0 s.heap) ≡ o →
          Cleared (elim o as (λ o. Tree) [ Some d ↦ Step (on d.chunk.value s) | None ↦ ask (less zero_amount (sum_at r (candidates (field_key f r) s.heap))) at PermissionCode s summed ]) → ReadAt scope f k i s.next c on
      go (Some d) o m =
          let x = surely_is (holds_some (r ∷ [])) (IsPlace (field_key f r) s.heap) (chosen true (field_key f r) 0 s.heap) d (matching_places (field_key f r) s.heap) o in
          let a = taken_apart means world s.next i c.heap x.0 st.heap in
          let keys : Keys means world s.next i (field_key f r) (run.At (at_field k f)) (field_sort p f) = of_field f r k g e in
          let is = some_is means world keys d.chunk x.0.kind x.0.resource a.chunk (subst (IsTrueIn i) (sym (term_is (holds_some (r ∷ []) d.chunk) true_term x.1)) refl) in
          record {
            interp = i;
            state = s;
            term = d.chunk.value;
            extends = extends-refl means s.next i;
            later = le_refl _;
            stands = st;
            good = subst (λ y. Good means s.next i d.chunk.value (field_sort p y)) x.0.resource (subst (λ b. Good means s.next i d.chunk.value (content_sort p b d.chunk.resource)) x.0.kind a.chunk.content);
            value_is = subst (λ y. IsThere p c.heap y (value i d.chunk.value)) is.0 (a.chunk.content_is is.1);
            positive = subst (λ y. Positive (run.amount c.holdings y)) is.0 (positive-le is.1 (chunk_held means world s.next i c.heap x.0 st.heap));
            cleared = m;
          }
      go None o m =
          let good = (sum_is means world s.next i c.heap f r k g e (candidates (field_key f r) s.heap) (candidates_are means world s.next i c.heap f r k g e s.heap st.heap.each)).good in
          by_asking (asked means world (less zero_amount (sum_at r (candidates (field_key f r) s.heap))) at PermissionCode summed st (good_positive means good) m)
