-- A new reference: the facts that tell it from others, and the chunks of its fields.
use Rattle.std.proofs.Common.{◌≡◌, ◌≢◌, ℕ, suc, ◌≤◌, Bool, true, false, cond, ◌||◌, List, [], ◌∷◌, ◌++◌, Some, refl, sym, ◌∙◌, ap, subst, le_trans, le_of_lt, lt-suc_self, true≢false}
use Rattle.vx_frac.specs.Fractions.{none, full, sum}
use Rattle.vx_ast.specs.declared.ValueType.TheVariants as type
use Rattle.vx_ast.specs.Syntax.{Name, same_name, Program}
use Rattle.vx_ast.specs.Mentions.{is_among}
use Rattle.vx_meaning.specs.Values.{Value, IntValue, BoolValue, RefValue, PermValue}
use Rattle.vx_meaning.specs.States as run
use Rattle.vx_meaning.specs.Consistent.{total, IsHeld, Changes}
use Rattle.vx_meaning.specs.Run.{IsFresh, new_fields}
use Rattle.vx_terms.specs.Sorts.{BoolSort, RefSort}
use Rattle.vx_terms.specs.Terms.{Term, sort_of}
use Rattle.vx_terms.specs.Build.{implies, less, null, zero_amount, whole_amount}
use Rattle.vx_terms.specs.Interpretations.{Each, Interpretation, value, IsTrueIn}
use Rattle.vx_terms.proofs.Same.{sort_is}
use Rattle.vx_terms.proofs.Values.{sort_of_formed}
use Rattle.vx_rules.specs.States as rules
use Rattle.vx_rules.specs.Chunks.{first_argument}
use Rattle.vx_rules.specs.Rules.{Going}
use Rattle.vx_rules.specs.Members.{is_ref, unlike, unlike_stored, unlike_chunk, unlike_held, distinct, put_fields}
use Rattle.vx_types.specs.Typing.{Scope, type_in, AreDistinct, AreOnce}
use Rattle.vx_sound.proofs.World.{at_field, World, Changing}
use Rattle.vx_sound.proofs.Candidates.{of_field}
use Rattle.vx_sound.proofs.Passes.{Cleared}
use Rattle.vx_elements.proofs.Settled.{Meaning, Extends, extends-trans, with_symbol, symbol_extends, value_kept, fresh_value}
use Rattle.vx_elements.proofs.Built.{Good, good_later, good_negate, good_implies, good_equals}
use Rattle.vx_elements.proofs.Elements.{element}
use Rattle.vx_amounts.proofs.Amounts.{Le, Positive, Same, le-trans, same-refl, same-trans, sum_same, none-full, positive-or, positive-le}
use Rattle.vx_elements.proofs.Truth.{equal_is, denied, if_true, true_positive, good_positive, good_null, good_whole}
use Rattle.vx_sound.proofs.Stands.{ref_of, location_of, resource_of, amount_of, IsThere, StoreStands, ChunkStands, Stands, stands_later, store_assign, facts_stand, next_after_facts, unowned}
use Rattle.vx_sound.proofs.Chunks.{location_is, held_directly, field_resource}
use Rattle.vx_sound.proofs.Puts.{all_held, heap_changed}
use Rattle.vx_sound.proofs.Goes.{Goes, here, goes_after, good_fresh}
use Rattle.vx_sound.proofs.Giving.{put_fresh}
use Rattle.vx_sound.proofs.Once.{NotStored, names_once, not_stored}
use Rattle.vx_elements.proofs.Lists.{each_append, name_same}

-- the value of a reference's element
pub ref_element : (v : Value) (r : ℕ) → element v ≡ element (RefValue r) → v ≡ RefValue r
ref_element (RefValue a) r e = ap (λ x. RefValue (ref_of x)) e
ref_element (IntValue z) r e = cc
ref_element (BoolValue b) r e = cc
ref_element (PermValue a) r e = cc

-- the fields one after the other
abbrev pub put_in : ℕ → List Name → run.Holdings → run.Holdings
put_in r [] h = h
put_in r (f ∷ fs) h = put_in r fs (run.gained (run.At (at_field r f)) full h)

-- holdings of the same amounts
abbrev Alike : run.Holdings → run.Holdings → Type 0
Alike g h = (r : run.Resource) → Same (run.amount g r) (run.amount h r)

gained_alike : (g h : run.Holdings) (k : run.Location) → Alike g h → Alike (run.gained (run.At k) full g) (run.gained (run.At k) full h)
gained_alike g h k s l = go (run.same_resource l (run.At k))
  where
    go : (b : Bool) → Same (cond b (sum full (run.amount g l)) (run.amount g l)) (cond b (sum full (run.amount h l)) (run.amount h l))
    go true = sum_same (same-refl full) (s l)
    go false = s l

swapped : (h : run.Holdings) (j k : run.Location) → Alike (run.gained (run.At j) full (run.gained (run.At k) full h)) (run.gained (run.At k) full (run.gained (run.At j) full h))
swapped h j k l = go (run.same_resource l (run.At j)) (run.same_resource l (run.At k))
  where
    go : (a b : Bool) → Same (cond a (sum full (cond b (sum full (run.amount h l)) (run.amount h l))) (cond b (sum full (run.amount h l)) (run.amount h l)))
        (cond b (sum full (cond a (sum full (run.amount h l)) (run.amount h l))) (cond a (sum full (run.amount h l)) (run.amount h l)))
    go true true = same-refl _
    go true false = same-refl _
    go false true = same-refl _
    go false false = same-refl _

moved : (r : ℕ) (fs : List Name) (k : run.Location) (h : run.Holdings) → Alike (new_fields r fs (run.gained (run.At k) full h)) (run.gained (run.At k) full (new_fields r fs h))
moved r [] k h l = same-refl _
moved r (f ∷ fs) k h l = same-trans (gained_alike (new_fields r fs (run.gained (run.At k) full h)) (run.gained (run.At k) full (new_fields r fs h)) (at_field r f) (moved r fs k h) l) (swapped (new_fields r fs h) (at_field r f) k l)

pub put_alike : (r : ℕ) (fs : List Name) (h : run.Holdings) → Alike (put_in r fs h) (new_fields r fs h)
put_alike r [] h l = same-refl _
put_alike r (f ∷ fs) h l = same-trans (put_alike r fs (run.gained (run.At (at_field r f)) full h) l) (moved r fs (at_field r f) h l)

-- what isn't given stays without
still_none : (p : Program) (heap : run.Heap) (n : ℕ) (r : ℕ) (f g : Name) (fs : List Name) (h : run.Holdings) → is_among f fs ≡ false → is_among g fs ≡ true → Le (total p n heap h (at_field r g)) none →
    Le (total p n heap (run.gained (run.At (at_field r f)) full h) (at_field r g)) none
still_none p heap n r f g fs h no_f yes_g z = go (run.same_location (at_field r g) (at_field r f)) refl
  where
    go : (x : Bool) → run.same_location (at_field r g) (at_field r f) ≡ x → Le (cond x (sum full (total p n heap h (at_field r g))) (total p n heap h (at_field r g))) none
    go true e = absurd (true≢false (sym (subst (λ x. is_among x fs ≡ true) (ap (λ (l : run.Location). l.field) (location_is (at_field r g) (at_field r f) e)) yes_g) ∙ no_f))
    go false e = z

-- nor does a field that is none of them
other_none : (p : Program) (heap : run.Heap) (n : ℕ) (r : ℕ) (g : Name) (fs : List Name) (h : run.Holdings) → is_among g fs ≡ false → Le (total p n heap h (at_field r g)) none → Le (total p n heap (new_fields r fs h) (at_field r g)) none
other_none p heap n r g [] h e z = z
other_none p heap n r g (f ∷ fs) h e z = go (same_name g f) refl e (λ e. other_none p heap n r g fs h e z)
  where
    apart : same_name g f ≡ false → Le (total p n heap (new_fields r fs h) (at_field r g)) none → (x : Bool) → run.same_location (at_field r g) (at_field r f) ≡ x →
        Le (cond x (sum full (total p n heap (new_fields r fs h) (at_field r g))) (total p n heap (new_fields r fs h) (at_field r g))) none
    apart k rest true m = absurd (true≢false (sym (subst (λ x. same_name g x ≡ true) (ap (λ (l : run.Location). l.field) (location_is (at_field r g) (at_field r f) m)) (name_same g)) ∙ k))
    apart k rest false m = rest

    go : (b : Bool) → same_name g f ≡ b → (b || is_among g fs) ≡ false → (is_among g fs ≡ false → Le (total p n heap (new_fields r fs h) (at_field r g)) none) → Le (total p n heap (run.gained (run.At (at_field r f)) full (new_fields r fs h)) (at_field r g)) none
    go true k e rest = absurd (true≢false e)
    go false k e rest = apart k (rest e) (run.same_location (at_field r g) (at_field r f)) refl

among_more : (f g : Name) (fs : List Name) → is_among g fs ≡ true → is_among g (f ∷ fs) ≡ true
among_more f g fs e = go (same_name g f)
  where
    go : (b : Bool) → (b || is_among g fs) ≡ true
    go true = refl
    go false = e

among_first : (f : Name) (fs : List Name) → is_among f (f ∷ fs) ≡ true
among_first f fs = ap (λ b. b || is_among f fs) (name_same f)

module _ (means : Meaning) (world : World) where
  abbrev p : Program
  p = world.program

  module _ (n : ℕ) (i : Interpretation) (r : ℕ) (x : Term) (gx : Good means n i x RefSort) (x_is : value i x ≡ element (RefValue r)) where
    abbrev Fact : Term → Type 0
    Fact t = Good means n i t BoolSort × IsTrueIn i t

    unlike_fact : (t : Term) → Good means n i t RefSort → (value i t ≡ element (RefValue r) → ⊥) → Fact (unlike x t)
    unlike_fact t g h = let ge = good_equals means gx g in (good_negate means ge, denied means ge (λ e. h (sym (equal_is i x t e) ∙ x_is)))

    unlike_if : (a t : Term) → Good means n i a BoolSort → Good means n i t RefSort → (IsTrueIn i a → value i t ≡ element (RefValue r) → ⊥) → Fact (implies a (unlike x t))
    unlike_if a t ga g h =
        let ge = good_equals means gx g in
        let gn = good_negate means ge in
        (good_implies means ga gn, if_true means ga gn (λ k. denied means ge (λ e. h k (sym (equal_is i x t e) ∙ x_is))))

    stored_facts : (scope : Scope) (xs : rules.Store) (ys : run.Store) → StoreStands means world n i scope xs ys → NotStored r ys → Each Fact (unlike_stored x (rules.terms_in xs))
    stored_facts [] [] [] h k = tt
    stored_facts (d ∷ ds) (a ∷ xs) (b ∷ ys) h k = go (is_ref a.1) refl (stored_facts ds xs ys h.1 k.1)
      where
        go : (z : Bool) → is_ref a.1 ≡ z → Each Fact (unlike_stored x (rules.terms_in xs)) → Each Fact (cond z (unlike x a.1 ∷ unlike_stored x (rules.terms_in xs)) (unlike_stored x (rules.terms_in xs)))
        go true e rest =
            let s = sym (sort_of_formed h.0.good.formed) ∙ sort_is (sort_of a.1) RefSort e in
            (unlike_fact a.1 (subst (λ s. Good means n i a.1 s) s h.0.good) (λ m. k.0 (ref_element b.1 r (sym h.0.value_is ∙ m))), rest)
        go false e rest = rest
    stored_facts [] [] (b ∷ ys) h k = absurd h
    stored_facts [] (a ∷ xs) ys h k = absurd h
    stored_facts (d ∷ ds) [] ys h k = absurd h
    stored_facts (d ∷ ds) (a ∷ xs) [] h k = absurd h

    module _ (heap : run.Heap) (holdings : run.Holdings) (apart : (l : run.Location) → IsHeld p heap holdings l → (l.receiver ≢ r) × (run.value_at p heap l ≢ RefValue r)) where
      chunk_facts : (c : rules.Chunk) → c.is_field ≡ true → ChunkStands means world n i heap c → Le (amount_of i c) (run.amount holdings (resource_of i c)) → Each Fact (unlike_chunk x c)
      chunk_facts c kind k le = (
        unlike_if (less zero_amount c.amount) (first_argument c.arguments) gp (k.field kind).receiver (λ h e. (apart (location_of i c) (is_held h)).0 (ap ref_of e)),
        go (is_ref c.value) refl,
      )
        where
          gp : Good means n i (less zero_amount c.amount) BoolSort
          gp = good_positive means k.amount

          there : IsTrueIn i (less zero_amount c.amount) → IsThere p heap (run.At (location_of i c)) (value i c.value)
          there h = subst (λ r. IsThere p heap r (value i c.value)) (field_resource i c kind) (k.content_is (true_positive means k.amount h))

          is_held : IsTrueIn i (less zero_amount c.amount) → IsHeld p heap holdings (location_of i c)
          is_held h = held_directly p heap holdings (location_of i c) (subst (λ r. Positive (run.amount holdings r)) (field_resource i c kind) (positive-le (true_positive means k.amount h) le))

          go : (z : Bool) → is_ref c.value ≡ z → Each Fact (cond z (implies (less zero_amount c.amount) (unlike x c.value) ∷ []) [])
          go true e =
              let s = sym (sort_of_formed k.content.formed) ∙ sort_is (sort_of c.value) RefSort e in (
                unlike_if (less zero_amount c.amount) c.value gp (subst (λ s. Good means n i c.value s) s k.content)
                    (λ h m. (apart (location_of i c) (is_held h)).1 (ref_element (run.value_at p heap (location_of i c)) r (sym (there h) ∙ m))),
                tt,
              )
          go false e = tt

      held_facts : (cs : rules.Heap) → Each (ChunkStands means world n i heap) cs → Each (λ (c : rules.Chunk). Le (amount_of i c) (run.amount holdings (resource_of i c))) cs → Each Fact (unlike_held x cs)
      held_facts [] h s = tt
      held_facts (c ∷ cs) h s = go c.is_field refl (held_facts cs h.1 s.1)
        where
          go : (z : Bool) → c.is_field ≡ z → Each Fact (unlike_held x cs) → Each Fact (cond z (unlike_chunk x c ++ unlike_held x cs) (unlike_held x cs))
          go true kind rest = each_append Fact (unlike_chunk x c) (unlike_held x cs) (chunk_facts c kind h.0 s.0) rest
          go false kind rest = rest

  module _ (changing : Changing world) where
    -- the whole of each field
    put_all : (fs : List Name) (x : Term) (r : ℕ) → r ≢ 0 → AreDistinct fs → {scope : Scope} {i : Interpretation} {s : rules.State} {c : run.State} (on : Going) → Stands means world scope i s c → Good means s.next i x RefSort → value i x ≡ element (RefValue r) →
        ((f : Name) → is_among f fs ≡ true → (n : ℕ) → Le (total p n c.heap c.holdings (at_field r f)) none) → Cleared (on (put_fields p fs x s)) → Goes means world scope i s.next on (run.with_holdings (put_in r fs c.holdings) c)
    put_all [] x r n d on st g is z h = here means world on st h
    put_all (f ∷ fs) x r n d {scope = scope} {c = c} on st g is z h =
        let next = λ (s1 : rules.State). on (put_fields p fs x s1) in
        let holds = changing.created c.heap c.holdings (at_field r f) st.holds n (z f (among_first f fs)) in
        let m = put_fresh means world (of_field f x r g is) whole_amount full false next st (good_whole means) (same-refl full) none-full holds (λ e. absurd (true≢false (sym e))) h in
        goes_after means world {on = on} m (put_all fs x r n d.1 on m.stands (good_later means m.later m.extends g) (value_kept means x g.settled m.extends ∙ is)
        (λ k e n. still_none p c.heap n r f k fs c.holdings d.0 e (z k (among_more f k fs e) n)) m.cleared)

    holds_fields : (fs : List Name) (r : ℕ) → r ≢ 0 → AreDistinct fs → (heap : run.Heap) (hs : run.Holdings) → world.Holds heap hs → ((f : Name) → is_among f fs ≡ true → (n : ℕ) → Le (total p n heap hs (at_field r f)) none) → world.Holds heap (new_fields r fs hs)
    holds_fields [] r n d heap hs st z = st
    holds_fields (f ∷ fs) r n d heap hs st z =
        changing.created heap (new_fields r fs hs) (at_field r f) (holds_fields fs r n d.1 heap hs st (λ k e. z k (among_more f k fs e))) n (λ m. other_none p heap m r f fs hs d.0 (z f (among_first f fs) m))

    -- a new reference, in a heap that keeps what is held
    pub new_goes : {scope : Scope} {i : Interpretation} {s : rules.State} {c : run.State} (x : Name) (fs : List Name) (heap : run.Heap) (r : ℕ) (on : Going) → AreOnce scope → type_in x scope ≡ Some type.Ref → AreDistinct fs → Changes p c heap → IsFresh p c r → Stands means world scope i s c →
        Cleared (on (rules.with_store (rules.assign x (rules.fresh RefSort s) (put_fields p fs (rules.fresh RefSort s) (rules.with_facts (distinct (rules.fresh RefSort s) s) (rules.after_fresh s))).store)
        (put_fields p fs (rules.fresh RefSort s) (rules.with_facts (distinct (rules.fresh RefSort s) s) (rules.after_fresh s))))) →
        Goes means world scope i s.next on (run.with_holdings (new_fields r fs c.holdings) (run.with_store (run.assign x (RefValue r) c.store) (run.with_heap heap c)))
    new_goes {scope = scope} {i = i} {s = s} {c = c} x fs heap r on once t d kept fresh st h =
        record {
          interp = m.interp;
          state = rules.with_store (rules.assign x v m.state.store) m.state;
          extends = extends-trans means le ext extends';
          later = le_trans le (subst (λ k. k ≤ m.state.next) next_is m.later);
          stands = record {
            store = store_assign means world x type.Ref v (RefValue r) scope m.state.store c.store m.stands.store t refl
                (good_later means (subst (λ k. k ≤ m.state.next) next_is m.later) extends' gv) (value_kept means v gv.settled extends' ∙ v_is);
            path = m.stands.path;
            heap = record { each = m.stands.heap.each; sums = λ l. le-trans (m.stands.heap.sums l) (put_alike r fs c.holdings l).there };
            old = m.stands.old;
            awake = m.stands.awake;
            bounded = m.stands.bounded;
            null = m.stands.null;
            standard = m.stands.standard;
            owned = unowned means world _ _ _ _ _ _ _ world.own changing.of_no_function m.stands.owned;
            marked = m.stands.marked;
            holds = holds_fields fs r fresh.not_null d heap c.holdings changed.holds unheld;
            old_holds = m.stands.old_holds;
          };
          cleared = m.cleared;
        }
      where
        v : Term
        v = rules.fresh RefSort s

        j : Interpretation
        j = with_symbol means i s.next (element (RefValue r))

        ext : Extends means s.next i j
        ext = symbol_extends means i s.next (element (RefValue r))

        le : s.next ≤ suc s.next
        le = le_of_lt (lt-suc_self s.next)

        gv : Good means (suc s.next) j (rules.fresh RefSort s) RefSort
        gv = good_fresh means world i s.next (element (RefValue r)) RefSort

        v_is : value j (rules.fresh RefSort s) ≡ element (RefValue r)
        v_is = fresh_value means i s.next (element (RefValue r)) RefSort tt

        -- before the heap changes
        before : Stands means world scope j (rules.after_fresh s) c
        before = stands_later means world (suc s.next) le ext st

        changed : Stands means world scope j (rules.after_fresh s) (run.with_heap heap c)
        changed = record {
          store = before.store;
          path = before.path;
          heap = heap_changed means world changing (suc s.next) j s.heap c heap before.heap before.holds kept;
          old = before.old;
          awake = before.awake;
          bounded = before.bounded;
          null = before.null;
          standard = before.standard;
          owned = unowned means world _ _ _ _ _ _ _ world.own changing.of_no_function before.owned;
          marked = before.marked;
          holds = changing.changed c heap kept before.holds;
          old_holds = before.old_holds;
        }

        facts : Each (λ (t : Term). Good means (suc s.next) j t BoolSort × IsTrueIn j t) (distinct (rules.fresh RefSort s) s)
        facts = (
          unlike_fact (suc s.next) j r v gv v_is null (good_null means) (λ e. fresh.not_null (sym (ap ref_of (sym before.null ∙ e)))),
          each_append (Fact (suc s.next) j r v gv v_is) (unlike_stored v (rules.terms_in s.store) ++ unlike_held v s.heap) (unlike_held v s.old)
              (each_append (Fact (suc s.next) j r v gv v_is) (unlike_stored v (rules.terms_in s.store)) (unlike_held v s.heap)
              (stored_facts (suc s.next) j r v gv v_is scope s.store c.store before.store (not_stored r c.store (names_once means world s.next i scope s.store c.store once st.store) fresh.not_stored))
              (held_facts (suc s.next) j r v gv v_is c.heap c.holdings fresh.not_held s.heap before.heap.each (all_held means world (suc s.next) j c.heap c.holdings s.heap before.heap)))
              (held_facts (suc s.next) j r v gv v_is c.old_heap c.old_holdings fresh.not_held_before s.old before.old.each (all_held means world (suc s.next) j c.old_heap c.old_holdings s.old before.old)),
        )

        told : Stands means world scope j (rules.with_facts (distinct (rules.fresh RefSort s) s) (rules.after_fresh s)) (run.with_heap heap c)
        told = facts_stand means world (distinct v s) (rules.after_fresh s) changed facts

        next_is : (rules.with_facts (distinct (rules.fresh RefSort s) s) (rules.after_fresh s)).next ≡ suc s.next
        next_is = next_after_facts means world (distinct v s) (rules.after_fresh s)

        -- nothing is held there, before the change and after it
        never_held : (n : ℕ) (f : Name) → Le (total p n c.heap c.holdings (at_field r f)) none
        never_held n f = positive-or (total p n c.heap c.holdings (at_field r f)) (λ q. absurd ((fresh.not_held (at_field r f) (n, q.holds)).0 refl)) (λ q. q)

        unheld : (f : Name) → is_among f fs ≡ true → (n : ℕ) → Le (total p n heap c.holdings (at_field r f)) none
        unheld f e n = let k = changing.changed_total c heap kept before.holds n (at_field r f) in le-trans k.1 (never_held k.0 f)

        m : Goes means world scope j (rules.with_facts (distinct (rules.fresh RefSort s) s) (rules.after_fresh s)).next (λ s1. on (rules.with_store (rules.assign x (rules.fresh RefSort s) s1.store) s1)) (run.with_holdings (put_in r fs c.holdings) (run.with_heap heap c))
        m = put_all fs v r fresh.not_null d (λ s1. on (rules.with_store (rules.assign x (rules.fresh RefSort s) s1.store) s1)) told
            (subst (λ k. Good means k j (rules.fresh RefSort s) RefSort) (sym next_is) gv) v_is unheld h

        extends' : Extends means (suc s.next) j m.interp
        extends' = subst (λ k. Extends means k j m.interp) next_is m.extends
