-- A new reference backwards as a statement, with the whole of its fields.
use Rattle.std.proofs.Common.{◌≡◌, ◌≢◌, inr, ℕ, suc, ◌≤◌, Bool, true, false, not, cond, List, [], ◌∷◌, refl, sym, ◌∙◌, ap, subst, le_refl, le_trans}
use Rattle.vx_frac.specs.Fractions.{full, sum}
use Rattle.vx_ast.specs.declared.Place.{Place}
use Rattle.vx_ast.specs.declared.ValueType.TheVariants as type
use Rattle.vx_ast.specs.Syntax.{Name, Program, New}
use Rattle.vx_meaning.specs.Values.{RefValue}
use Rattle.vx_meaning.specs.States as run
use Rattle.vx_meaning.specs.Run.{new_fields, IsFresh}
use Rattle.vx_meaning.specs.Run as meaning
use Rattle.vx_terms.specs.Sorts.{BoolSort, RefSort}
use Rattle.vx_terms.specs.Terms.{Term, same}
use Rattle.vx_terms.specs.Build.{variable, whole_amount, zero_amount}
use Rattle.vx_terms.specs.Interpretations.{Each, Interpretation, value, IsTrueIn, AllTrue}
use Rattle.vx_rules.specs.States as rules
use Rattle.vx_rules.specs.Trees.{Code}
use Rattle.vx_rules.specs.Chunks.{field_key, chosen, put_over, put_facts, put}
use Rattle.vx_rules.specs.Rules.{Going, Outer, field_sort}
use Rattle.vx_rules.specs.Members.{distinct, put_fields}
use Rattle.vx_types.specs.Typing.{Scope, AreFields}
use Rattle.vx_elements.proofs.Settled.{Meaning, extends-refl}
use Rattle.vx_elements.proofs.Built.{Good, good_later}
use Rattle.vx_elements.proofs.Elements.{element}
use Rattle.vx_elements.proofs.Lists.{each_both}
use Rattle.vx_elements.proofs.Values.{sort_of_field}
use Rattle.vx_elements.proofs.Truth.{good_whole}
use Rattle.vx_amounts.proofs.Amounts.{Positive, Same, le-trans, same-refl, none-full, positive-le, below-add}
use Rattle.vx_grows.proofs.Later.{fields_later}
use Rattle.vx_grows.proofs.GrowSteps.{Follows, earlier}
use Rattle.vx_grows.proofs.GrowParts.{OuterGrows}
use Rattle.vx_sound.proofs.World.{at_field}
use Rattle.vx_sound.proofs.Chunks.{location_is, held_directly}
use Rattle.vx_sound.proofs.Fields.{fields_world, OnlyLocations}
use Rattle.vx_sound.proofs.Stands.{store_assign, next_after_facts, facts_stand}
use Rattle.vx_sound.proofs.Fresh.{put_in, put_alike}
use Rattle.vx_sound.proofs.Giving.{next_after_put}
use Rattle.vx_real.specs.Exposed.{Exposed}
use Rattle.vx_real.proofs.Exactly.{Exact}
use Rattle.vx_real.proofs.SumReads.{facts_true, heap_after_facts, old_after_facts, at_after_facts}
use Rattle.vx_real.proofs.Backwards.{AgreeOn, over, become, keeping_leads}
use Rattle.vx_real.proofs.Matched.{HasReferences, Matches, ExecReal}
use Rattle.vx_real.proofs.Grown.{keeps}
use Rattle.vx_real.proofs.PutsMatch.{PutReal, put_matches}
use Rattle.vx_real.proofs.Symbols.{symbol, good_symbol, next_later, matches_fresh, matches_store, before_true}
use Rattle.vx_real.proofs.Creating.{is_fresh, distinct_good}

-- other receivers have what they had
new_elsewhere : (r : ℕ) (fs : List Name) (hs : run.Holdings) (l : run.Location) → l.receiver ≢ r → run.amount (new_fields r fs hs) (run.At l) ≡ run.amount hs (run.At l)
new_elsewhere r [] hs l n = refl
new_elsewhere r (f ∷ fs) hs l n = go (run.same_location l (at_field r f)) refl (new_elsewhere r fs hs l n)
  where
    go : (b : Bool) → run.same_location l (at_field r f) ≡ b → run.amount (new_fields r fs hs) (run.At l) ≡ run.amount hs (run.At l) →
        cond b (sum full (run.amount (new_fields r fs hs) (run.At l))) (run.amount (new_fields r fs hs) (run.At l)) ≡ run.amount hs (run.At l)
    go true e next = absurd (n (ap (λ (x : run.Location). x.receiver) (location_is l (at_field r f) e)))
    go false e next = next

new_only : (r : ℕ) (fs : List Name) (hs : run.Holdings) → OnlyLocations hs → OnlyLocations (new_fields r fs hs)
new_only r [] hs k = k
new_only r (f ∷ fs) hs k = new_only r fs hs k

-- what is held stays so where more is
more_held : (l m : run.Location) (hs : run.Holdings) → Positive (run.amount hs (run.At l)) → Positive (run.amount (run.gained (run.At m) full hs) (run.At l))
more_held l m hs pos = go (run.same_location l m)
  where
    go : (b : Bool) → Positive (cond b (sum full (run.amount hs (run.At l))) (run.amount hs (run.At l)))
    go true = positive-le pos (below-add (run.amount hs (run.At l)) none-full)
    go false = pos

module _ (means : Meaning) (p : Program) (i : Interpretation) where
  -- other holdings of the same amounts
  matches_alike : {scope : Scope} {s : rules.State} {c : run.State} (hs : run.Holdings) → ((r : run.Resource) → Same (run.amount c.holdings r) (run.amount hs r)) → OnlyLocations hs → Matches means p i scope s c → Matches means p i scope s (run.with_holdings hs c)
  matches_alike {s = s} {c = c} hs alike only m = record {
    stands = record {
      store = m.stands.store;
      path = m.stands.path;
      heap = record { each = m.stands.heap.each; sums = λ r. le-trans (m.stands.heap.sums r) (alike r).there };
      old = m.stands.old;
      awake = m.stands.awake;
      bounded = m.stands.bounded;
      null = m.stands.null;
      standard = m.stands.standard;
      owned = m.stands.owned;
      marked = m.stands.marked;
      holds = record {
        limited = record { most = λ e l. le-trans (alike (run.At l)).back (m.stands.holds.limited.most e l); null = λ f. le-trans (alike (run.At (at_field 0 f))).back (m.stands.holds.limited.null f) };
        only = only;
      };
      old_holds = m.stands.old_holds;
    };
    exact = record { each = m.exact.each; all = λ l. le-trans (alike (run.At l)).back (m.exact.all l); apart = m.exact.apart };
    old_exact = m.old_exact;
  }

  matches_facts : {scope : Scope} {s : rules.State} {c : run.State} (ts : List Term) → Matches means p i scope s c → Each (λ t. Good means s.next i t BoolSort × IsTrueIn i t) ts → Matches means p i scope (rules.with_facts ts s) c
  matches_facts {s = s} {c = c} ts m h = record {
    stands = facts_stand means (fields_world p) ts s m.stands h;
    exact = subst (λ (x : rules.Heap). Exact i x c.holdings) (sym (heap_after_facts means (fields_world p) ts s)) m.exact;
    old_exact = subst (λ (x : rules.Heap). Exact i x c.old_holdings) (sym (old_after_facts means (fields_world p) ts s)) m.old_exact;
  }

  at_after_put : (new : rules.Chunk) (s : rules.State) → (put new s).at ≡ s.at
  at_after_put new s = go (same new.amount zero_amount)
    where
      go : (b : Bool) → (let r : rules.State = cond b s (rules.with_facts (put_facts (not (rules.is_quiet s)) s.bounded new s.heap) (rules.with_heap (put_over (chosen true new 0 s.heap) new s.heap) s)) in r.at) ≡ s.at
      go true = refl
      go false = at_after_facts means (fields_world p) (put_facts (not (rules.is_quiet s)) s.bounded new s.heap) (rules.with_heap (put_over (chosen true new 0 s.heap) new s.heap) s)

  module _ (references : HasReferences i) (at : Place) (code : Code) (o : Outer) (below : OuterGrows o) where
    -- a chunk of a location, whose value is a fresh symbol
    put_one : (scope : Scope) (f : Name) (r : Term) (k : ℕ) (s : rules.State) (c : run.State) (on : Going) → Matches means p i scope s c → Good means s.next i r RefSort → value i r ≡ element (RefValue k) → Follows on →
        Exposed i at code (on (put (record (field_key f r) { amount = whole_amount; value = rules.fresh (field_sort p f) s }) (rules.after_fresh s))) →
        PutReal means p i scope (put (record (field_key f r) { amount = whole_amount; value = rules.fresh (field_sort p f) s }) (rules.after_fresh s)) c (at_field k f) full
    put_one scope f r k s c on m g e follows x =
        let le : s.next ≤ suc s.next = next_later means p i references s.next in
        let y = symbol means p i references s.next (run.field_type p f) in
        let is = subst (λ a. value i (variable s.next a) ≡ element y.content) (sym (sort_of_field p f)) y.is in
        let new = record (field_key f r) { amount = whole_amount; value = rules.fresh (field_sort p f) s } in
        put_matches means p i references scope (rules.after_fresh s) c (matches_fresh means p i references m) f r k (good_later means le (extends-refl means s.next i) g) e whole_amount full (good_whole means) (same-refl full) none-full
        (rules.fresh (field_sort p f) s) (good_symbol means p i references s.next (field_sort p f)) y.content y.typed is false (keeps i at code on follows (put new (rules.after_fresh s)) x)

    -- the whole of each field
    record PutAll (scope : Scope) (s t : rules.State) (c : run.State) (r : ℕ) (fs : List Name) : Type 0 where
      pub heap : run.Heap
      pub agrees : AgreeOn p c.holdings heap c.heap
      pub later : s.next ≤ t.next
      pub at_is : t.at ≡ s.at
      pub matches : Matches means p i scope t (become c.store heap (put_in r fs c.holdings) c)

    put_all : (fs : List Name) (v : Term) (r : ℕ) (scope : Scope) (s : rules.State) (c : run.State) (on : Going) → AreFields p fs → Matches means p i scope s c → Good means s.next i v RefSort → value i v ≡ element (RefValue r) → Follows on →
        Exposed i at code (on (put_fields p fs v s)) → PutAll scope s (put_fields p fs v s) c r fs
    put_all [] v r scope s c on k m g is h x = record { heap = c.heap; agrees = λ l pos. refl; later = le_refl _; at_is = refl; matches = m }
    put_all (f ∷ fs) v r scope s c on k m g is h x =
        let new = record (field_key f v) { amount = whole_amount; value = rules.fresh (field_sort p f) s } in
        let s1 = put new (rules.after_fresh s) in
        let next = λ (t : rules.State). on (put_fields p fs v t) in
        let q = put_one scope f v r s c next m g is (λ t. earlier (fields_later p fs v t) (next t) (h (put_fields p fs v t))) x in
        let e : (put new (rules.after_fresh s)).next ≡ suc s.next = next_after_put means (fields_world p) new (rules.after_fresh s) in
        let le : s.next ≤ (put new (rules.after_fresh s)).next = subst (λ n. s.next ≤ n) (sym e) (next_later_here s.next) in
        let c1 = become c.store q.heap (run.gained (run.At (at_field r f)) full c.holdings) c in
        let z = put_all fs v r scope s1 c1 on k.1 q.matches (good_later means le (extends-refl means s.next i) g) is h x in
        record {
          heap = z.heap;
          agrees = λ l pos. z.agrees l (more_held l (at_field r f) c.holdings pos) ∙ q.back q.heap (λ l pos. refl) l pos;
          later = le_trans le z.later;
          at_is = z.at_is ∙ at_after_put new (rules.after_fresh s);
          matches = z.matches;
        }
      where
        next_later_here : (n : ℕ) → n ≤ suc n
        next_later_here n = next_later means p i references n

    pub new_real : (place : Place) (x : Name) (fs : List Name) → ExecReal means p i at code o (New place x fs)
    new_real place x fs scope k once s c on outside m h exposed = inr (
      run.assign x (RefValue r) c.store,
      record {
        state = s3;
        heap = z.heap;
        holdings = new_fields r fs c.holdings;
        later = le_trans (next_later means p i references s.next) (subst (λ y. y ≤ (put_fields p fs v begun).next) next_is z.later);
        at_is = z.at_is ∙ at_after_facts means (fields_world p) (distinct v s) (rules.after_fresh s);
        matches = matches_store means p i references scope _ _ named
            (store_assign means (fields_world p) x type.Ref v (RefValue r) scope _ _ named.stands.store k.0 refl (good_later means z.later (extends-refl means begun.next i) gb) is);
        leads = keeping_leads p (meaning.run p (New place x fs)) c (become (run.assign x (RefValue r) c.store) z.heap (new_fields r fs c.holdings) c) back
            (λ g o' a old. (g, ((λ l held. refl), (r, (fresh g o' (back g a) old, refl)))));
        exposed = exposed;
      },
    )
      where
        r : ℕ
        r = (references s.next).0

        v : Term
        v = rules.fresh RefSort s

        is : value i (rules.fresh RefSort s) ≡ element (RefValue (references s.next).0)
        is = (references s.next).1

        begun : rules.State
        begun = rules.with_facts (distinct (rules.fresh RefSort s) s) (rules.after_fresh s)

        s3 : rules.State
        s3 = let s1 = put_fields p fs (rules.fresh RefSort s) (rules.with_facts (distinct (rules.fresh RefSort s) s) (rules.after_fresh s)) in rules.with_store (rules.assign x (rules.fresh RefSort s) s1.store) s1

        gv : Good means (suc s.next) i (rules.fresh RefSort s) RefSort
        gv = good_symbol means p i references s.next RefSort

        next_is : (rules.with_facts (distinct (rules.fresh RefSort s) s) (rules.after_fresh s)).next ≡ suc s.next
        next_is = next_after_facts means (fields_world p) (distinct (rules.fresh RefSort s) s) (rules.after_fresh s)

        gb : Good means (rules.with_facts (distinct (rules.fresh RefSort s) s) (rules.after_fresh s)).next i (rules.fresh RefSort s) RefSort
        gb = subst (λ n. Good means n i (rules.fresh RefSort s) RefSort) (sym next_is) gv

        after : Going
        after s1 = on (rules.with_store (rules.assign x (rules.fresh RefSort s) s1.store) s1)

        after_grows : Follows after
        after_grows s1 = h (rules.with_store (rules.assign x (rules.fresh RefSort s) s1.store) s1)

        told : AllTrue i (distinct (rules.fresh RefSort s) s)
        told = (facts_true i (distinct (rules.fresh RefSort s) s) (rules.after_fresh s) (before_true means p i references (fields_later p fs (rules.fresh RefSort s) begun) (keeps i at code on h s3 exposed))).0

        later : Matches means p i scope (rules.after_fresh s) c
        later = matches_fresh means p i references m

        goods : Each (λ t. Good means (suc s.next) i t BoolSort) (distinct (rules.fresh RefSort s) s)
        goods = distinct_good means p i (suc s.next) (references s.next).0 (rules.fresh RefSort s) gv is scope s c later.stands.store later.stands.heap.each later.stands.old.each

        here : Matches means p i scope (rules.with_facts (distinct (rules.fresh RefSort s) s) (rules.after_fresh s)) c
        here = matches_facts (distinct (rules.fresh RefSort s) s) later
            (each_both (λ t. Good means (suc s.next) i t BoolSort) (IsTrueIn i) (λ t. Good means (suc s.next) i t BoolSort × IsTrueIn i t) (λ t a b. (a, b)) (distinct (rules.fresh RefSort s) s) goods told)

        fresh : (g o' : run.Heap) → AgreeOn p c.holdings g c.heap → AgreeOn p c.old_holdings o' c.old_heap → IsFresh p (over g o' c) (references s.next).0
        fresh = is_fresh means p i (suc s.next) (references s.next).0 (rules.fresh RefSort s) gv is m told later.stands.store later.stands.heap.each later.stands.old.each

        z : PutAll scope begun (put_fields p fs (rules.fresh RefSort s) begun) c (references s.next).0 fs
        z = put_all fs (rules.fresh RefSort s) (references s.next).0 scope begun c after k.1 here gb is after_grows exposed

        named : Matches means p i scope (put_fields p fs (rules.fresh RefSort s) begun) (become c.store z.heap (new_fields (references s.next).0 fs c.holdings) c)
        named = matches_alike (new_fields (references s.next).0 fs c.holdings) (put_alike (references s.next).0 fs c.holdings) (new_only (references s.next).0 fs c.holdings m.stands.holds.only) z.matches

        back : (g : run.Heap) → AgreeOn p (new_fields (references s.next).0 fs c.holdings) g z.heap → AgreeOn p c.holdings g c.heap
        back g a l pos =
            let apart = ((fresh c.heap c.old_heap (λ l pos. refl) (λ l pos. refl)).not_held l (held_directly p c.heap c.holdings l pos)).0 in
            a l (subst Positive (sym (new_elsewhere (references s.next).0 fs c.holdings l apart)) pos) ∙ z.agrees l pos
