-- A new reference backwards: the facts that tell it from others make it fresh.
use Rattle.std.proofs.Common.{◌≡◌, ◌≢◌, ℕ, Bool, true, false, cond, List, [], ◌∷◌, ◌++◌, Some, refl, sym, ◌∙◌, ap, subst, true≢false}
use Rattle.vx_frac.specs.Fractions.{none}
use Rattle.vx_ast.specs.Syntax.{Name, same_name, Program}
use Rattle.vx_meaning.specs.Values.{Value, RefValue, type_of}
use Rattle.vx_meaning.specs.States as run
use Rattle.vx_meaning.specs.Around.{IsUnknownTo}
use Rattle.vx_meaning.specs.Run.{IsFresh}
use Rattle.vx_terms.specs.Sorts.{Sort, BoolSort, RefSort, same_sort}
use Rattle.vx_terms.specs.Terms.{Term, sort_of}
use Rattle.vx_terms.specs.Build.{implies, less, null, zero_amount}
use Rattle.vx_terms.specs.Interpretations.{Each, Interpretation, value, IsTrueIn, AllTrue}
use Rattle.vx_terms.proofs.Same.{sort_is}
use Rattle.vx_terms.proofs.Values.{sort_of_formed}
use Rattle.vx_rules.specs.States as rules
use Rattle.vx_rules.specs.Chunks.{first_argument}
use Rattle.vx_rules.specs.Members.{is_ref, unlike, unlike_stored, unlike_chunk, unlike_held, distinct}
use Rattle.vx_types.specs.Typing.{Scope}
use Rattle.vx_elements.proofs.Settled.{Meaning}
use Rattle.vx_elements.proofs.Built.{Good, good_negate, good_equals, good_implies}
use Rattle.vx_elements.proofs.Elements.{element}
use Rattle.vx_elements.proofs.Lists.{each_append}
use Rattle.vx_elements.proofs.Truth.{is_equal, good_null, good_positive, positive_true}
use Rattle.vx_elements.proofs.Values.{value_typed, sort_of_field}
use Rattle.vx_amounts.proofs.Amounts.{Positive, not-positive, positive-or, positive-le, le-refl, add-below}
use Rattle.vx_sound.proofs.Fields.{fields_world, OnlyLocations}
use Rattle.vx_sound.proofs.Stands.{ref_of, location_of, amount_of, own, held, IsThere, content_sort, StoreStands, ChunkStands}
use Rattle.vx_sound.proofs.Chunks.{location_is, field_resource}
use Rattle.vx_real.proofs.Backwards.{AgreeOn, over}
use Rattle.vx_real.proofs.Exactly.{Exact, IsReal}
use Rattle.vx_real.proofs.SumReads.{implied, not_true}
use Rattle.vx_real.proofs.Matched.{Matches}
use Rattle.vx_real.proofs.Consistency.{held_positive}

-- a sort is found the same as itself
ref_sort : (a : Sort) → a ≡ RefSort → same_sort a RefSort ≡ true
ref_sort a e = subst (λ b. same_sort b RefSort ≡ true) (sym e) refl

true_parts : (i : Interpretation) (xs ys : List Term) → AllTrue i (xs ++ ys) → AllTrue i xs × AllTrue i ys
true_parts i [] ys h = (tt, h)
true_parts i (x ∷ xs) ys h = let r = true_parts i xs ys h.1 in ((h.0, r.0), r.1)

module _ (means : Meaning) (p : Program) (i : Interpretation) (n : ℕ) (r : ℕ) (v : Term) (gv : Good means n i v RefSort) (v_is : value i v ≡ element (RefValue r)) where
  -- what is unlike it isn't it
  apart : (t : Term) → Good means n i t RefSort → IsTrueIn i (unlike v t) → value i t ≡ element (RefValue r) → ⊥
  apart t g h e = not_true i {means = means} (good_equals means gv g) h (is_equal i v t (v_is ∙ sym e))

  -- no variable has it
  unstored : (scope : Scope) (xs : rules.Store) (ys : run.Store) → StoreStands means (fields_world p) n i scope xs ys → AllTrue i (unlike_stored v (rules.terms_in xs)) → (x : Name) → run.lookup x ys ≢ Some (RefValue r)
  unstored [] [] [] h k x e = cc
  unstored (d ∷ ds) (a ∷ xs) (b ∷ ys) h k x e = go (is_ref a.1) refl k (same_name x b.0) e (λ k e. unstored ds xs ys h.1 k x e)
    where
      some_is : (u w : Value) → Some u ≡ Some w → u ≡ w
      some_is u w e = cc

      -- the term of a variable that has it is one of a reference
      sort_here : b.1 ≡ RefValue r → sort_of a.1 ≡ RefSort
      sort_here e = sort_of_formed h.0.good.formed ∙ ap rules.sort_of_type (sym h.0.typed ∙ ap type_of e)

      here : b.1 ≡ RefValue r → IsTrueIn i (unlike v a.1) → ⊥
      here e told = apart a.1 (subst (λ s. Good means n i a.1 s) (ap rules.sort_of_type (sym h.0.typed ∙ ap type_of e)) h.0.good) told (h.0.value_is ∙ ap element e)

      go : (z : Bool) → is_ref a.1 ≡ z → AllTrue i (cond z (unlike v a.1 ∷ unlike_stored v (rules.terms_in xs)) (unlike_stored v (rules.terms_in xs))) → (q : Bool) → cond q (Some b.1) (run.lookup x ys) ≡ Some (RefValue r) →
          (AllTrue i (unlike_stored v (rules.terms_in xs)) → run.lookup x ys ≡ Some (RefValue r) → ⊥) → ⊥
      go true z k true e next = here (some_is b.1 (RefValue r) e) k.0
      go true z k false e next = next k.1 e
      go false z k true e next = true≢false (sym (ref_sort (sort_of a.1) (sort_here (some_is b.1 (RefValue r) e))) ∙ z)
      go false z k false e next = next k e
  unstored [] [] (b ∷ ys) h k x e = absurd h
  unstored [] (a ∷ xs) ys h k x e = absurd h
  unstored (d ∷ ds) [] ys h k x e = absurd h
  unstored (d ∷ ds) (a ∷ xs) [] h k x e = absurd h

  -- neither the receiver nor the value of what a chunk has is it
  module _ (heap : run.Heap) where
    unlike_there : (c : rules.Chunk) (l : run.Location) → ChunkStands means (fields_world p) n i heap c → IsReal i c → AllTrue i (unlike_chunk v c) → Positive (own i c (run.At l)) →
        (l.receiver ≢ r) × (run.value_at p heap l ≢ RefValue r)
    unlike_there c l st real k pos = go (run.same_location l (location_of i c)) refl (subst (λ x. Positive (cond (run.same_resource (run.At l) x) (amount_of i c) none)) (field_resource i c real.kind) pos)
      where
        tested : (b : Bool) → run.same_location l (location_of i c) ≡ b → Positive (cond b (amount_of i c) none) → (l ≡ location_of i c) × Positive (amount_of i c)
        tested true e q = (location_is l (location_of i c) e, q)
        tested false e q = absurd (not-positive q (le-refl none))

        found : l ≡ location_of i c → Positive (amount_of i c) → (l.receiver ≢ r) × (run.value_at p heap l ≢ RefValue r)
        found e q = (
          λ is. apart (first_argument c.arguments) (st.field real.kind).receiver (implied i (less zero_amount c.amount) (unlike v (first_argument c.arguments)) gp (gn (st.field real.kind).receiver) k.0 held_here)
              (real.receiver ∙ ap (λ m. element (RefValue m)) (sym (ap ref_of real.receiver) ∙ sym (ap (λ (x : run.Location). x.receiver) e) ∙ is)),
          λ is. valued (subst (λ x. run.value_at p heap x ≡ RefValue r) e is) (is_ref c.value) refl k.1,
        )
          where
            gp : Good means n i (less zero_amount c.amount) BoolSort
            gp = good_positive means st.amount

            gn : {t : Term} → Good means n i t RefSort → Good means n i (unlike v t) BoolSort
            gn g = good_negate means (good_equals means gv g)

            held_here : IsTrueIn i (less zero_amount c.amount)
            held_here = positive_true means st.amount q

            there : value i c.value ≡ element (run.value_at p heap (location_of i c))
            there = subst (λ x. IsThere p heap x (value i c.value)) (field_resource i c real.kind) (st.content_is q)

            content : Good means n i c.value (rules.sort_of_type (run.field_type p c.resource))
            content = subst (λ s. Good means n i c.value s) (sort_of_field p c.resource) (subst (λ b. Good means n i c.value (content_sort p b c.resource)) real.kind st.content)

            valued : run.value_at p heap (location_of i c) ≡ RefValue r → (z : Bool) → is_ref c.value ≡ z → AllTrue i (cond z (implies (less zero_amount c.amount) (unlike v c.value) ∷ []) []) → ⊥
            valued is true z k =
                let g = subst (λ t. Good means n i c.value (rules.sort_of_type t)) (sym (value_typed p heap (location_of i c)) ∙ ap type_of is) content in
                apart c.value g (implied i (less zero_amount c.amount) (unlike v c.value) gp (gn g) k.0 held_here) (there ∙ ap element is)
            valued is false z k =
                let g = subst (λ t. Good means n i c.value (rules.sort_of_type t)) (sym (value_typed p heap (location_of i c)) ∙ ap type_of is) content in
                true≢false (sym (ref_sort (sort_of c.value) (sort_of_formed g.formed)) ∙ z)

        go : (b : Bool) → run.same_location l (location_of i c) ≡ b → Positive (cond b (amount_of i c) none) → (l.receiver ≢ r) × (run.value_at p heap l ≢ RefValue r)
        go b e q = let t = tested b e q in found t.0 t.1

    unlike_any : (cs : rules.Heap) (l : run.Location) → Each (ChunkStands means (fields_world p) n i heap) cs → Each (IsReal i) cs → AllTrue i (unlike_held v cs) → Positive (held i cs (run.At l)) → (l.receiver ≢ r) × (run.value_at p heap l ≢ RefValue r)
    unlike_any [] l st real k pos = absurd (not-positive pos (le-refl none))
    unlike_any (c ∷ cs) l st real k pos =
        let told = true_parts i (unlike_chunk v c) (unlike_held v cs) (subst (λ b. AllTrue i (cond b (unlike_chunk v c ++ unlike_held v cs) (unlike_held v cs))) real.0.kind k) in
        positive-or (own i c (run.At l)) (λ q. unlike_there c l st.0 real.0 told.0 q)
        (λ z. unlike_any cs l st.1 real.1 told.1 (positive-le pos (add-below (held i cs (run.At l)) z)))

    -- so it is unknown in each heap that agrees with what is held
    unknown : (cs : rules.Heap) (hs : run.Holdings) → Each (ChunkStands means (fields_world p) n i heap) cs → Exact i cs hs → AllTrue i (unlike_held v cs) → OnlyLocations hs → (g : run.Heap) → AgreeOn p hs g heap → IsUnknownTo p g hs r
    unknown cs hs st exact k only g agrees l h =
        let pos = held_positive p g hs l only h in
        let u = unlike_any cs l st exact.each k (positive-le pos (exact.all l)) in
        (u.0, λ e. u.1 (sym (agrees l pos) ∙ e))

  -- fresh over each heap that agrees
  pub is_fresh : {scope : Scope} {s : rules.State} {c : run.State} → Matches means p i scope s c → AllTrue i (distinct v s) → StoreStands means (fields_world p) n i scope s.store c.store →
      Each (ChunkStands means (fields_world p) n i c.heap) s.heap → Each (ChunkStands means (fields_world p) n i c.old_heap) s.old → (g o : run.Heap) → AgreeOn p c.holdings g c.heap → AgreeOn p c.old_holdings o c.old_heap → IsFresh p (over g o c) r
  is_fresh {scope = scope} {s = s} {c = c} m k store here before g o a b =
      let parts = true_parts i (unlike_stored v (rules.terms_in s.store) ++ unlike_held v s.heap) (unlike_held v s.old) k.1 in
      let both = true_parts i (unlike_stored v (rules.terms_in s.store)) (unlike_held v s.heap) parts.0 in
      record {
        not_null = λ e. apart null (good_null means) k.0 (m.stands.null ∙ ap (λ z. element (RefValue z)) (sym e));
        not_stored = unstored scope s.store c.store store both.0;
        not_held = unknown c.heap s.heap c.holdings here m.exact both.1 m.stands.holds.only g a;
        not_held_before = unknown c.old_heap s.old c.old_holdings before m.old_exact parts.1 m.stands.old_holds.only o b;
        not_stored_around = tt;
        not_held_around = tt;
      }

  -- The facts are over settled terms

  unlike_good : {t : Term} → Good means n i t RefSort → Good means n i (unlike v t) BoolSort
  unlike_good g = good_negate means (good_equals means gv g)

  reference_good : {t : Term} {a : Sort} → Good means n i t a → is_ref t ≡ true → Good means n i t RefSort
  reference_good {t = t} {a = a} g e = subst (λ s. Good means n i t s) (sym (sort_of_formed g.formed) ∙ sort_is (sort_of t) RefSort e) g

  stored_good : (scope : Scope) (xs : rules.Store) (ys : run.Store) → StoreStands means (fields_world p) n i scope xs ys → Each (λ t. Good means n i t BoolSort) (unlike_stored v (rules.terms_in xs))
  stored_good [] [] [] h = tt
  stored_good (d ∷ ds) (a ∷ xs) (b ∷ ys) h = go (is_ref a.1) refl (stored_good ds xs ys h.1)
    where
      go : (z : Bool) → is_ref a.1 ≡ z → Each (λ t. Good means n i t BoolSort) (unlike_stored v (rules.terms_in xs)) → Each (λ t. Good means n i t BoolSort) (cond z (unlike v a.1 ∷ unlike_stored v (rules.terms_in xs)) (unlike_stored v (rules.terms_in xs)))
      go true e rest = (unlike_good (reference_good h.0.good e), rest)
      go false e rest = rest
  stored_good [] [] (b ∷ ys) h = absurd h
  stored_good [] (a ∷ xs) ys h = absurd h
  stored_good (d ∷ ds) [] ys h = absurd h
  stored_good (d ∷ ds) (a ∷ xs) [] h = absurd h

  chunk_good : (heap : run.Heap) (c : rules.Chunk) → c.is_field ≡ true → ChunkStands means (fields_world p) n i heap c → Each (λ t. Good means n i t BoolSort) (unlike_chunk v c)
  chunk_good heap c kind st = (good_implies means (good_positive means st.amount) (unlike_good (st.field kind).receiver), go (is_ref c.value) refl)
    where
      go : (z : Bool) → is_ref c.value ≡ z → Each (λ t. Good means n i t BoolSort) (cond z (implies (less zero_amount c.amount) (unlike v c.value) ∷ []) [])
      go true e = (good_implies means (good_positive means st.amount) (unlike_good (reference_good st.content e)), tt)
      go false e = tt

  held_good : (heap : run.Heap) (cs : rules.Heap) → Each (ChunkStands means (fields_world p) n i heap) cs → Each (λ t. Good means n i t BoolSort) (unlike_held v cs)
  held_good heap [] h = tt
  held_good heap (c ∷ cs) h = go c.is_field refl (held_good heap cs h.1)
    where
      go : (z : Bool) → c.is_field ≡ z → Each (λ t. Good means n i t BoolSort) (unlike_held v cs) → Each (λ t. Good means n i t BoolSort) (cond z (unlike_chunk v c ++ unlike_held v cs) (unlike_held v cs))
      go true e rest = each_append (λ t. Good means n i t BoolSort) (unlike_chunk v c) (unlike_held v cs) (chunk_good heap c e h.0) rest
      go false e rest = rest

  pub distinct_good : (scope : Scope) (s : rules.State) (c : run.State) → StoreStands means (fields_world p) n i scope s.store c.store → Each (ChunkStands means (fields_world p) n i c.heap) s.heap → Each (ChunkStands means (fields_world p) n i c.old_heap) s.old →
      Each (λ t. Good means n i t BoolSort) (distinct v s)
  distinct_good scope s c store here before = (
    unlike_good (good_null means),
    each_append (λ t. Good means n i t BoolSort) (unlike_stored v (rules.terms_in s.store) ++ unlike_held v s.heap) (unlike_held v s.old)
        (each_append (λ t. Good means n i t BoolSort) (unlike_stored v (rules.terms_in s.store)) (unlike_held v s.heap) (stored_good scope s.store c.store store) (held_good c.heap s.heap here))
        (held_good c.old_heap s.old before),
  )
