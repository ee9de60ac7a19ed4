-- What a cleared search through the candidates leads to: the first chunk that is as wanted, or what follows where none is.
use Rattle.std.proofs.Common.{◌≡◌, ℕ, ◌≤◌, Bool, true, false, ◌⊎◌, inl, inr, List, [], ◌∷◌, Some, refl, sym, ◌∙◌, ap, ap₂, subst, true≢false, cond}
use Rattle.std.proofs.lemmas.Option.{same_Some}
use Rattle.vx_frac.specs.Fractions.{none}
use Rattle.vx_ast.specs.declared.Place.{Place}
use Rattle.vx_ast.specs.Syntax.{Name, Declaration, Program, Predicate, predicate_named}
use Rattle.vx_meaning.specs.Values.{Value, IntValue, BoolValue, RefValue, PermValue, type_of}
use Rattle.vx_meaning.specs.States as run
use Rattle.vx_terms.specs.Sorts.{Sort, BoolSort, RealSort, RefSort, SnapSort}
use Rattle.vx_terms.specs.Terms.{Term}
use Rattle.vx_terms.specs.Build.{and, equals}
use Rattle.vx_terms.specs.Interpretations.{Each, Interpretation, Element, as_fraction, value, IsTrueIn}
use Rattle.vx_terms.specs.Formed.{truth}
use Rattle.vx_rules.specs.States as rules
use Rattle.vx_rules.specs.Trees.{Code, Tree}
use Rattle.vx_rules.specs.Chunks.{Candidate, candidates, equal_onto, equal_arguments, first_argument, field_key, instance_key, only_inner, holds_some, holds_amount}
use Rattle.vx_rules.specs.Rules.{first_with, field_sort}
use Rattle.vx_types.specs.Typing.{Scope, HaveNoPerm}
use Rattle.vx_ast.specs.declared.ValueType.TheVariants.{Perm}
use Rattle.vx_amounts.proofs.Amounts.{Le, Positive}
use Rattle.vx_elements.proofs.Settled.{Meaning, Extends, value_kept}
use Rattle.vx_elements.proofs.Built.{Good, good_later, good_and, good_equals}
use Rattle.vx_elements.proofs.Elements.{element}
use Rattle.vx_elements.proofs.Truth.{equal_is, both_true, true_le, true_positive, good_positive, good_at_most}
use Rattle.vx_elements.proofs.Places.{IsPlace, candidates_places}
use Rattle.vx_sound.proofs.Marks.{IsInner, InnerAt}
use Rattle.vx_sound.proofs.World.{at_field, IsTypedResource, World}
use Rattle.vx_sound.proofs.Standard.{IsWritten}
use Rattle.vx_sound.proofs.Passes.{Cleared}
use Rattle.vx_sound.proofs.Stands.{ref_of, value_of, values_of, location_of, resource_of, amount_of, IsThere, TermsStand, terms_later, ChunkStands, Stands}
use Rattle.vx_sound.proofs.Chunks.{taken_apart, field_resource, instance_resource}
use Rattle.vx_sound.proofs.Goes.{probed}

-- a value that is no amount is told by its element
value_back : (v : Value) → ((type_of v ≡ Perm) → ⊥) → value_of (element v) ≡ v
value_back (IntValue z) h = refl
value_back (BoolValue b) h = refl
value_back (RefValue r) h = refl
value_back (PermValue a) h = absurd (h refl)

module _ (means : Meaning) (world : World) where
  abbrev p : Program
  p = world.program

  pub record FirstWith (key : rules.Chunk) (wanted : rules.Chunk → Term) (i : Interpretation) (s : rules.State) (on : Candidate → Tree) : Type 0 where
    pub candidate : Candidate
    pub place : IsPlace key s.heap candidate
    pub as_wanted : IsTrueIn i (wanted candidate.chunk)
    pub cleared : Cleared (on candidate)

  -- of some candidates, by what is good of each chunk
  first_of : {scope : Scope} {i : Interpretation} {s : rules.State} {c : run.State} (key : rules.Chunk) (wanted : rules.Chunk → Term) (cs : List Candidate) (at : Place) (code : Code) (on : Candidate → Tree) (otherwise : Tree) → Each (IsPlace key s.heap) cs →
      Stands means world scope i s c → ((d : Candidate) → IsPlace key s.heap d → Good means s.next i (wanted d.chunk) BoolSort) → Cleared (first_with wanted cs at code s on otherwise) → FirstWith key wanted i s on ⊎ Cleared otherwise
  first_of key wanted [] at code on otherwise pl st g h = inr h
  first_of {i = i} {s = s} key wanted (d ∷ ds) at code on otherwise pl st g h =
      go (probed means world (wanted d.chunk) at code (on d) (first_with wanted ds at code s on otherwise) st (g d pl.0) h) (first_of key wanted ds at code on otherwise pl.1 st g)
    where
      go : (IsTrueIn i (wanted d.chunk) × Cleared (on d)) ⊎ Cleared (first_with wanted ds at code s on otherwise) →
          (Cleared (first_with wanted ds at code s on otherwise) → FirstWith key wanted i s on ⊎ Cleared otherwise) → FirstWith key wanted i s on ⊎ Cleared otherwise
      go (inl k) next = inl record { candidate = d; place = pl.0; as_wanted = k.0; cleared = k.1 }
      go (inr k) next = next k

  -- of all candidates, by what is good of each chunk that stands
  pub first_one : {scope : Scope} {i : Interpretation} {s : rules.State} {c : run.State} (key : rules.Chunk) (wanted : rules.Chunk → Term) (at : Place) (code : Code) (on : Candidate → Tree) (otherwise : Tree) →
      Stands means world scope i s c → ((d : rules.Chunk) → d.is_field ≡ key.is_field → d.resource ≡ key.resource → ChunkStands means world s.next i c.heap d → Good means s.next i (wanted d) BoolSort) →
      Cleared (first_with wanted (candidates key s.heap) at code s on otherwise) → FirstWith key wanted i s on ⊎ Cleared otherwise
  first_one {i = i} {s = s} {c = c} key wanted at code on otherwise st g h =
      first_of key wanted (candidates key s.heap) at code on otherwise (candidates_places key s.heap) st (λ d pl. g d.chunk pl.kind pl.resource (taken_apart means world s.next i c.heap pl st.heap).chunk) h

  -- of those from inside the instance that a function's measure names
  pub record FirstInner (key : rules.Chunk) (wanted : rules.Chunk → Term) (i : Interpretation) (s : rules.State) (on : Candidate → Tree) : Type 0 where
    pub first : FirstWith key wanted i s on
    pub inner : first.candidate.chunk.inner ≡ true

  inner_of : {scope : Scope} {i : Interpretation} {s : rules.State} {c : run.State} (key : rules.Chunk) (wanted : rules.Chunk → Term) (cs : List Candidate) (at : Place) (code : Code) (on : Candidate → Tree) (otherwise : Tree) → Each (IsPlace key s.heap) cs →
      Stands means world scope i s c → ((d : Candidate) → IsPlace key s.heap d → Good means s.next i (wanted d.chunk) BoolSort) → Cleared (first_with wanted (only_inner cs) at code s on otherwise) → FirstInner key wanted i s on ⊎ Cleared otherwise
  inner_of key wanted [] at code on otherwise pl st g h = inr h
  inner_of {i = i} {s = s} key wanted (d ∷ ds) at code on otherwise pl st g h = by_side d.chunk.inner refl h (inner_of key wanted ds at code on otherwise pl.1 st g)
    where
      rest : Tree
      rest = first_with wanted (only_inner ds) at code s on otherwise

      go : d.chunk.inner ≡ true → (IsTrueIn i (wanted d.chunk) × Cleared (on d)) ⊎ Cleared (first_with wanted (only_inner ds) at code s on otherwise) →
          (Cleared (first_with wanted (only_inner ds) at code s on otherwise) → FirstInner key wanted i s on ⊎ Cleared otherwise) → FirstInner key wanted i s on ⊎ Cleared otherwise
      go e (inl k) next = inl record { first = record { candidate = d; place = pl.0; as_wanted = k.0; cleared = k.1 }; inner = e }
      go e (inr k) next = next k

      by_side : (b : Bool) → d.chunk.inner ≡ b → Cleared (first_with wanted (cond b (d ∷ only_inner ds) (only_inner ds)) at code s on otherwise) →
          (Cleared (first_with wanted (only_inner ds) at code s on otherwise) → FirstInner key wanted i s on ⊎ Cleared otherwise) → FirstInner key wanted i s on ⊎ Cleared otherwise
      by_side true e h next = go e (probed means world (wanted d.chunk) at code (on d) rest st (g d pl.0) h) next
      by_side false e h next = next h

  pub first_inner : {scope : Scope} {i : Interpretation} {s : rules.State} {c : run.State} (key : rules.Chunk) (wanted : rules.Chunk → Term) (at : Place) (code : Code) (on : Candidate → Tree) (otherwise : Tree) →
      Stands means world scope i s c → ((d : rules.Chunk) → d.is_field ≡ key.is_field → d.resource ≡ key.resource → ChunkStands means world s.next i c.heap d → Good means s.next i (wanted d) BoolSort) →
      Cleared (first_with wanted (only_inner (candidates key s.heap)) at code s on otherwise) → FirstInner key wanted i s on ⊎ Cleared otherwise
  first_inner {i = i} {s = s} {c = c} key wanted at code on otherwise st g h =
      inner_of key wanted (candidates key s.heap) at code on otherwise (candidates_places key s.heap) st (λ d pl. g d.chunk pl.kind pl.resource (taken_apart means world s.next i c.heap pl st.heap).chunk) h

  -- Terms that stand for a location or for an instance that can be held

  pub record InstanceTerms (n : ℕ) (i : Interpretation) (x : Name) (ts : List Term) (vs : List Value) : Type 0 where
    pub held : world.Held x
    pub predicate : Predicate
    pub named : predicate_named p x ≡ Some predicate
    pub no_perm : HaveNoPerm predicate.parameters
    pub each : TermsStand means world n i predicate.parameters ts vs

  pub data Keys (n : ℕ) (i : Interpretation) : rules.Chunk → run.Resource → Sort → Type 0 where
    of_field : (f : Name) (r : Term) (k : ℕ) → Good means n i r RefSort → value i r ≡ element (RefValue k) → Keys n i (field_key f r) (run.At (at_field k f)) (field_sort p f)
    of_instance : (x : Name) (ts : List Term) (vs : List Value) → InstanceTerms n i x ts vs → Keys n i (instance_key x ts) (run.Folded record { predicate = x; arguments = vs }) SnapSort

  pub instance_terms_later : {m n : ℕ} {i j : Interpretation} {x : Name} {ts : List Term} {vs : List Value} → m ≤ n → Extends means m i j → InstanceTerms m i x ts vs → InstanceTerms n j x ts vs
  instance_terms_later {ts = ts} {vs = vs} le x k = record { held = k.held; predicate = k.predicate; named = k.named; no_perm = k.no_perm; each = terms_later means world le x k.predicate.parameters ts vs k.each }

  pub keys_later : {m n : ℕ} {i j : Interpretation} {key : rules.Chunk} {r : run.Resource} {a : Sort} → m ≤ n → Extends means m i j → Keys m i key r a → Keys n j key r a
  keys_later le x (of_field f r k g e) = of_field f r k (good_later means le x g) (value_kept means r g.settled x ∙ e)
  keys_later le x (of_instance y ts vs k) = of_instance y ts vs (instance_terms_later le x k)

  -- the values of terms are those that they stand for
  values_back : (n : ℕ) (i : Interpretation) (ds : List Declaration) (ts : List Term) (vs : List Value) → HaveNoPerm ds → TermsStand means world n i ds ts vs → values_of i ts ≡ vs
  values_back n i [] [] [] u h = refl
  values_back n i (d ∷ ds) (t ∷ ts) (v ∷ vs) u h = ap₂ (λ (y : Value) (us : List Value). y ∷ us) (ap value_of h.0.value_is ∙ value_back v (λ e. u.0 (sym h.0.typed ∙ e))) (values_back n i ds ts vs u.1 h.1)
  values_back n i [] [] (v ∷ vs) u h = absurd h
  values_back n i [] (t ∷ ts) vs u h = absurd h
  values_back n i (d ∷ ds) [] vs u h = absurd h
  values_back n i (d ∷ ds) (t ∷ ts) [] u h = absurd h

  pub values_typed : (n : ℕ) (i : Interpretation) (ds : List Declaration) (ts : List Term) (vs : List Value) → TermsStand means world n i ds ts vs → run.HaveTypes ds vs
  values_typed n i [] [] [] h = tt
  values_typed n i (d ∷ ds) (t ∷ ts) (v ∷ vs) h = (h.0.typed, values_typed n i ds ts vs h.1)
  values_typed n i [] [] (v ∷ vs) h = absurd h
  values_typed n i [] (t ∷ ts) vs h = absurd h
  values_typed n i (d ∷ ds) [] vs h = absurd h
  values_typed n i (d ∷ ds) (t ∷ ts) [] h = absurd h

  pub keys_typed : {n : ℕ} {i : Interpretation} {key : rules.Chunk} {r : run.Resource} {a : Sort} → Keys n i key r a → IsTypedResource p world.Held r
  keys_typed (of_field f r k g e) = tt
  keys_typed {n = n} {i = i} (of_instance x ts vs k) = (k.held, (k.predicate, k.named, k.no_perm, values_typed n i k.predicate.parameters ts vs k.each))

  -- a chunk with a key, an amount and a value
  pub record Keyed (n : ℕ) (i : Interpretation) (heap : run.Heap) (r : run.Resource) (new : rules.Chunk) : Type 0 where
    pub chunk : ChunkStands means world n i heap new
    pub resource : resource_of i new ≡ r
    pub receiver : new.is_field ≡ true → (k : ℕ) × (value i (first_argument new.arguments) ≡ element (RefValue k))

  pub keyed : {n : ℕ} {i : Interpretation} {heap : run.Heap} {key : rules.Chunk} {r : run.Resource} {b : Sort} → Keys n i key r b → (a t : Term) (inner : Bool) → Good means n i a RealSort → Le none (as_fraction (value i a)) → Good means n i t b →
      (key.is_field ≡ false → IsWritten t) → (Positive (as_fraction (value i a)) → IsThere p heap r (value i t)) → (inner ≡ true → InnerAt p world.marks heap r) → Keyed n i heap r (record key { amount = a; value = t; inner = inner })
  keyed {n = n} {i = i} {heap = heap} (of_field f r k g e) a t inner ga sign gt written there marked = record {
    chunk = record {
      field = λ e. record { single = refl; receiver = g };
      instance = λ e. absurd (true≢false e);
      written = λ e. absurd (true≢false e);
      amount = ga;
      sign = sign;
      content = gt;
      content_is = λ h. subst (λ (l : run.Location). IsThere p heap (run.At l) (value i t)) (sym at) (there h);
      is_root = λ e m. absurd (true≢false e);
      is_inner = λ e m. absurd (true≢false e);
    };
    resource = ap run.At at;
    receiver = λ b. (k, e);
  }
    where
      at : location_of i (field_key f r) ≡ at_field k f
      at = ap (λ e. at_field (ref_of e) f) e
  keyed {n = n} {i = i} {heap = heap} (of_instance x ts vs k) a t inner ga sign gt written there marked = record {
    chunk = record {
      field = λ e. absurd (true≢false (sym e));
      instance = λ e. record { held = k.held; predicate = k.predicate; named = k.named; no_perm = k.no_perm; each = subst (λ us. TermsStand means world n i k.predicate.parameters ts us) (sym back) k.each };
      written = written;
      amount = ga;
      sign = sign;
      content = gt;
      content_is = λ h. subst (λ (us : List Value). IsThere p heap (run.Folded record { predicate = x; arguments = us }) (value i t)) (sym back) (there h);
      is_root = λ e m. absurd (true≢false (sym m));
      is_inner = λ e m. subst (λ (us : List Value). IsInner p world.marks heap record { predicate = x; arguments = us }) (sym back) (marked m);
    };
    resource = ap (λ (us : List Value). let o : run.Instance = record { predicate = x; arguments = us } in run.Folded o) back;
    receiver = λ b. absurd (true≢false (sym b));
  }
    where
      back : values_of i ts ≡ vs
      back = values_back n i k.predicate.parameters ts vs k.no_perm k.each

  -- Equal arguments

  module _ (n : ℕ) (i : Interpretation) where
    record EqualOnto (c : Term) (ss ts : List Term) : Type 0 where
      pub good : Good means n i (equal_onto c ss ts) BoolSort
      pub told : IsTrueIn i (equal_onto c ss ts) → IsTrueIn i c × (values_of i ss ≡ values_of i ts)

    equal_more : (c : Term) (ds : List Declaration) (ss ts : List Term) (us vs : List Value) → Good means n i c BoolSort → TermsStand means world n i ds ss us → TermsStand means world n i ds ts vs → EqualOnto c ss ts
    equal_more c [] [] [] [] [] g f k = record { good = g; told = λ h. (h, refl) }
    equal_more c (d ∷ ds) (s ∷ ss) (t ∷ ts) (u ∷ us) (v ∷ vs) g f k =
        let ge = good_equals means f.0.good k.0.good in
        let r = equal_more (and c (equals s t)) ds ss ts us vs (good_and means g ge) f.1 k.1 in
        record {
          good = r.good;
          told = λ h.
              let m = r.told h in
              let both = both_true means g ge m.0 in
              (both.0, ap₂ (λ (e : Element) (ws : List Value). value_of e ∷ ws) (equal_is i s t both.1) m.1);
        }
    equal_more c [] [] [] [] (v ∷ vs) g f k = absurd k
    equal_more c [] [] [] (u ∷ us) vs g f k = absurd f
    equal_more c [] [] (t ∷ ts) us vs g f k = absurd k
    equal_more c [] (s ∷ ss) ts us vs g f k = absurd f
    equal_more c (d ∷ ds) [] ts us vs g f k = absurd f
    equal_more c (d ∷ ds) (s ∷ ss) ts [] vs g f k = absurd f
    equal_more c (d ∷ ds) (s ∷ ss) [] (u ∷ us) vs g f k = absurd k
    equal_more c (d ∷ ds) (s ∷ ss) (t ∷ ts) (u ∷ us) [] g f k = absurd k

    record EqualArguments (ss ts : List Term) : Type 0 where
      pub good : Good means n i (equal_arguments ss ts) BoolSort
      pub told : IsTrueIn i (equal_arguments ss ts) → values_of i ss ≡ values_of i ts

    equal_all : (ds : List Declaration) (ss ts : List Term) (us vs : List Value) → TermsStand means world n i ds ss us → TermsStand means world n i ds ts vs → EqualArguments ss ts
    equal_all [] [] [] [] [] f k = record { good = record { formed = truth true; settled = tt }; told = λ h. refl }
    equal_all (d ∷ ds) (s ∷ ss) (t ∷ ts) (u ∷ us) (v ∷ vs) f k =
        let r = equal_more (equals s t) ds ss ts us vs (good_equals means f.0.good k.0.good) f.1 k.1 in
        record { good = r.good; told = λ h. let m = r.told h in ap₂ (λ (e : Element) (ws : List Value). value_of e ∷ ws) (equal_is i s t m.0) m.1 }
    equal_all [] [] [] [] (v ∷ vs) f k = absurd k
    equal_all [] [] [] (u ∷ us) vs f k = absurd f
    equal_all [] [] (t ∷ ts) us vs f k = absurd k
    equal_all [] (s ∷ ss) ts us vs f k = absurd f
    equal_all (d ∷ ds) [] ts us vs f k = absurd f
    equal_all (d ∷ ds) (s ∷ ss) ts [] vs f k = absurd f
    equal_all (d ∷ ds) (s ∷ ss) [] (u ∷ us) vs f k = absurd k
    equal_all (d ∷ ds) (s ∷ ss) (t ∷ ts) (u ∷ us) [] f k = absurd k

    -- equal arguments tell that a chunk of a key's kind and name is of its resource
    record SameKey (d key : rules.Chunk) (r : run.Resource) : Type 0 where
      pub good : Good means n i (equal_arguments d.arguments key.arguments) BoolSort
      pub told : IsTrueIn i (equal_arguments d.arguments key.arguments) → resource_of i d ≡ r

    same_key : {heap : run.Heap} {key : rules.Chunk} {r : run.Resource} {b : Sort} → Keys n i key r b → (d : rules.Chunk) → d.is_field ≡ key.is_field → d.resource ≡ key.resource → ChunkStands means world n i heap d → SameKey d key r
    same_key (of_field f r k g e) d kind resource st =
        let o = st.field kind in
        let ge = good_equals means o.receiver g in
        record {
          good = subst (λ ts. Good means n i (equal_arguments ts (r ∷ [])) BoolSort) (sym o.single) ge;
          told = λ h.
              let m = equal_is i (first_argument d.arguments) r (subst (λ ts. IsTrueIn i (equal_arguments ts (r ∷ []))) o.single h) in
              field_resource i d kind ∙ ap₂ (λ (x : ℕ) (g : Name). run.At (at_field x g)) (ap ref_of (m ∙ e)) resource;
        }
    same_key (of_instance x ts vs k) d kind resource st =
        let o = st.instance kind in
        let same : o.predicate ≡ k.predicate = same_Some o.predicate k.predicate (sym o.named ∙ ap (predicate_named p) resource ∙ k.named) in
        let mine = subst (λ (q : Predicate). TermsStand means world n i q.parameters d.arguments (values_of i d.arguments)) same o.each in
        let r = equal_all k.predicate.parameters d.arguments ts (values_of i d.arguments) vs mine k.each in
        record {
          good = r.good;
          told = λ h.
              instance_resource i d kind
              ∙ ap₂ (λ (y : Name) (us : List Value). let q : run.Instance = record { predicate = y; arguments = us } in run.Folded q) resource (r.told h ∙ values_back n i k.predicate.parameters ts vs k.no_perm k.each);
        }

  -- what is wanted of a candidate

  module _ {n : ℕ} {i : Interpretation} {heap : run.Heap} {key : rules.Chunk} {r : run.Resource} {b : Sort} (keys : Keys n i key r b) (d : rules.Chunk) (kind : d.is_field ≡ key.is_field) (resource : d.resource ≡ key.resource) (st : ChunkStands means world n i heap d) where
    pub good_some : Good means n i (holds_some key.arguments d) BoolSort
    good_some = good_and means (same_key n i keys d kind resource st).good (good_positive means st.amount)

    pub good_amount : {a : Term} → Good means n i a RealSort → Good means n i (holds_amount a key.arguments d) BoolSort
    good_amount ga = good_and means (same_key n i keys d kind resource st).good (good_at_most means ga st.amount)

    pub some_is : IsTrueIn i (holds_some key.arguments d) → (resource_of i d ≡ r) × Positive (amount_of i d)
    some_is h =
        let k = same_key n i keys d kind resource st in
        let both = both_true means k.good (good_positive means st.amount) h in
        (k.told both.0, true_positive means st.amount both.1)

    pub amount_is : {a : Term} → Good means n i a RealSort → IsTrueIn i (holds_amount a key.arguments d) → (resource_of i d ≡ r) × Le (as_fraction (value i a)) (amount_of i d)
    amount_is ga h =
        let k = same_key n i keys d kind resource st in
        let both = both_true means k.good (good_at_most means ga st.amount) h in
        (k.told both.0, true_le means d.amount ga both.1)
