-- Writing and putting chunks, the facts that then hold, and what a change of the heap leaves.
use Rattle.std.proofs.Common.{◌≡◌, ℕ, Bool, true, false, not, cond, ◌&&◌, ◌||◌, ◌⊎◌, inl, inr, List, [], ◌∷◌, ◌++◌, slice_set, refl, sym, ◌∙◌, ap, ap₂, subst, true≢false}
use Rattle.std.proofs.lemmas.Bool.{and_from, or_cases, not-true, and_parts}
use Rattle.vx_frac.specs.Fractions.{Fraction, none, full, sum}
use Rattle.vx_ast.specs.declared.ValueType.{ValueType}
use Rattle.vx_ast.specs.declared.ValueType.TheVariants as type
use Rattle.vx_ast.specs.Syntax.{Name, Program}
use Rattle.vx_ast.specs.Types.{same_type}
use Rattle.vx_meaning.specs.Values.{Value, RefValue, type_of}
use Rattle.vx_meaning.specs.States as run
use Rattle.vx_meaning.specs.Consistent.{Changes}
use Rattle.vx_terms.specs.Sorts.{BoolSort, RealSort, RefSort}
use Rattle.vx_terms.specs.Terms.{Term, same}
use Rattle.vx_terms.specs.Build.{equals, less, less_equal, add, null, zero_amount, whole_amount}
use Rattle.vx_terms.specs.Interpretations.{Each, Interpretation, Element, TreeElement, as_bool, as_fraction, value, IsTrueIn}
use Rattle.vx_terms.proofs.Same.{term_is, bool_is}
use Rattle.vx_terms.proofs.Build.{ite_value}
use Rattle.vx_rules.specs.States as rules
use Rattle.vx_rules.specs.Chunks.{Candidate, is_kin, same_arguments, chosen, candidates, field_key, first_argument, sum_at, merged, agree, is_not_null, at_most_whole, one_value, with_other, apart, at_most_three, whole_fact, bounding, field_facts, instance_facts, put_over, put_facts, put}
use Rattle.vx_rules.specs.Rules.{field_sort}
use Rattle.vx_types.specs.Typing.{Scope}
use Rattle.vx_elements.proofs.Settled.{Meaning}
use Rattle.vx_elements.proofs.Built.{Good, good_negate, good_and, good_implies, good_equals, good_ite}
use Rattle.vx_elements.proofs.Elements.{element}
use Rattle.vx_amounts.proofs.Amounts.{Le, Positive, Same, le-refl, le-trans, le-is, positive-le, positive-or, not-positive, add-right, add-left, add-mono, above-add, below-add, add-below, none-none, none-sum, add-full, sum_comm, sum_assoc}
use Rattle.vx_elements.proofs.Truth.{equal_is, is_equal, both_true, if_true, denied, le_true, true_positive, positive_true, good_whole, good_null, good_positive, good_at_most, add_is, good_sum}
use Rattle.vx_elements.proofs.Places.{IsPlace, matching_places, matching_same}
use Rattle.vx_elements.proofs.Lists.{name_is, each_append, each_in, each_both}
use Rattle.vx_sound.proofs.Marks.{Unmarked, IsRoot, IsInner, none_inner}
use Rattle.vx_sound.proofs.World.{at_field, Limited, IsTypedResource, World, Changing}
use Rattle.vx_sound.proofs.Standard.{ite_written}
use Rattle.vx_sound.proofs.Stands.{ref_of, values_of, location_of, instance_of, resource_of, amount_of, own, held, IsThere, content_sort, ChunkStands, HeapStands, Stands, chunk_typed, facts_stand}
use Rattle.vx_sound.proofs.Chunks.{location_same, location_is, held_directly, resource_same, field_resource, own_itself, own_sign, held_sign, each_own, Apart, taken_apart, put_together}
use Rattle.vx_sound.proofs.Candidates.{Keyed}
use Rattle.vx_sound.proofs.Summed.{IsOf as OfField, parts, SumIs, sum_is, parts_below, candidates_are, candidates_by}

pub type_same : (t : ValueType) → same_type t t ≡ true
type_same type.Int = refl
type_same type.Bool = refl
type_same type.Ref = refl
type_same type.Perm = refl

append_nil : {A : Type 0} (xs : List A) → xs ++ [] ≡ xs
append_nil [] = refl
append_nil (x ∷ xs) = ap (λ ys. x ∷ ys) (append_nil xs)

-- what is read where it was written, and elsewhere
pub read_written : (p : Program) (l : run.Location) (v : Value) (heap : run.Heap) → type_of v ≡ run.field_type p l.field → run.value_at p ((l, v) ∷ heap) l ≡ v
read_written p l v heap e =
    ap (λ b. cond b v (run.find_value (run.field_type p l.field) heap l)) (and_from _ _ (location_same l) (subst (λ t. same_type (type_of v) t ≡ true) e (type_same (type_of v))))

pub read_elsewhere : (p : Program) (l d : run.Location) (v : Value) (heap : run.Heap) → run.same_location d l ≡ false → run.value_at p ((l, v) ∷ heap) d ≡ run.value_at p heap d
read_elsewhere p l d v heap e =
    ap (λ b. cond (b && same_type (type_of v) (run.field_type p d.field)) v (run.find_value (run.field_type p d.field) heap d)) e

-- arguments that are the same
pub arguments_are : (ss ts : List Term) → same_arguments ss ts ≡ true → ss ≡ ts
arguments_are [] [] e = refl
arguments_are (s ∷ ss) (t ∷ ts) e = let q = and_parts (same s t) (same_arguments ss ts) e in ap₂ (λ (u : Term) (us : List Term). u ∷ us) (term_is s t q.0) (arguments_are ss ts q.1)
arguments_are [] (t ∷ ts) e = absurd (true≢false (sym e))
arguments_are (s ∷ ss) [] e = absurd (true≢false (sym e))

-- a chunk is put, whether or not the facts speak of values
abbrev pub put_saying : Bool → rules.Chunk → rules.State → rules.State
put_saying summed new s = cond (same new.amount zero_amount) s (rules.with_facts (put_facts summed s.bounded new s.heap) (rules.with_heap (put_over (chosen true new 0 s.heap) new s.heap) s))

module _ (means : Meaning) (world : World) where
  abbrev p : Program
  p = world.program

  -- there is one element there
  same_there : (heap : run.Heap) (r : run.Resource) → IsTypedResource p world.Held r → (d e : Element) → IsThere p heap r d → IsThere p heap r e → d ≡ e
  same_there heap (run.At l) typed d e h k = h ∙ sym k
  same_there heap (run.Folded o) typed d e h k = h.2 ∙ ap TreeElement (world.single heap o h.0 k.0 typed h.1 k.1) ∙ sym k.2

  -- with another heap, where what is there stays there
  pub recontent : {n : ℕ} {i : Interpretation} {heap new : run.Heap} {c : rules.Chunk} → world.marks ≡ Unmarked → ChunkStands means world n i heap c →
      (Positive (amount_of i c) → IsThere p heap (resource_of i c) (value i c.value) → IsThere p new (resource_of i c) (value i c.value)) → ChunkStands means world n i new c
  recontent {i = i} {heap = heap} {c = c} none k e = record {
    field = k.field;
    instance = k.instance;
    written = k.written;
    amount = k.amount;
    sign = k.sign;
    content = k.content;
    content_is = λ h. e h (k.content_is h);
    is_root = k.is_root;
    is_inner = λ f g. absurd (none_inner p heap (instance_of i c) none (k.is_inner f g));
  }

  -- each chunk's amount is held
  pub all_held : (n : ℕ) (i : Interpretation) (heap : run.Heap) (holdings : run.Holdings) (chunks : rules.Heap) → HeapStands means world n i chunks heap holdings → Each (λ (d : rules.Chunk). Le (amount_of i d) (run.amount holdings (resource_of i d))) chunks
  all_held n i heap holdings chunks st = go chunks st.each st.sums
    where
      go : (cs : rules.Heap) → Each (ChunkStands means world n i heap) cs → ((r : run.Resource) → Le (held i cs r) (run.amount holdings r)) → Each (λ (d : rules.Chunk). Le (amount_of i d) (run.amount holdings (resource_of i d))) cs
      go [] h s = tt
      go (c ∷ cs) h s = (
        le-trans (le-is (sym (own_itself i c))) (le-trans (above-add (own i c (resource_of i c)) (held i cs (resource_of i c)) (held_sign means world n i heap cs (resource_of i c) h.1)) (s (resource_of i c))),
        go cs h.1 (λ r. le-trans (below-add (held i cs r) (own_sign i c r h.0.sign)) (s r)),
      )

  pub heap_changed : Changing world → (n : ℕ) (i : Interpretation) (chunks : rules.Heap) (c : run.State) (new : run.Heap) → HeapStands means world n i chunks c.heap c.holdings → world.Holds c.heap c.holdings → Changes p c new →
      HeapStands means world n i chunks new c.holdings
  heap_changed changing n i chunks c new st holds kept = record {
    each = each_both (ChunkStands means world n i c.heap) (λ (d : rules.Chunk). Le (amount_of i d) (run.amount c.holdings (resource_of i d))) (ChunkStands means world n i new)
        (λ d k m. recontent changing.unmarked k (λ h. stays (resource_of i d) (value i d.value) (chunk_typed means world k) (positive-le h m))) chunks st.each (all_held n i c.heap c.holdings chunks st);
    sums = st.sums;
  }
    where
      stays : (r : run.Resource) (e : Element) → IsTypedResource p world.Held r → Positive (run.amount c.holdings r) → IsThere p c.heap r e → IsThere p new r e
      stays (run.At l) e typed h k = k ∙ ap element (sym (kept l (held_directly p c.heap c.holdings l h)))
      stays (run.Folded o) e typed h k = (k.0, changing.changed_tree c new kept holds o typed h k.0 k.1, k.2)

  -- Writing: beside a chunk with the whole location, another chunk there has nothing.
  pub written_stands : Changing world → (n : ℕ) (i : Interpretation) (heap : run.Heap) {key : rules.Chunk} {h : rules.Heap} {c : Candidate} {holdings : run.Holdings} (pl : IsPlace key h c) → c.chunk.is_field ≡ true → HeapStands means world n i h heap holdings →
      world.Holds heap holdings → Le full (amount_of i c.chunk) → (t : Term) (v : Value) → Good means n i t (field_sort p c.chunk.resource) → value i t ≡ element v → type_of v ≡ run.field_type p c.chunk.resource →
      HeapStands means world n i (slice_set h c.number (record c.chunk { value = t })) ((location_of i c.chunk, v) ∷ heap) holdings
  written_stands changing n i heap {h = h} {c = c} {holdings = holdings} pl kind st holds most t v g e f =
      subst (λ x. HeapStands means world n i x ((location_of i c.chunk, v) ∷ heap) holdings) (sym (pl.set_is (record c.chunk { value = t })))
      (put_together means world n i ((location_of i c.chunk, v) ∷ heap) pl.front (record c.chunk { value = t }) pl.back record {
        chunk = record {
          field = k.chunk.field;
          instance = k.chunk.instance;
          written = λ q. absurd (true≢false (sym kind ∙ q));
          amount = k.chunk.amount;
          sign = k.chunk.sign;
          content = subst (λ b. Good means n i t (content_sort p b c.chunk.resource)) (sym kind) g;
          content_is = λ q. subst (λ r. IsThere p ((location_of i c.chunk, v) ∷ heap) r (value i t)) (sym (field_resource i c.chunk kind)) (e ∙ ap element (sym (read_written p (location_of i c.chunk) v heap f)));
          is_root = k.chunk.is_root;
          is_inner = λ q. absurd (true≢false (sym kind ∙ q));
        };
        others = each_both (ChunkStands means world n i heap) Among (ChunkStands means world n i ((location_of i c.chunk, v) ∷ heap))
            (λ d m q. recontent changing.unmarked m (λ pos. elsewhere d q.0 q.1 pos (chunk_typed means world m) (resource_of i d) refl)) (pl.front ++ pl.back) k.others (owned (pl.front ++ pl.back) k.others (λ r. le-refl (held i (pl.front ++ pl.back) r)));
        sums = k.sums;
      })
    where
      k : Apart means world n i heap pl.front c.chunk pl.back holdings
      k = taken_apart means world n i heap pl st

      l : run.Location
      l = location_of i c.chunk

      own_is : own i c.chunk (run.At (location_of i c.chunk)) ≡ amount_of i c.chunk
      own_is = subst (λ r. own i c.chunk r ≡ amount_of i c.chunk) (field_resource i c.chunk kind) (own_itself i c.chunk)

      sum_there : Le (sum (own i c.chunk (run.At (location_of i c.chunk))) (held i (pl.front ++ pl.back) (run.At (location_of i c.chunk)))) (run.amount holdings (run.At (location_of i c.chunk)))
      sum_there = k.sums (run.At (location_of i c.chunk))

      whole : Le full (own i c.chunk (run.At (location_of i c.chunk)))
      whole = le-trans most (le-is (sym own_is))

      nothing : Le (held i (pl.front ++ pl.back) (run.At (location_of i c.chunk))) none
      nothing = add-full (own i c.chunk (run.At l)) (held i (pl.front ++ pl.back) (run.At l)) whole (le-trans sum_there ((world.limited heap holdings holds).most changing.bounded l))

      all_there : Le full (run.amount holdings (run.At (location_of i c.chunk)))
      all_there = le-trans whole (le-trans (above-add (own i c.chunk (run.At l)) (held i (pl.front ++ pl.back) (run.At l)) (held_sign means world n i heap (pl.front ++ pl.back) (run.At l) k.others)) sum_there)

      -- what the others have, each by itself
      Among : rules.Chunk → Type 0
      Among d = Le (own i d (run.At (location_of i c.chunk))) (held i (pl.front ++ pl.back) (run.At (location_of i c.chunk))) × ((r : run.Resource) → Le (own i d r) (run.amount holdings r))

      owned : (cs : rules.Heap) → Each (ChunkStands means world n i heap) cs → ((r : run.Resource) → Le (held i cs r) (held i (pl.front ++ pl.back) r)) → Each Among cs
      owned [] h le = tt
      owned (d ∷ ds) h le =
          let mine = λ (r : run.Resource). le-trans (above-add (own i d r) (held i ds r) (held_sign means world n i heap ds r h.1)) (le r) in (
            (mine (run.At (location_of i c.chunk)), λ r. le-trans (mine r) (le-trans (below-add (held i (pl.front ++ pl.back) r) (own_sign i c.chunk r k.chunk.sign)) (k.sums r))),
            owned ds h.1 (λ r. le-trans (below-add (held i ds r) (own_sign i d r h.0.sign)) (le r)),
          )

      elsewhere : (d : rules.Chunk) → Le (own i d (run.At (location_of i c.chunk))) (held i (pl.front ++ pl.back) (run.At (location_of i c.chunk))) → ((r : run.Resource) → Le (own i d r) (run.amount holdings r)) → Positive (amount_of i d) → IsTypedResource p world.Held (resource_of i d) →
          (r : run.Resource) → resource_of i d ≡ r → IsThere p heap r (value i d.value) → IsThere p ((location_of i c.chunk, v) ∷ heap) r (value i d.value)
      elsewhere d q some_held pos typed (run.At m) is there = there ∙ ap element (sym (go (run.same_location m l) refl))
        where
          go : (b : Bool) → run.same_location m (location_of i c.chunk) ≡ b → run.value_at p ((location_of i c.chunk, v) ∷ heap) m ≡ run.value_at p heap m
          go false s = read_elsewhere p l m v heap s
          go true s =
              let at : own i d (run.At m) ≡ amount_of i d = subst (λ x. own i d x ≡ amount_of i d) is (own_itself i d) in
              let at' : own i d (run.At l) ≡ amount_of i d = subst (λ (x : run.Location). own i d (run.At x) ≡ amount_of i d) (location_is m l s) at in
              absurd (not-positive pos (le-trans (le-is (sym at')) (le-trans q nothing)))
      elsewhere d q some_held pos typed (run.Folded o) is there =
          let own_it : own i d (run.Folded o) ≡ amount_of i d = subst (λ x. own i d x ≡ amount_of i d) is (own_itself i d) in
          let held_it : Positive (run.amount holdings (run.Folded o)) = positive-le pos (le-trans (le-is (sym own_it)) (some_held (run.Folded o))) in
          (there.0, changing.written_tree heap holdings l v holds all_there o (subst (IsTypedResource p world.Held) is typed) held_it there.0 there.1, there.2)

  module _ (n : ℕ) (i : Interpretation) (heap : run.Heap) where
    abbrev Fact : Term → Type 0
    Fact t = Good means n i t BoolSort × IsTrueIn i t

    bounding_facts : (b : Bool) (ts : List Term) → (b ≡ true → Each Fact ts) → Each Fact (bounding b ts)
    bounding_facts true ts h = h refl
    bounding_facts false ts h = tt

    -- with each other chunk of the location at most the whole exists, and both have one value
    apart_facts : (summed bounded : Bool) (whole : rules.Chunk) → whole.is_field ≡ true → ChunkStands means world n i heap whole → (h : rules.Heap) → Each (ChunkStands means world n i heap) h →
        (bounded ≡ true → Each (λ (d : rules.Chunk). same_arguments whole.arguments d.arguments ≡ false → Le (sum (amount_of i whole) (own i d (resource_of i whole))) full) h) → Each Fact (apart summed bounded whole h)
    apart_facts summed bounded whole kind w [] st le = tt
    apart_facts summed bounded whole kind w (d ∷ ds) st le = go (is_kin whole d && not (same_arguments whole.arguments d.arguments)) refl (apart_facts summed bounded whole kind w ds st.1 (λ on. (le on).1))
      where
        gr : Good means n i (first_argument whole.arguments) RefSort
        gr = (w.field kind).receiver

        gb : Good means n i (less_equal (add whole.amount d.amount) whole_amount) BoolSort
        gb = good_at_most means (good_sum means w.amount st.0.amount) (good_whole means)

        ge : d.is_field ≡ true → Good means n i (equals (first_argument d.arguments) (first_argument whole.arguments)) BoolSort
        ge f = good_equals means (st.0.field f).receiver gr

        -- where the receivers are equal both are at one location
        one_place : d.is_field ≡ true → whole.resource ≡ d.resource → value i (first_argument d.arguments) ≡ value i (first_argument whole.arguments) → resource_of i d ≡ resource_of i whole
        one_place f e t =
            let at : location_of i d ≡ location_of i whole =
            ap₂ (λ (r : ℕ) (f : Name). let l : run.Location = record { receiver = r; field = f } in l) (ap ref_of t) (sym e) in
            field_resource i d f ∙ ap run.At at ∙ sym (field_resource i whole kind)

        holds : bounded ≡ true → d.is_field ≡ true → whole.resource ≡ d.resource → same_arguments whole.arguments d.arguments ≡ false → IsTrueIn i (equals (first_argument d.arguments) (first_argument whole.arguments)) → IsTrueIn i (less_equal (add whole.amount d.amount) whole_amount)
        holds on f e m t =
            let one : resource_of i d ≡ resource_of i whole = one_place f e (equal_is i (first_argument d.arguments) (first_argument whole.arguments) t) in
            let own_is : own i d (resource_of i whole) ≡ amount_of i d = subst (λ x. own i d x ≡ amount_of i d) one (own_itself i d) in
            le_true means whole_amount (good_sum means w.amount st.0.amount)
            (le-trans (add_is means w.amount st.0.amount).there (subst (λ x. Le (sum (amount_of i whole) x) full) own_is ((le on).0 m)))

        value_fact : d.is_field ≡ true → whole.resource ≡ d.resource → Fact (one_value whole d)
        value_fact f e =
            let gs = good_equals means gr (st.0.field f).receiver in
            let gw = good_positive means w.amount in
            let gd = good_positive means st.0.amount in
            let g2 = good_and means gs gw in
            let gall = good_and means g2 gd in
            let content : Good means n i d.value (content_sort p whole.is_field whole.resource) =
            subst (λ b. Good means n i d.value (content_sort p b whole.resource)) (f ∙ sym kind) (subst (λ x. Good means n i d.value (content_sort p d.is_field x)) (sym e) st.0.content) in
            let gv = good_equals means w.content content in (
              good_implies means gall gv,
              if_true means gall gv (λ h.
                  let three = both_true means g2 gd h in
                  let two = both_true means gs gw three.0 in
                  let one : resource_of i d ≡ resource_of i whole = one_place f e (sym (equal_is i (first_argument whole.arguments) (first_argument d.arguments) two.0)) in
                  is_equal i whole.value d.value (same_there heap (resource_of i whole) (chunk_typed means world w) (value i whole.value) (value i d.value)
                  (w.content_is (true_positive means w.amount two.1)) (subst (λ r. IsThere p heap r (value i d.value)) one (st.0.content_is (true_positive means st.0.amount three.1))))),
            )

        of_values : (s : Bool) → d.is_field ≡ true → whole.resource ≡ d.resource → Each Fact (cond s (one_value whole d ∷ []) [])
        of_values true f e = (value_fact f e, tt)
        of_values false f e = tt

        go : (b : Bool) → (is_kin whole d && not (same_arguments whole.arguments d.arguments)) ≡ b → Each Fact (apart summed bounded whole ds) →
            Each Fact (cond b (with_other summed bounded whole d ++ apart summed bounded whole ds) (apart summed bounded whole ds))
        go true e r =
            let q = and_parts (is_kin whole d) (not (same_arguments whole.arguments d.arguments)) e in
            let kin = and_parts _ _ q.0 in
            let f : d.is_field ≡ true = sym (bool_is whole.is_field d.is_field kin.0) ∙ kind in
            let x : whole.resource ≡ d.resource = name_is whole.resource d.resource kin.1 in
            each_append Fact (with_other summed bounded whole d) (apart summed bounded whole ds)
            (each_append Fact (bounding bounded (at_most_whole whole d ∷ [])) (cond summed (one_value whole d ∷ []) [])
            (bounding_facts bounded (at_most_whole whole d ∷ []) (λ on. ((good_implies means (ge f) gb, if_true means (ge f) gb (holds on f x (not-true _ q.1))), tt)))
            (of_values summed f x)) r
        go false e r = r

    module _ (new : rules.Chunk) (k : ChunkStands means world n i heap new) (null_is : value i null ≡ element (RefValue 0)) where
      null_fact : new.is_field ≡ true → {bounded : Bool} (holdings : run.Holdings) → Limited bounded holdings → Le (amount_of i new) (run.amount holdings (resource_of i new)) → Fact (is_not_null new)
      null_fact kind holdings b le =
          let ge : Good means n i (equals (first_argument new.arguments) null) BoolSort = good_equals means (k.field kind).receiver (good_null means) in
          let gn = good_negate means ge in
          let gp = good_positive means k.amount in (
            good_implies means gp gn,
            if_true means gp gn (λ h. denied means ge (λ e.
                let r : (location_of i new).receiver ≡ 0 = ap ref_of (equal_is i (first_argument new.arguments) null e ∙ null_is) in
                let z : Le (run.amount holdings (run.At (location_of i new))) none =
                subst (λ x. Le (run.amount holdings (run.At (at_field x new.resource))) none) (sym r) (b.null new.resource) in
                not-positive (true_positive means k.amount h) (le-trans le (subst (λ r. Le (run.amount holdings r) none) (sym (field_resource i new kind)) z)))),
          )

      amount_fact : new.is_field ≡ true → {bounded : Bool} (holdings : run.Holdings) → Limited bounded holdings → bounded ≡ true → Le (amount_of i new) (run.amount holdings (resource_of i new)) → Fact (less_equal new.amount whole_amount)
      amount_fact kind holdings b on le =
          (good_at_most means k.amount (good_whole means), le_true means whole_amount k.amount (le-trans le (subst (λ r. Le (run.amount holdings r) full) (sym (field_resource i new kind)) (b.most on (location_of i new)))))

      -- merged into a chunk with the same arguments
      module _ (c : rules.Chunk) (m : ChunkStands means world n i heap c) (kind : c.is_field ≡ new.is_field) (resource : c.resource ≡ new.resource) (same_args : same_arguments new.arguments c.arguments ≡ true) where
        at : resource_of i c ≡ resource_of i new
        at =
            ap₂ (λ (b : Bool) (x : Name). cond b (run.At (at_field (ref_of (value i (first_argument c.arguments))) x)) (run.Folded record { predicate = x; arguments = values_of i c.arguments })) kind resource
            ∙ ap (λ (ts : List Term). cond new.is_field (run.At (at_field (ref_of (value i (first_argument ts))) new.resource)) (run.Folded record { predicate = new.resource; arguments = values_of i ts })) (sym (arguments_are new.arguments c.arguments same_args))

        content' : Good means n i new.value (content_sort p c.is_field c.resource)
        content' = subst (λ b. Good means n i new.value (content_sort p b c.resource)) (sym kind) (subst (λ f. Good means n i new.value (content_sort p new.is_field f)) (sym resource) k.content)

        there_too : Positive (amount_of i new) → IsThere p heap (resource_of i c) (value i new.value)
        there_too h = subst (λ r. IsThere p heap r (value i new.value)) (sym at) (k.content_is h)

        merged_chunk : ChunkStands means world n i heap (merged new c)
        merged_chunk = record {
          field = m.field;
          instance = m.instance;
          written = λ f. ite_written (less zero_amount c.amount) c.value new.value (m.written f) (k.written (sym kind ∙ f));
          amount = good_sum means m.amount k.amount;
          sign = le-trans (none-none m.sign k.sign) (add_is means m.amount k.amount).back;
          content = good_ite means (good_positive means m.amount) m.content content';
          content_is = λ h. subst (IsThere p heap (resource_of i c)) (sym (ite_value i (less zero_amount c.amount) c.value new.value)) (go h (as_bool (value i (less zero_amount c.amount))) refl);
          is_root = λ f g. elim (or_cases c.root new.root g) [ inl h ↦ m.is_root f h | inr h ↦ subst (IsRoot world.marks) instances (k.is_root (sym kind ∙ f) h) ];
          is_inner = λ f g. elim (or_cases c.inner new.inner g) [ inl h ↦ m.is_inner f h | inr h ↦ subst (IsInner p world.marks heap) instances (k.is_inner (sym kind ∙ f) h) ];
        }
          where
            instances : instance_of i new ≡ instance_of i c
            instances =
                ap₂ (λ (x : Name) (ts : List Term). let o : run.Instance = record { predicate = x; arguments = values_of i ts } in o) (sym resource) (arguments_are new.arguments c.arguments same_args)

            rest_positive : Positive (amount_of i (merged new c)) → as_bool (value i (less zero_amount c.amount)) ≡ false → Positive (amount_of i new)
            rest_positive h e =
                let small : Le (amount_of i c) none = positive-or (amount_of i c) (λ pos. absurd (true≢false (sym (positive_true means m.amount pos) ∙ e))) (λ z. z) in
                positive-le h (le-trans (add_is means m.amount k.amount).there (add-below (amount_of i new) small))

            go : Positive (amount_of i (merged new c)) → (b : Bool) → as_bool (value i (less zero_amount c.amount)) ≡ b → IsThere p heap (resource_of i c) (cond b (value i c.value) (value i new.value))
            go h true e = m.content_is (true_positive means m.amount e)
            go h false e = there_too (rest_positive h e)

        agree_fact : Fact (agree new c)
        agree_fact =
            let gc = good_positive means m.amount in
            let gn = good_positive means k.amount in
            let ga = good_and means gc gn in
            let ge = good_equals means m.content content' in (
              good_implies means ga ge,
              if_true means ga ge (λ h. let both = both_true means gc gn h in
                  is_equal i c.value new.value (same_there heap (resource_of i c) (chunk_typed means world m) (value i c.value) (value i new.value) (m.content_is (true_positive means m.amount both.0)) (there_too (true_positive means k.amount both.1)))),
            )

        merged_own : (r : run.Resource) (x : Fraction) (q : Fraction) (holdings : run.Holdings) → Same (amount_of i new) q → Le (sum (own i c r) x) (run.amount holdings r) →
            Le (sum (own i (merged new c) r) x) (run.amount (run.gained (resource_of i c) q holdings) r)
        merged_own r x q holdings s h = go (run.same_resource r (resource_of i c)) h
          where
            go : (b : Bool) → Le (sum (cond b (amount_of i c) none) x) (run.amount holdings r) →
                Le (sum (cond b (as_fraction (value i (add c.amount new.amount))) none) x) (cond b (sum q (run.amount holdings r)) (run.amount holdings r))
            go true h =
                let z : Le (as_fraction (value i (add c.amount new.amount))) (sum q (amount_of i c)) =
                le-trans (add_is means m.amount k.amount).there (le-trans (sum_comm (amount_of i c) (amount_of i new)).there (add-right (amount_of i c) s.there)) in
                le-trans (add-right x z) (le-trans (sum_assoc q (amount_of i c) x).there (add-left q h))
            go false h = h

      -- what is put, in the heap and in the holdings
      pub record IsPut (summed bounded : Bool) (chunks after : rules.Heap) (q : Fraction) (holdings : run.Holdings) (matching : List Candidate) : Type 0 where
        pub heap_stands : HeapStands means world n i after heap (run.gained (resource_of i new) q holdings)
        pub field_hold : new.is_field ≡ true → Each Fact (field_facts summed bounded matching new chunks)
        pub instance_hold : Each Fact (instance_facts matching new)

      new_held : (chunks : rules.Heap) (q : Fraction) (holdings : run.Holdings) → HeapStands means world n i chunks heap holdings → Same (amount_of i new) q →
          Le (amount_of i new) (run.amount (run.gained (resource_of i new) q holdings) (resource_of i new))
      new_held chunks q holdings st s =
          let r = resource_of i new in
          let sign : Le none (run.amount holdings r) = le-trans (held_sign means world n i heap chunks r st.each) (st.sums r) in
          subst (λ b. Le (amount_of i new) (cond b (sum q (run.amount holdings r)) (run.amount holdings r))) (sym (resource_same r)) (le-trans s.there (above-add q (run.amount holdings r) sign))

      added : (chunks : rules.Heap) (q : Fraction) (holdings : run.Holdings) (summed bounded : Bool) → HeapStands means world n i chunks heap holdings → Same (amount_of i new) q → Limited bounded (run.gained (resource_of i new) q holdings) →
          IsPut summed bounded chunks (chunks ++ new ∷ []) q holdings []
      added chunks q holdings summed bounded st s b =
          let after = run.gained (resource_of i new) q holdings in
          let le = new_held chunks q holdings st s in
          record {
            heap_stands = put_together means world n i heap chunks new [] record {
              chunk = k;
              others = subst (Each (ChunkStands means world n i heap)) (sym (append_nil chunks)) st.each;
              sums = λ r. subst (λ cs. Le (sum (own i new r) (held i cs r)) (run.amount (run.gained (resource_of i new) q holdings) r)) (sym (append_nil chunks)) (sum_at r);
            };
            field_hold = λ kind. (
              null_fact kind after b le,
              each_append Fact (bounding bounded (less_equal new.amount whole_amount ∷ [])) (apart summed bounded new chunks)
                  (bounding_facts bounded (less_equal new.amount whole_amount ∷ []) (λ on. (amount_fact kind after b on le, tt)))
                  (apart_facts summed bounded new kind k chunks st.each
                  (λ on. each_both (λ (d : rules.Chunk). Le (own i d (resource_of i new)) (held i chunks (resource_of i new))) (λ (d : rules.Chunk). Le (own i d (resource_of i new)) (held i chunks (resource_of i new)))
                  (λ (d : rules.Chunk). same_arguments new.arguments d.arguments ≡ false → Le (sum (amount_of i new) (own i d (resource_of i new))) full)
                  (λ d le2 le3 e. le-trans (add-left (amount_of i new) le2) (le-trans (add-right (held i chunks (resource_of i new)) (le-is (sym (own_itself i new)))) (le-trans (sum_at (resource_of i new)) (most kind on))))
                  chunks (each_own means world n i heap chunks (resource_of i new) st.each) (each_own means world n i heap chunks (resource_of i new) st.each))),
            );
            instance_hold = tt;
          }
        where
          most : new.is_field ≡ true → bounded ≡ true → Le (run.amount (run.gained (resource_of i new) q holdings) (resource_of i new)) full
          most kind on = subst (λ r. Le (run.amount (run.gained (resource_of i new) q holdings) r) full) (sym (field_resource i new kind)) (b.most on (location_of i new))

          sum_at : (r : run.Resource) → Le (sum (own i new r) (held i chunks r)) (run.amount (run.gained (resource_of i new) q holdings) r)
          sum_at r = go (run.same_resource r (resource_of i new))
            where
              go : (b : Bool) → Le (sum (cond b (amount_of i new) none) (held i chunks r)) (cond b (sum q (run.amount holdings r)) (run.amount holdings r))
              go true = add-mono s.there (st.sums r)
              go false = le-trans (none-sum (held i chunks r)).there (st.sums r)

      merges : (chunks : rules.Heap) (c : Candidate) (q : Fraction) (holdings : run.Holdings) (summed bounded : Bool) → IsPlace new chunks c → same_arguments new.arguments c.chunk.arguments ≡ true →
          HeapStands means world n i chunks heap holdings → Same (amount_of i new) q → Limited bounded (run.gained (resource_of i new) q holdings) → (more : List Candidate) →
          IsPut summed bounded chunks (slice_set chunks c.number (merged new c.chunk)) q holdings (c ∷ more)
      merges chunks c q holdings summed bounded pl same_args st s b more =
          record {
            heap_stands =
                subst (λ x. HeapStands means world n i x heap (run.gained (resource_of i new) q holdings)) (sym (pl.set_is (merged new c.chunk)))
                (put_together means world n i heap pl.front (merged new c.chunk) pl.back record { chunk = whole_stands; others = a.others; sums = sum_at });
            field_hold = λ kind. (
              null_fact kind after b le,
              each_append Fact (bounding bounded (less_equal new.amount whole_amount ∷ [])) (agree new c.chunk ∷ (bounding bounded (less_equal (merged new c.chunk).amount whole_amount ∷ []) ++ apart summed bounded (merged new c.chunk) chunks))
                  (bounding_facts bounded (less_equal new.amount whole_amount ∷ []) (λ on. (amount_fact kind after b on le, tt))) (
                    agree_fact c.chunk a.chunk pl.kind pl.resource same_args,
                    each_append Fact (bounding bounded (less_equal (merged new c.chunk).amount whole_amount ∷ [])) (apart summed bounded (merged new c.chunk) chunks)
                        (bounding_facts bounded (less_equal (merged new c.chunk).amount whole_amount ∷ []) (λ on. (
                          (good_at_most means whole_stands.amount (good_whole means), le_true means whole_amount whole_stands.amount (le-trans (above-add (amount_of i (merged new c.chunk)) (held i (pl.front ++ pl.back) (resource_of i c.chunk)) (held_sign means world n i heap (pl.front ++ pl.back) (resource_of i c.chunk) a.others)) (whole_sum kind on))),
                          tt,
                        )))
                        (apart_facts summed bounded (merged new c.chunk) (pl.kind ∙ kind) whole_stands chunks st.each
                        (λ on. subst (Each Apart') (sym pl.is) (each_in Apart' pl.front pl.back here_same
                        (each_both (λ (d : rules.Chunk). Le (own i d (resource_of i c.chunk)) (held i (pl.front ++ pl.back) (resource_of i c.chunk))) (λ (d : rules.Chunk). Le (own i d (resource_of i c.chunk)) (held i (pl.front ++ pl.back) (resource_of i c.chunk))) Apart'
                        (λ d le2 le3 e. le-trans (add-left (amount_of i (merged new c.chunk)) le2) (whole_sum kind on)) (pl.front ++ pl.back)
                        (each_own means world n i heap (pl.front ++ pl.back) (resource_of i c.chunk) a.others) (each_own means world n i heap (pl.front ++ pl.back) (resource_of i c.chunk) a.others))))),
                  ),
            );
            instance_hold = (agree_fact c.chunk a.chunk pl.kind pl.resource same_args, tt);
          }
        where
          a : Apart means world n i heap pl.front c.chunk pl.back holdings
          a = taken_apart means world n i heap pl st

          after : run.Holdings
          after = run.gained (resource_of i new) q holdings

          le : Le (amount_of i new) (run.amount (run.gained (resource_of i new) q holdings) (resource_of i new))
          le = new_held chunks q holdings st s

          whole_stands : ChunkStands means world n i heap (merged new c.chunk)
          whole_stands = merged_chunk c.chunk a.chunk pl.kind pl.resource same_args

          at_new : resource_of i c.chunk ≡ resource_of i new
          at_new = at c.chunk a.chunk pl.kind pl.resource same_args

          sum_at : (r : run.Resource) → Le (sum (own i (merged new c.chunk) r) (held i (pl.front ++ pl.back) r)) (run.amount (run.gained (resource_of i new) q holdings) r)
          sum_at r =
              subst (λ y. Le (sum (own i (merged new c.chunk) r) (held i (pl.front ++ pl.back) r)) (run.amount (run.gained y q holdings) r)) at_new
              (merged_own c.chunk a.chunk pl.kind pl.resource same_args r (held i (pl.front ++ pl.back) r) q holdings s (a.sums r))

          whole_sum : new.is_field ≡ true → bounded ≡ true → Le (sum (amount_of i (merged new c.chunk)) (held i (pl.front ++ pl.back) (resource_of i c.chunk))) full
          whole_sum kind on =
              le-trans (add-right (held i (pl.front ++ pl.back) (resource_of i c.chunk)) (le-is (sym (own_itself i (merged new c.chunk)))))
              (le-trans (sum_at (resource_of i c.chunk))
              (subst (λ r. Le (run.amount (run.gained (resource_of i new) q holdings) r) full) (sym (field_resource i c.chunk (pl.kind ∙ kind))) (b.most on (location_of i c.chunk))))

          Apart' : rules.Chunk → Type 0
          Apart' d = same_arguments c.chunk.arguments d.arguments ≡ false → Le (sum (amount_of i (merged new c.chunk)) (own i d (resource_of i c.chunk))) full

          here_same : same_arguments c.chunk.arguments c.chunk.arguments ≡ false → Le (sum (amount_of i (merged new c.chunk)) (own i c.chunk (resource_of i c.chunk))) full
          here_same e = absurd (true≢false (sym (subst (λ (ts : List Term). same_arguments ts c.chunk.arguments ≡ true) (arguments_are new.arguments c.chunk.arguments same_args) same_args) ∙ e))

      pub is_put : (chunks : rules.Heap) (q : Fraction) (holdings : run.Holdings) (summed bounded : Bool) → HeapStands means world n i chunks heap holdings → Same (amount_of i new) q → Limited bounded (run.gained (resource_of i new) q holdings) →
          IsPut summed bounded chunks (put_over (chosen true new 0 chunks) new chunks) q holdings (chosen true new 0 chunks)
      is_put chunks q holdings summed bounded st s b = go (chosen true new 0 chunks) (matching_places new chunks) (matching_same new chunks 0)
        where
          go : (cs : List Candidate) → Each (IsPlace new chunks) cs → Each (λ (c : Candidate). same_arguments new.arguments c.chunk.arguments ≡ true) cs →
              IsPut summed bounded chunks (put_over cs new chunks) q holdings cs
          go [] pl e = added chunks q holdings summed bounded st s b
          go (c ∷ cs) pl e = merges chunks c q holdings summed bounded pl.0 e.0 st s b cs

  -- the whole state
  pub stands_with_holdings : {scope : Scope} {i : Interpretation} {s : rules.State} {c : run.State} (chunks : rules.Heap) (holdings : run.Holdings) → Stands means world scope i s c → HeapStands means world s.next i chunks c.heap holdings →
      world.Holds c.heap holdings → Stands means world scope i (rules.with_heap chunks s) (run.with_holdings holdings c)
  stands_with_holdings chunks holdings st h b = record { store = st.store; path = st.path; heap = h; old = st.old; awake = st.awake; bounded = st.bounded; null = st.null; standard = st.standard; owned = st.owned; marked = st.marked; holds = b; old_holds = st.old_holds }

  pub saying_stands : {scope : Scope} {i : Interpretation} {s : rules.State} {c : run.State} (summed : Bool) (new : rules.Chunk) (r : run.Resource) (q : Fraction) → Stands means world scope i s c → Keyed means world s.next i c.heap r new →
      Same (amount_of i new) q → world.Holds c.heap (run.gained r q c.holdings) →
      Stands means world scope i (put_saying summed new s) (run.with_holdings (run.gained r q c.holdings) c)
  saying_stands {scope = scope} {i = i} {s = s} {c = c} summed new r q st key same_q b = go (same new.amount zero_amount) refl
    where
      limits : Limited s.bounded (run.gained (resource_of i new) q c.holdings)
      limits = subst (λ x. Limited x (run.gained (resource_of i new) q c.holdings)) (sym st.bounded) (subst (λ y. Limited world.bounded (run.gained y q c.holdings)) (sym key.resource) (world.limited c.heap (run.gained r q c.holdings) b))

      is : IsPut s.next i c.heap new key.chunk st.null summed s.bounded s.heap (put_over (chosen true new 0 s.heap) new s.heap) q c.holdings (chosen true new 0 s.heap)
      is = is_put s.next i c.heap new key.chunk st.null s.heap q c.holdings summed s.bounded st.heap same_q limits

      with_more : Stands means world scope i (rules.with_heap (put_over (chosen true new 0 s.heap) new s.heap) s) (run.with_holdings (run.gained r q c.holdings) c)
      with_more = stands_with_holdings (put_over (chosen true new 0 s.heap) new s.heap) (run.gained r q c.holdings) st
          (subst (λ y. HeapStands means world s.next i (put_over (chosen true new 0 s.heap) new s.heap) c.heap (run.gained y q c.holdings)) key.resource is.heap_stands) b

      -- the sum of the chunks of the location is at most the whole
      sum_fact : new.is_field ≡ true → s.bounded ≡ true → Each (Fact s.next i c.heap) (whole_fact new (put_over (chosen true new 0 s.heap) new s.heap))
      sum_fact kind on = subst (λ (cs : List Candidate). Each (Fact s.next i c.heap) (at_most_three (first_argument new.arguments) cs)) (sym same_key)
          (of_three (candidates (field_key new.resource (first_argument new.arguments)) (put_over (chosen true new 0 s.heap) new s.heap)) of_sum.good below)
        where
          same_key : candidates new (put_over (chosen true new 0 s.heap) new s.heap) ≡ candidates (field_key new.resource (first_argument new.arguments)) (put_over (chosen true new 0 s.heap) new s.heap)
          same_key = candidates_by new (field_key new.resource (first_argument new.arguments)) (put_over (chosen true new 0 s.heap) new s.heap) kind refl (key.chunk.field kind).single

          of_one : Each (λ (d : Candidate). OfField means world s.next i c.heap new.resource d.chunk) (candidates (field_key new.resource (first_argument new.arguments)) (put_over (chosen true new 0 s.heap) new s.heap))
          of_one = candidates_are means world s.next i c.heap new.resource (first_argument new.arguments) (key.receiver kind).0 (key.chunk.field kind).receiver (key.receiver kind).1 (put_over (chosen true new 0 s.heap) new s.heap) is.heap_stands.each

          of_sum : SumIs means world s.next i c.heap new.resource (first_argument new.arguments) (key.receiver kind).0 (key.chunk.field kind).receiver (key.receiver kind).1
              (sum_at (first_argument new.arguments) (candidates (field_key new.resource (first_argument new.arguments)) (put_over (chosen true new 0 s.heap) new s.heap)))
              (parts means world s.next i c.heap new.resource (first_argument new.arguments) (key.receiver kind).0 (key.chunk.field kind).receiver (key.receiver kind).1 (candidates (field_key new.resource (first_argument new.arguments)) (put_over (chosen true new 0 s.heap) new s.heap)))
          of_sum = sum_is means world s.next i c.heap new.resource (first_argument new.arguments) (key.receiver kind).0 (key.chunk.field kind).receiver (key.receiver kind).1 (candidates (field_key new.resource (first_argument new.arguments)) (put_over (chosen true new 0 s.heap) new s.heap)) of_one

          below : Le (as_fraction (value i (sum_at (first_argument new.arguments) (candidates (field_key new.resource (first_argument new.arguments)) (put_over (chosen true new 0 s.heap) new s.heap))))) full
          below =
              le-trans of_sum.is.there
              (le-trans (parts_below means world s.next i c.heap new.resource (first_argument new.arguments) (key.receiver kind).0 (key.chunk.field kind).receiver (key.receiver kind).1 (put_over (chosen true new 0 s.heap) new s.heap) is.heap_stands.each)
              (le-trans (is.heap_stands.sums (run.At (at_field (key.receiver kind).0 new.resource))) (limits.most on (at_field (key.receiver kind).0 new.resource))))

          of_three : (cs : List Candidate) → Good means s.next i (sum_at (first_argument new.arguments) cs) RealSort → Le (as_fraction (value i (sum_at (first_argument new.arguments) cs))) full → Each (Fact s.next i c.heap) (at_most_three (first_argument new.arguments) cs)
          of_three [] g le = tt
          of_three (x ∷ []) g le = tt
          of_three (x ∷ y ∷ []) g le = tt
          of_three (x ∷ y ∷ z ∷ cs) g le = ((good_at_most means g (good_whole means), le_true means whole_amount g le), tt)

      facts_by : (x : Bool) → new.is_field ≡ x → Each (Fact s.next i c.heap) (cond x (field_facts summed s.bounded (chosen true new 0 s.heap) new s.heap ++ bounding (summed && s.bounded) (whole_fact new (put_over (chosen true new 0 s.heap) new s.heap))) (instance_facts (chosen true new 0 s.heap) new))
      facts_by true e = each_append (Fact s.next i c.heap) (field_facts summed s.bounded (chosen true new 0 s.heap) new s.heap) (bounding (summed && s.bounded) (whole_fact new (put_over (chosen true new 0 s.heap) new s.heap)))
          (is.field_hold e) (bounding_facts s.next i c.heap (summed && s.bounded) (whole_fact new (put_over (chosen true new 0 s.heap) new s.heap)) (λ on. sum_fact e (and_parts summed s.bounded on).1))
      facts_by false e = is.instance_hold

      go : (x : Bool) → same new.amount zero_amount ≡ x →
          Stands means world scope i (cond x s (rules.with_facts (put_facts summed s.bounded new s.heap) (rules.with_heap (put_over (chosen true new 0 s.heap) new s.heap) s)))
          (run.with_holdings (run.gained r q c.holdings) c)
      go true e =
          let z : Le none q = subst (λ t. Le (as_fraction (value i t)) q) (term_is new.amount zero_amount e) same_q.there in
          stands_with_holdings s.heap (run.gained r q c.holdings) st (record { each = st.heap.each; sums = λ l. le-trans (st.heap.sums l) (more z l (run.same_resource l r)) }) b
        where
          more : Le none q → (l : run.Resource) (x : Bool) → Le (run.amount c.holdings l) (cond x (sum q (run.amount c.holdings l)) (run.amount c.holdings l))
          more z l true = below-add (run.amount c.holdings l) z
          more z l false = le-refl _
      go false e = facts_stand means world (put_facts summed s.bounded new s.heap) (rules.with_heap (put_over (chosen true new 0 s.heap) new s.heap) s) with_more (facts_by new.is_field refl)

  pub put_stands : {scope : Scope} {i : Interpretation} {s : rules.State} {c : run.State} (new : rules.Chunk) (r : run.Resource) (q : Fraction) → Stands means world scope i s c → Keyed means world s.next i c.heap r new →
      Same (amount_of i new) q → world.Holds c.heap (run.gained r q c.holdings) →
      Stands means world scope i (put new s) (run.with_holdings (run.gained r q c.holdings) c)
  put_stands {s = s} new r q st key same_q b = saying_stands (not (rules.is_quiet s)) new r q st key same_q b
