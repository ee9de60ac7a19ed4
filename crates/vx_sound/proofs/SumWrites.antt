-- Writing a location in each chunk that may be there.
use Rattle.std.proofs.Common.{◌≡◌, ◌⊎◌, inl, inr, ℕ, zero, suc, ◌+◌, ◌≤◌, Bool, true, false, cond, ◌&&◌, List, [], ◌∷◌, ◌++◌, slice_set, slice_get, Some, refl, sym, ◌∙◌, ap, ap₂, subst, true≢false, le_trans, le_refl, arith}
use Rattle.vx_frac.specs.Fractions.{full, sum}
use Rattle.vx_ast.specs.Syntax.{Name, same_name, Program}
use Rattle.vx_meaning.specs.Values.{Value, RefValue, type_of}
use Rattle.vx_meaning.specs.States as run
use Rattle.vx_terms.specs.Sorts.{RefSort}
use Rattle.vx_terms.specs.Terms.{Term, sort_of, same_bool}
use Rattle.vx_terms.specs.Build.{equals}
use Rattle.vx_terms.specs.Interpretations.{Each, Interpretation, Element, IntElement, BoolElement, RealElement, TreeElement, Empty, IntLeaf, BoolLeaf, RefLeaf, PermLeaf, Pair, IsOf, as_bool, value}
use Rattle.vx_terms.proofs.Values.{value_of_sort}
use Rattle.vx_terms.proofs.Build.{ite_value}
use Rattle.vx_rules.specs.States as rules
use Rattle.vx_rules.specs.Chunks.{Candidate, is_kin, same_arguments, chosen, candidates, field_key, first_argument, value_where, written, written_each}
use Rattle.vx_rules.specs.Rules.{field_sort}
use Rattle.vx_types.specs.Typing.{Scope}
use Rattle.vx_elements.proofs.Settled.{Meaning, Extends, extends-refl, extends-trans, value_kept}
use Rattle.vx_elements.proofs.Built.{Good, good_later, good_equals, good_ite}
use Rattle.vx_elements.proofs.Elements.{element}
use Rattle.vx_elements.proofs.Truth.{is_equal}
use Rattle.vx_elements.proofs.Lists.{name_same}
use Rattle.vx_amounts.proofs.Amounts.{Le, Positive, positive-le}
use Rattle.vx_sound.proofs.World.{at_field, IsTypedInstance, IsTypedResource, World, Changing}
use Rattle.vx_sound.proofs.Stands.{ref_of, location_of, instance_of, resource_of, amount_of, own, held, IsThere, content_sort, ChunkStands, Stands, chunk_typed, chunk_later}
use Rattle.vx_sound.proofs.Chunks.{field_resource, instance_resource, location_is}
use Rattle.vx_sound.proofs.Goes.{Named, named}
use Rattle.vx_sound.proofs.Puts.{recontent, read_written, read_elsewhere}
use Rattle.vx_sound.proofs.Summed.{IsOf as OfField, at_it}
use Rattle.vx_sound.proofs.Slots.{StandsAt, Differ, others_stand}
use Rattle.vx_sound.proofs.SumTakes.{of_later}

-- What holds of each chunk at its number

abbrev pub EachAt : (ℕ → rules.Chunk → Type 0) → rules.Heap → Type 0
EachAt T [] = Unit {0}
EachAt T (c ∷ cs) = T 0 c × EachAt (λ m. T (suc m)) cs

pub each_at_map : (T U : ℕ → rules.Chunk → Type 0) → ((m : ℕ) (c : rules.Chunk) → T m c → U m c) → (h : rules.Heap) → EachAt T h → EachAt U h
each_at_map T U k [] e = tt
each_at_map T U k (c ∷ cs) e = (k 0 c e.0, each_at_map (λ m. T (suc m)) (λ m. U (suc m)) (λ m d t. k (suc m) d t) cs e.1)

set_at : (T U : ℕ → rules.Chunk → Type 0) (h : rules.Heap) (n : ℕ) (x : rules.Chunk) → U n x → ((m : ℕ) (c : rules.Chunk) → (m ≡ n → ⊥) → T m c → U m c) → EachAt T h → EachAt U (slice_set h n x)
set_at T U [] n x u k e = tt
set_at T U (c ∷ cs) zero x u k e = (u, each_at_map (λ m. T (suc m)) (λ m. U (suc m)) (λ m d t. k (suc m) d (λ q. cc) t) cs e.1)
set_at T U (c ∷ cs) (suc n) x u k e = (k 0 c (λ q. cc) e.0, set_at (λ m. T (suc m)) (λ m. U (suc m)) cs n x u (λ m d ne t. k (suc m) d (λ q. ne (less q)) t) e.1)
  where
    less : {a b : ℕ} → suc a ≡ suc b → a ≡ b
    less q = omega arith

pub all_at : (P : rules.Chunk → Type 0) (h : rules.Heap) → EachAt (λ m c. P c) h → Each P h
all_at P [] e = tt
all_at P (c ∷ cs) e = (e.0, all_at P cs e.1)

-- a number is one of theirs
abbrev pub Among : ℕ → List Candidate → Type 0
Among m [] = ⊥
Among m (d ∷ ds) = (d.number ≡ m) ⊎ Among m ds

among_left : (m : ℕ) (cs ds : List Candidate) → Among m cs → Among m (cs ++ ds)
among_left m (c ∷ cs) ds (inl e) = inl e
among_left m (c ∷ cs) ds (inr e) = inr (among_left m cs ds e)
among_left m [] ds e = absurd e

among_right : (m : ℕ) (cs ds : List Candidate) → Among m ds → Among m (cs ++ ds)
among_right m [] ds e = e
among_right m (c ∷ cs) ds e = inr (among_right m cs ds e)

abbrev shift : ℕ → ℕ → ℕ
shift n zero = n
shift n (suc m) = shift (suc n) m

shift_is : (n m : ℕ) → shift n m ≡ n + m
shift_is n zero = omega arith
shift_is n (suc m) = shift_is (suc n) m ∙ moved
  where
    moved : suc n + m ≡ n + suc m
    moved = omega arith

among_chosen : (key : rules.Chunk) (n : ℕ) (h : rules.Heap) → EachAt (λ m c. is_kin key c ≡ true → Among (shift n m) (chosen true key n h) ⊎ Among (shift n m) (chosen false key n h)) h
among_chosen key n [] = tt
among_chosen key n (c ∷ cs) = (
  λ q. here (is_kin key c) (same_arguments key.arguments c.arguments) q,
  each_at_map (λ m d. is_kin key d ≡ true → Among (shift (suc n) m) (chosen true key (suc n) cs) ⊎ Among (shift (suc n) m) (chosen false key (suc n) cs))
      (λ m d. is_kin key d ≡ true → Among (shift (suc n) m) (chosen true key n (c ∷ cs)) ⊎ Among (shift (suc n) m) (chosen false key n (c ∷ cs)))
      (λ m d t q. later m (t q)) cs (among_chosen key (suc n) cs),
)
  where
    here : (a s : Bool) → a ≡ true → Among n (cond (a && same_bool true s) (record { number = n; chunk = c } ∷ chosen true key (suc n) cs) (chosen true key (suc n) cs)) ⊎
        Among n (cond (a && same_bool false s) (record { number = n; chunk = c } ∷ chosen false key (suc n) cs) (chosen false key (suc n) cs))
    here true true q = inl (inl refl)
    here true false q = inr (inl refl)
    here false s q = absurd (true≢false (sym q))

    wider : (m : ℕ) (b : Bool) (ds : List Candidate) → Among m ds → Among m (cond b (record { number = n; chunk = c } ∷ ds) ds)
    wider m true ds e = inr e
    wider m false ds e = e

    later : (m : ℕ) → Among (shift (suc n) m) (chosen true key (suc n) cs) ⊎ Among (shift (suc n) m) (chosen false key (suc n) cs) → Among (shift (suc n) m) (chosen true key n (c ∷ cs)) ⊎ Among (shift (suc n) m) (chosen false key n (c ∷ cs))
    later m (inl e) = inl (wider (shift (suc n) m) (is_kin key c && same_bool true (same_arguments key.arguments c.arguments)) (chosen true key (suc n) cs) e)
    later m (inr e) = inr (wider (shift (suc n) m) (is_kin key c && same_bool false (same_arguments key.arguments c.arguments)) (chosen false key (suc n) cs) e)

-- each chunk of kin is a candidate
pub kin_among : (key : rules.Chunk) (h : rules.Heap) → EachAt (λ m c. is_kin key c ≡ true → Among m (candidates key h)) h
kin_among key h = each_at_map (λ m c. is_kin key c ≡ true → Among (shift 0 m) (chosen true key 0 h) ⊎ Among (shift 0 m) (chosen false key 0 h)) (λ m c. is_kin key c ≡ true → Among m (candidates key h))
    (λ m c t q. subst (λ x. Among x (candidates key h)) (shift_is 0 m ∙ plain m) (either (shift 0 m) (t q))) h (among_chosen key 0 h)
  where
    plain : (m : ℕ) → 0 + m ≡ m
    plain m = omega arith

    either : (m : ℕ) → Among m (chosen true key 0 h) ⊎ Among m (chosen false key 0 h) → Among m (candidates key h)
    either m (inl e) = among_left m (chosen true key 0 h) (chosen false key 0 h) e
    either m (inr e) = among_right m (chosen true key 0 h) (chosen false key 0 h) e

-- Another value changes nothing of what is held.
held_set : (i : Interpretation) (h : rules.Heap) (n : ℕ) (c : rules.Chunk) (u : Term) (x : run.Resource) → slice_get h n ≡ Some c → held i (slice_set h n (record c { value = u })) x ≡ held i h x
held_set i [] n c u x e = refl
held_set i (d ∷ ds) zero c u x e = ap (λ (y : rules.Chunk). sum (own i y x) (held i ds x)) (sym (some_is e))
  where
    some_is : Some d ≡ Some c → d ≡ c
    some_is e = cc
held_set i (d ∷ ds) (suc n) c u x e = ap (λ q. sum (own i d x) q) (held_set i ds n c u x e)

pub held_each : (i : Interpretation) (r t : Term) (cs : List Candidate) (s : rules.State) (x : run.Resource) → Each (StandsAt s.heap) cs → Differ cs → held i (written_each r t cs s).heap x ≡ held i s.heap x
held_each i r t [] s x at differ = refl
held_each i r t (d ∷ ds) s x at differ =
    let v = value_where r t d.chunk in
    held_each i r t ds (written d v s) x (others_stand s.heap d.number (record d.chunk { value = rules.name_of v s }) ds differ.0 at.1) differ.1
    ∙ held_set i s.heap d.number d.chunk (rules.name_of v s) x at.0

-- naming looks at no chunk
name_heap : (t : Term) (h : rules.Heap) (s : rules.State) → rules.after_name t (rules.with_heap h s) ≡ rules.with_heap h (rules.after_name t s)
name_heap t h s = go (rules.is_named t s)
  where
    known : (b : Bool) (e : rules.Entry) → cond b (rules.with_heap h (rules.after_fresh s)) (rules.with_entry e (rules.with_heap h (rules.after_fresh s))) ≡ rules.with_heap h (cond b (rules.after_fresh s) (rules.with_entry e (rules.after_fresh s)))
    known true e = refl
    known false e = refl

    go : (b : Bool) → cond b (rules.with_heap h s) (rules.with_fact (equals (rules.fresh (sort_of t) s) t) (rules.with_heap h (rules.after_fresh s))) ≡ rules.with_heap h (cond b s (rules.with_fact (equals (rules.fresh (sort_of t) s) t) (rules.after_fresh s)))
    go true = refl
    go false = known (rules.is_known (equals (rules.fresh (sort_of t) s) t) (rules.after_fresh s)) record { term = equals (rules.fresh (sort_of t) s) t; branch = false }

reference_is : (k : ℕ) (x : Element) → IsOf RefSort x → ref_of x ≡ k → (k ≡ 0 → ⊥) → x ≡ element (RefValue k)
reference_is k (TreeElement (RefLeaf m)) o q nn = ap (λ (j : ℕ). TreeElement (RefLeaf j)) q
reference_is k (TreeElement Empty) o q nn = absurd (nn (sym q))
reference_is k (TreeElement (IntLeaf z)) o q nn = absurd (nn (sym q))
reference_is k (TreeElement (BoolLeaf z)) o q nn = absurd (nn (sym q))
reference_is k (TreeElement (PermLeaf z)) o q nn = absurd (nn (sym q))
reference_is k (TreeElement (Pair a b)) o q nn = absurd (nn (sym q))
reference_is k (IntElement z) o q nn = absurd o
reference_is k (BoolElement z) o q nn = absurd o
reference_is k (RealElement z) o q nn = absurd o

module _ (means : Meaning) (world : World) (changing : Changing world) where
  abbrev p : Program
  p = world.program

  -- a candidate with the value that it then has
  new_stands : {n : ℕ} {i : Interpretation} (heap : run.Heap) (f : Name) (r : Term) (k : ℕ) (g : Good means n i r RefSort) (e : value i r ≡ element (RefValue k)) (t : Term) (v : Value) → value i t ≡ element v → type_of v ≡ run.field_type p f → (k ≡ 0 → ⊥) →
      (d : rules.Chunk) → OfField means world n i heap f d → (u : Term) → Good means n i u (field_sort p f) → value i u ≡ cond (as_bool (value i (equals (first_argument d.arguments) r))) (value i t) (value i d.value) →
      ChunkStands means world n i ((at_field k f, v) ∷ heap) (record d { value = u })
  new_stands {n = n} {i = i} heap f r k g e t v vt ty nn d m u gu is = record {
    field = m.stands.field;
    instance = m.stands.instance;
    written = λ q. absurd (true≢false (sym m.kind ∙ q));
    amount = m.stands.amount;
    sign = m.stands.sign;
    content = subst (λ b. Good means n i u (content_sort p b d.resource)) (sym m.kind) (subst (λ x. Good means n i u (field_sort p x)) (sym m.resource) gu);
    content_is = λ pos. go pos (as_bool (value i (equals (first_argument d.arguments) r))) refl;
    is_root = m.stands.is_root;
    is_inner = λ q. absurd (true≢false (sym m.kind ∙ q));
  }
    where
      go : Positive (amount_of i d) → (b : Bool) → as_bool (value i (equals (first_argument d.arguments) r)) ≡ b → IsThere p ((at_field k f, v) ∷ heap) (resource_of i d) (value i u)
      go pos true h = subst (λ x. IsThere p ((at_field k f, v) ∷ heap) x (value i u)) (sym (at_it means world n i heap f r k g e d m h))
          (is ∙ ap (λ b. cond b (value i t) (value i d.value)) h ∙ vt ∙ ap element (sym (read_written p (at_field k f) v heap ty)))
      go pos false h = subst (λ x. IsThere p ((at_field k f, v) ∷ heap) x (value i u)) (sym (field_resource i d m.kind))
          (is ∙ ap (λ b. cond b (value i t) (value i d.value)) h ∙ subst (λ x. IsThere p heap x (value i d.value)) (field_resource i d m.kind) (m.stands.content_is pos)
          ∙ ap element (sym (apart (run.same_location (location_of i d) (at_field k f)) refl)))
        where
          apart : (b : Bool) → run.same_location (location_of i d) (at_field k f) ≡ b → run.value_at p ((at_field k f, v) ∷ heap) (location_of i d) ≡ run.value_at p heap (location_of i d)
          apart false q = read_elsewhere p (at_field k f) (location_of i d) v heap q
          apart true q =
              let ref : ref_of (value i (first_argument d.arguments)) ≡ k = ap (λ (l : run.Location). l.receiver) (location_is (location_of i d) (at_field k f) q) in
              let it = reference_is k (value i (first_argument d.arguments)) (value_of_sort i (m.stands.field m.kind).receiver.formed) ref nn in
              absurd (true≢false (sym (is_equal i (first_argument d.arguments) r (it ∙ sym e)) ∙ h))

  -- another chunk
  other_stands : {n : ℕ} {i : Interpretation} (heap : run.Heap) (hs : run.Holdings) (f : Name) (r : Term) (k : ℕ) (v : Value) → world.Holds heap hs → Le full (run.amount hs (run.At (at_field k f))) →
      (c : rules.Chunk) → ChunkStands means world n i heap c → Le (amount_of i c) (run.amount hs (resource_of i c)) → is_kin (field_key f r) c ≡ false → ChunkStands means world n i ((at_field k f, v) ∷ heap) c
  other_stands {n = n} {i = i} heap hs f r k v holds most c st le kin = recontent means world changing.unmarked st (λ pos. by_kind c.is_field refl pos)
    where
      by_kind : (b : Bool) → c.is_field ≡ b → Positive (amount_of i c) → IsThere p heap (resource_of i c) (value i c.value) → IsThere p ((at_field k f, v) ∷ heap) (resource_of i c) (value i c.value)
      by_kind true q pos there = subst (λ x. IsThere p ((at_field k f, v) ∷ heap) x (value i c.value)) (sym (field_resource i c q))
          (subst (λ x. IsThere p heap x (value i c.value)) (field_resource i c q) there ∙ ap element (sym (apart (run.same_location (location_of i c) (at_field k f)) refl)))
        where
          apart : (b : Bool) → run.same_location (location_of i c) (at_field k f) ≡ b → run.value_at p ((at_field k f, v) ∷ heap) (location_of i c) ≡ run.value_at p heap (location_of i c)
          apart false x = read_elsewhere p (at_field k f) (location_of i c) v heap x
          apart true x =
              let names : c.resource ≡ f = ap (λ (l : run.Location). l.field) (location_is (location_of i c) (at_field k f) x) in
              absurd (true≢false (sym (ap₂ (λ (a : Bool) (y : Name). same_bool true a && same_name f y) q names ∙ name_same f) ∙ kin))
      by_kind false q pos there = subst (λ x. IsThere p ((at_field k f, v) ∷ heap) x (value i c.value)) (sym (instance_resource i c q))
          (folded (subst (λ x. IsThere p heap x (value i c.value)) (instance_resource i c q) there))
        where
          typed : IsTypedInstance p world.Held (instance_of i c)
          typed = subst (IsTypedResource p world.Held) (instance_resource i c q) (chunk_typed means world st)

          some : Positive (run.amount hs (run.Folded (instance_of i c)))
          some = subst (λ x. Positive (run.amount hs x)) (instance_resource i c q) (positive-le pos le)

          folded : IsThere p heap (run.Folded (instance_of i c)) (value i c.value) → IsThere p ((at_field k f, v) ∷ heap) (run.Folded (instance_of i c)) (value i c.value)
          folded there = (there.0, changing.written_tree heap hs (at_field k f) v holds most (instance_of i c) typed some there.0 there.1, there.2)

  -- at the start: each chunk is another one, or a candidate
  pub start_at : (n : ℕ) (i : Interpretation) (heap : run.Heap) (hs : run.Holdings) (f : Name) (r : Term) (k : ℕ) (v : Value) → world.Holds heap hs → Le full (run.amount hs (run.At (at_field k f))) → (A : ℕ → Type 0) →
      (h : rules.Heap) → Each (ChunkStands means world n i heap) h → Each (λ (d : rules.Chunk). Le (amount_of i d) (run.amount hs (resource_of i d))) h → EachAt (λ m c. is_kin (field_key f r) c ≡ true → A m) h →
      EachAt (λ m c. ChunkStands means world n i ((at_field k f, v) ∷ heap) c ⊎ A m) h
  start_at n i heap hs f r k v holds most A [] st le kin = tt
  start_at n i heap hs f r k v holds most A (c ∷ cs) st le kin = (go (is_kin (field_key f r) c) refl, start_at n i heap hs f r k v holds most (λ m. A (suc m)) cs st.1 le.1 kin.1)
    where
      go : (b : Bool) → is_kin (field_key f r) c ≡ b → ChunkStands means world n i ((at_field k f, v) ∷ heap) c ⊎ A 0
      go true q = inr (kin.0 q)
      go false q = inl (other_stands heap hs f r k v holds most c st.0 le.0 q)

  -- all candidates have their new values; the chunks as they were stand for the heap as it was on the way
  pub record AllWritten (scope : Scope) (i : Interpretation) (n : ℕ) (c : run.State) (before : rules.Heap) (after : rules.State) (new : run.Heap) : Type 0 where
    pub interp : Interpretation
    pub extends : Extends means n i interp
    pub later : n ≤ after.next
    pub stands : Stands means world scope interp (rules.with_heap before after) c
    pub each : Each (ChunkStands means world after.next interp new) after.heap

  pub all_written : (before : rules.Heap) (f : Name) (r : Term) (k : ℕ) (t : Term) (v : Value) → type_of v ≡ run.field_type p f → (k ≡ 0 → ⊥) → (cs : List Candidate) (s : rules.State) {scope : Scope} {i : Interpretation} {c : run.State} →
      Stands means world scope i (rules.with_heap before s) c → Each (λ (d : Candidate). OfField means world s.next i c.heap f d.chunk) cs → (g : Good means s.next i r RefSort) (e : value i r ≡ element (RefValue k)) → Good means s.next i t (field_sort p f) → value i t ≡ element v →
      EachAt (λ m d. ChunkStands means world s.next i ((at_field k f, v) ∷ c.heap) d ⊎ Among m cs) s.heap → AllWritten scope i s.next c before (written_each r t cs s) ((at_field k f, v) ∷ c.heap)
  all_written before f r k t v ty nn [] s {i = i} {c = c} st of g e gt vt h = record {
    interp = i;
    extends = extends-refl means s.next i;
    later = le_refl _;
    stands = st;
    each = all_at (ChunkStands means world s.next i ((at_field k f, v) ∷ c.heap)) s.heap (each_at_map (λ m d. ChunkStands means world s.next i ((at_field k f, v) ∷ c.heap) d ⊎ ⊥) (λ m d. ChunkStands means world s.next i ((at_field k f, v) ∷ c.heap) d) (λ m d x. settled d x) s.heap h);
  }
    where
      settled : (d : rules.Chunk) → ChunkStands means world s.next i ((at_field k f, v) ∷ c.heap) d ⊎ ⊥ → ChunkStands means world s.next i ((at_field k f, v) ∷ c.heap) d
      settled d (inl x) = x
      settled d (inr x) = absurd x
  all_written before f r k t v ty nn (d ∷ ds) s {scope = scope} {i = i} {c = c} st of g e gt vt h =
      let w = value_where r t d.chunk in
      let content : Good means s.next i d.chunk.value (field_sort p f) = subst (λ x. Good means s.next i d.chunk.value (field_sort p x)) of.0.resource (subst (λ b. Good means s.next i d.chunk.value (content_sort p b d.chunk.resource)) of.0.kind of.0.stands.content) in
      let ge = good_equals means (of.0.stands.field of.0.kind).receiver g in
      let gw = good_ite means ge gt content in
      let u = rules.name_of w s in
      let s1 = rules.after_name w s in
      let n : Named means world scope i s.next c (field_sort p f) (value i (value_where r t d.chunk)) (rules.name_of (value_where r t d.chunk) s) (rules.with_heap before (rules.after_name (value_where r t d.chunk) s)) =
      subst (λ (y : rules.State). Named means world scope i s.next c (field_sort p f) (value i (value_where r t d.chunk)) (rules.name_of (value_where r t d.chunk) s) y) (name_heap (value_where r t d.chunk) before s) (named means world w (field_sort p f) st gw) in
      let st1 : Stands means world scope n.interp (rules.with_heap before (rules.after_name w s)) c = n.stands in
      let g1 = good_later means n.later n.extends g in
      let e1 = value_kept means r g.settled n.extends ∙ e in
      let gt1 = good_later means n.later n.extends gt in
      let vt1 = value_kept means t gt.settled n.extends ∙ vt in
      let of1 = of_later means world c.heap f n.later n.extends (d ∷ ds) of in
      let new = new_stands c.heap f r k g1 e1 t v vt1 ty nn d.chunk of1.0 u n.good (n.value_is ∙ sym (value_kept means w gw.settled n.extends) ∙ ite_value n.interp (equals (first_argument d.chunk.arguments) r) t d.chunk.value) in
      let h1 = set_at (λ m x. ChunkStands means world s.next i ((at_field k f, v) ∷ c.heap) x ⊎ Among m (d ∷ ds)) (λ m x. ChunkStands means world s1.next n.interp ((at_field k f, v) ∷ c.heap) x ⊎ Among m ds) s.heap d.number (record d.chunk { value = u }) (inl new)
      (λ m x ne q. still m x n.later n.extends ne q) h in
      let z = all_written before f r k t v ty nn ds (written d w s) {scope = scope} {i = n.interp} {c = c} st1 of1.1 g1 e1 gt1 vt1 h1 in
      record { interp = z.interp; extends = extends-trans means n.later n.extends z.extends; later = le_trans n.later z.later; stands = z.stands; each = z.each }
    where
      still : (m : ℕ) (x : rules.Chunk) {n' : ℕ} {j : Interpretation} → s.next ≤ n' → Extends means s.next i j → (m ≡ d.number → ⊥) → ChunkStands means world s.next i ((at_field k f, v) ∷ c.heap) x ⊎ Among m (d ∷ ds) → ChunkStands means world n' j ((at_field k f, v) ∷ c.heap) x ⊎ Among m ds
      still m x le ext ne (inl q) = inl (chunk_later means world le ext ((at_field k f, v) ∷ c.heap) x q)
      still m x le ext ne (inr (inl q)) = absurd (ne (sym q))
      still m x le ext ne (inr (inr q)) = inr q
