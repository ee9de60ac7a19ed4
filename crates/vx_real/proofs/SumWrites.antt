-- Writing a location in each chunk that may be there, at the interpretation there is.
use Rattle.std.proofs.Common.{◌≡◌, ◌⊎◌, inl, inr, ℕ, zero, suc, ◌≤◌, Bool, true, false, cond, List, [], ◌∷◌, slice_set, refl, sym, ◌∙◌, ap, subst, true≢false, le_trans, le_refl, arith}
use Rattle.vx_ast.specs.Syntax.{Name, Program}
use Rattle.vx_meaning.specs.Values.{Value, RefValue, type_of}
use Rattle.vx_meaning.specs.States as run
use Rattle.vx_terms.specs.Sorts.{RefSort}
use Rattle.vx_terms.specs.Terms.{Term, sort_of}
use Rattle.vx_terms.specs.Build.{equals}
use Rattle.vx_terms.specs.Interpretations.{Each, Interpretation, as_bool, value, AllTrue}
use Rattle.vx_terms.proofs.Build.{ite_value}
use Rattle.vx_rules.specs.States as rules
use Rattle.vx_rules.specs.Chunks.{Candidate, first_argument, value_where, written, written_each}
use Rattle.vx_rules.specs.Rules.{field_sort}
use Rattle.vx_types.specs.Typing.{Scope}
use Rattle.vx_elements.proofs.Settled.{Meaning, extends-refl}
use Rattle.vx_elements.proofs.Built.{Good, good_later, good_equals, good_ite}
use Rattle.vx_elements.proofs.Elements.{element}
use Rattle.vx_elements.proofs.Truth.{is_equal}
use Rattle.vx_amounts.proofs.Amounts.{Positive}
use Rattle.vx_sound.proofs.World.{at_field, World}
use Rattle.vx_sound.proofs.Stands.{ref_of, location_of, resource_of, amount_of, IsThere, content_sort, ChunkStands, Stands, chunk_later}
use Rattle.vx_sound.proofs.Chunks.{field_resource, location_is}
use Rattle.vx_sound.proofs.Puts.{read_written, read_elsewhere}
use Rattle.vx_sound.proofs.Summed.{IsOf as OfField, at_it}
use Rattle.vx_sound.proofs.Slots.{StandsAt, Differ, slot, others_stand}
use Rattle.vx_sound.proofs.SumTakes.{of_later}
use Rattle.vx_sound.proofs.SumWrites.{EachAt, each_at_map, all_at, Among}
use Rattle.vx_real.proofs.Exactly.{keys, IsReal}
use Rattle.vx_real.proofs.Keys.{keys_set}
use Rattle.vx_real.proofs.SumTakes.{named_real, name_path}
use Rattle.vx_real.proofs.TakesKeep.{stands_named}
use Rattle.vx_real.proofs.FieldsStay.{name_keeps}

-- one at a number is another
set_at : (T U : ℕ → rules.Chunk → Type 0) (h : rules.Heap) (n : ℕ) (x : rules.Chunk) → U n x → ((m : ℕ) (c : rules.Chunk) → (m ≡ n → ⊥) → T m c → U m c) → EachAt T h → EachAt U (slice_set h n x)
set_at T U [] n x u k e = tt
set_at T U (c ∷ cs) zero x u k e = (u, each_at_map (λ m. T (suc m)) (λ m. U (suc m)) (λ m d t. k (suc m) d (λ q. cc) t) cs e.1)
set_at T U (c ∷ cs) (suc n) x u k e = (k 0 c (λ q. cc) e.0, set_at (λ m. T (suc m)) (λ m. U (suc m)) cs n x u (λ m d ne t. k (suc m) d (λ q. ne (less q)) t) e.1)
  where
    less : {a b : ℕ} → suc a ≡ suc b → a ≡ b
    less q = omega arith

-- naming looks at no chunk
name_heap : (t : Term) (h : rules.Heap) (s : rules.State) → rules.after_name t (rules.with_heap h s) ≡ rules.with_heap h (rules.after_name t s)
name_heap t h s = go (rules.is_named t s)
  where
    known : (b : Bool) (e : rules.Entry) → cond b (rules.with_heap h (rules.after_fresh s)) (rules.with_entry e (rules.with_heap h (rules.after_fresh s))) ≡ rules.with_heap h (cond b (rules.after_fresh s) (rules.with_entry e (rules.after_fresh s)))
    known true e = refl
    known false e = refl

    go : (b : Bool) → cond b (rules.with_heap h s) (rules.with_fact (equals (rules.fresh (sort_of t) s) t) (rules.with_heap h (rules.after_fresh s))) ≡ rules.with_heap h (cond b s (rules.with_fact (equals (rules.fresh (sort_of t) s) t) (rules.after_fresh s)))
    go true = refl
    go false = known (rules.is_known (equals (rules.fresh (sort_of t) s) t) (rules.after_fresh s)) record { term = equals (rules.fresh (sort_of t) s) t; branch = false }

-- paths only grow
pub each_path : (i : Interpretation) (r t : Term) (cs : List Candidate) (s : rules.State) → AllTrue i (rules.path_terms (written_each r t cs s).path) → AllTrue i (rules.path_terms s.path)
each_path i r t [] s h = h
each_path i r t (d ∷ ds) s h = let v = value_where r t d.chunk in name_path i v s (each_path i r t ds (written d v s) h)

-- what chunks are of stays
pub each_keys : (key : rules.Chunk) (r t : Term) (cs : List Candidate) (s : rules.State) → Each (StandsAt s.heap) cs → Differ cs → Each (λ (d : Candidate). (d.chunk.resource ≡ key.resource) × (d.chunk.is_field ≡ key.is_field)) cs →
    keys (written_each r t cs s).heap ≡ keys s.heap
each_keys key r t [] s at differ of = refl
each_keys key r t (d ∷ ds) s at differ of =
    let v = value_where r t d.chunk in
    let new = record d.chunk { value = rules.name_of v s } in
    each_keys key r t ds (written d v s) (others_stand s.heap d.number new ds differ.0 at.1) differ.1 of.1 ∙ keys_set (slot key s.heap d at.0 of.0.0 of.0.1) new refl

module _ {A : Type 0} (field : rules.State → A) (by_entry : (e : rules.Entry) (s : rules.State) → field (rules.with_entry e s) ≡ field s) (by_fresh : (s : rules.State) → field (rules.after_fresh s) ≡ field s) (by_heap : (h : rules.Heap) (s : rules.State) → field (rules.with_heap h s) ≡ field s) where
  pub written_keeps : (c : Candidate) (t : Term) (s : rules.State) → field (written c t s) ≡ field s
  written_keeps c t s = by_heap (slice_set s.heap c.number (record c.chunk { value = rules.name_of t s })) (rules.after_name t s) ∙ name_keeps field by_entry by_fresh t s

  pub each_keeps : (r t : Term) (cs : List Candidate) (s : rules.State) → field (written_each r t cs s) ≡ field s
  each_keeps r t [] s = refl
  each_keeps r t (d ∷ ds) s = let v = value_where r t d.chunk in each_keeps r t ds (written d v s) ∙ written_keeps d v s

module _ (means : Meaning) (world : World) (i : Interpretation) (heap : run.Heap) (f : Name) (r : Term) (k : ℕ) (e : value i r ≡ element (RefValue k)) (t : Term) (v : Value) (vt : value i t ≡ element v) (ty : type_of v ≡ run.field_type world.program f) where
  abbrev p : Program
  p = world.program

  -- a candidate with the value that it then has
  written_chunk : (n : ℕ) → Good means n i r RefSort → (d : rules.Chunk) → OfField means world n i heap f d → IsReal i d → (u : Term) → Good means n i u (field_sort world.program f) →
      value i u ≡ cond (as_bool (value i (equals (first_argument d.arguments) r))) (value i t) (value i d.value) → ChunkStands means world n i ((at_field k f, v) ∷ heap) (record d { value = u })
  written_chunk n g d m real u gu is = record {
    field = m.stands.field;
    instance = m.stands.instance;
    written = λ q. absurd (true≢false (sym m.kind ∙ q));
    amount = m.stands.amount;
    sign = m.stands.sign;
    content = subst (λ b. Good means n i u (content_sort p b d.resource)) (sym m.kind) (subst (λ x. Good means n i u (field_sort p x)) (sym m.resource) gu);
    content_is = λ pos. go pos (as_bool (value i (equals (first_argument d.arguments) r))) refl;
    is_root = m.stands.is_root;
    is_inner = λ q. absurd (true≢false (sym m.kind ∙ q));
  }
    where
      go : Positive (amount_of i d) → (b : Bool) → as_bool (value i (equals (first_argument d.arguments) r)) ≡ b → IsThere p ((at_field k f, v) ∷ heap) (resource_of i d) (value i u)
      go pos true h = subst (λ x. IsThere p ((at_field k f, v) ∷ heap) x (value i u)) (sym (at_it means world n i heap f r k g e d m h))
          (is ∙ ap (λ b. cond b (value i t) (value i d.value)) h ∙ vt ∙ ap element (sym (read_written p (at_field k f) v heap ty)))
      go pos false h = subst (λ x. IsThere p ((at_field k f, v) ∷ heap) x (value i u)) (sym (field_resource i d m.kind))
          (is ∙ ap (λ b. cond b (value i t) (value i d.value)) h ∙ subst (λ x. IsThere p heap x (value i d.value)) (field_resource i d m.kind) (m.stands.content_is pos)
          ∙ ap element (sym (apart (run.same_location (location_of i d) (at_field k f)) refl)))
        where
          apart : (b : Bool) → run.same_location (location_of i d) (at_field k f) ≡ b → run.value_at p ((at_field k f, v) ∷ heap) (location_of i d) ≡ run.value_at p heap (location_of i d)
          apart false q = read_elsewhere p (at_field k f) (location_of i d) v heap q
          apart true q =
              let ref : real.reference ≡ k = sym (ap ref_of real.receiver) ∙ ap (λ (l : run.Location). l.receiver) (location_is (location_of i d) (at_field k f) q) in
              absurd (true≢false (sym (is_equal i (first_argument d.arguments) r (real.receiver ∙ ap (λ j. element (RefValue j)) ref ∙ sym e)) ∙ h))

  -- all candidates have their new values; the chunks as they were stand for the heap as it was on the way
  pub record WrittenReal (scope : Scope) (n : ℕ) (c : run.State) (before : rules.Heap) (after : rules.State) : Type 0 where
    pub later : n ≤ after.next
    pub stands : Stands means world scope i (rules.with_heap before after) c
    pub each : Each (ChunkStands means world after.next i ((at_field k f, v) ∷ heap)) after.heap

  pub all_written : (before : rules.Heap) (cs : List Candidate) (s : rules.State) {scope : Scope} {c : run.State} → Stands means world scope i (rules.with_heap before s) c → Each (λ (d : Candidate). OfField means world s.next i heap f d.chunk) cs →
      Each (λ (d : Candidate). IsReal i d.chunk) cs → Good means s.next i r RefSort → Good means s.next i t (field_sort world.program f) →
      EachAt (λ m d. ChunkStands means world s.next i ((at_field k f, v) ∷ heap) d ⊎ Among m cs) s.heap → AllTrue i (rules.path_terms (written_each r t cs s).path) → WrittenReal scope s.next c before (written_each r t cs s)
  all_written before [] s st of reals g gt h path = record {
    later = le_refl _;
    stands = st;
    each = all_at (ChunkStands means world s.next i ((at_field k f, v) ∷ heap)) s.heap (each_at_map (λ m d. ChunkStands means world s.next i ((at_field k f, v) ∷ heap) d ⊎ ⊥) (λ m d. ChunkStands means world s.next i ((at_field k f, v) ∷ heap) d) (λ m d x. settled d x) s.heap h);
  }
    where
      settled : (d : rules.Chunk) → ChunkStands means world s.next i ((at_field k f, v) ∷ heap) d ⊎ ⊥ → ChunkStands means world s.next i ((at_field k f, v) ∷ heap) d
      settled d (inl x) = x
      settled d (inr x) = absurd x
  all_written before (d ∷ ds) s {scope = scope} {c = c} st of reals g gt h path =
      let w = value_where r t d.chunk in
      let content : Good means s.next i d.chunk.value (field_sort p f) = subst (λ x. Good means s.next i d.chunk.value (field_sort p x)) of.0.resource (subst (λ b. Good means s.next i d.chunk.value (content_sort p b d.chunk.resource)) of.0.kind of.0.stands.content) in
      let ge = good_equals means (of.0.stands.field of.0.kind).receiver g in
      let gw = good_ite means ge gt content in
      let u = rules.name_of w s in
      let s1 = rules.after_name w s in
      let path1 = each_path i r t ds (written d w s) path in
      let n = named_real means i (field_sort p f) w s gw path1 in
      let ext = extends-refl means s.next i in
      let st1 : Stands means world scope i (rules.with_heap before (rules.after_name (value_where r t d.chunk) s)) c =
      subst (λ (y : rules.State). Stands means world scope i y c) (name_heap (value_where r t d.chunk) before s) (stands_named means world (field_sort p f) w st gw (subst (λ (y : rules.State). AllTrue i (rules.path_terms y.path)) (sym (name_heap (value_where r t d.chunk) before s)) path1)) in
      let g1 = good_later means n.later ext g in
      let gt1 = good_later means n.later ext gt in
      let of1 = of_later means world heap f n.later ext (d ∷ ds) of in
      let new = written_chunk s1.next g1 d.chunk of1.0 reals.0 u n.good (n.value_is ∙ ite_value i (equals (first_argument d.chunk.arguments) r) t d.chunk.value) in
      let h1 = set_at (λ m x. ChunkStands means world s.next i ((at_field k f, v) ∷ heap) x ⊎ Among m (d ∷ ds)) (λ m x. ChunkStands means world s1.next i ((at_field k f, v) ∷ heap) x ⊎ Among m ds) s.heap d.number (record d.chunk { value = u }) (inl new)
      (λ m x ne q. still m x n.later ne q) h in
      let z = all_written before ds (written d w s) {scope = scope} {c = c} st1 of1.1 reals.1 g1 gt1 h1 path in
      record { later = le_trans n.later z.later; stands = z.stands; each = z.each }
    where
      still : (m : ℕ) (x : rules.Chunk) {n' : ℕ} → s.next ≤ n' → (m ≡ d.number → ⊥) → ChunkStands means world s.next i ((at_field k f, v) ∷ heap) x ⊎ Among m (d ∷ ds) → ChunkStands means world n' i ((at_field k f, v) ∷ heap) x ⊎ Among m ds
      still m x le ne (inl q) = inl (chunk_later means world le (extends-refl means s.next i) ((at_field k f, v) ∷ heap) x q)
      still m x le ne (inr (inl q)) = absurd (ne (sym q))
      still m x le ne (inr (inr q)) = inr q
