-- Chunks that are found, added up and put: what is said of them is well-sorted, and the state keeps its shape.
use Rattle.std.proofs.Common.{◌≡◌, ℕ, Bool, true, false, not, cond, ◌&&◌, inr, slice_set, List, [], ◌∷◌, ◌++◌, refl, sym, ◌∙◌, subst}
use Rattle.std.proofs.lemmas.Bool.{and_parts}
use Rattle.vx_ast.specs.declared.ValueType.TheVariants as type
use Rattle.vx_ast.specs.Syntax.{Name, Program, Declaration}
use Rattle.vx_terms.specs.Sorts.{Sort, BoolSort, RealSort, RefSort}
use Rattle.vx_terms.specs.Terms.{Term, same, sort_of}
use Rattle.vx_terms.specs.Build.{and, implies, equals, less, less_equal, zero_amount, whole_amount}
use Rattle.vx_terms.specs.Interpretations.{Each}
use Rattle.vx_terms.proofs.Same.{bool_is, sort_is}
use Rattle.vx_terms.proofs.Values.{sort_of_formed}
use Rattle.vx_smt_meaning.specs.Commands.{Declared}
use Rattle.vx_rules.specs.States as rules
use Rattle.vx_rules.specs.States.{sort_of_type}
use Rattle.vx_rules.specs.Chunks.{field_key, equal_onto, equal_arguments, is_kin, same_arguments, Candidate, chosen, candidates, holds_some, holds_amount, first_argument, sum_onto, sum_at, merged, agree, is_not_null, at_most_whole, one_value, with_other, apart, at_most_three, whole_fact, bounding, field_facts, instance_facts, put_over, put_facts, put}
use Rattle.vx_rules.specs.Rules.{field_sort}
use Rattle.vx_rules.specs.Members.{is_ref, unlike, unlike_stored, unlike_chunk, unlike_held, distinct, put_fields}
use Rattle.vx_types.specs.Typing.{Scope}
use Rattle.vx_elements.proofs.Values.{sort_of_field}
use Rattle.vx_elements.proofs.Places.{IsPlace, matching_places, candidates_places}
use Rattle.vx_elements.proofs.Lists.{name_is, each_append, each_in, each_out}
use Rattle.vx_sound.proofs.Stands.{content_sort}
use Rattle.vx_live.specs.Live.{IsBuiltIn}
use Rattle.vx_live.proofs.Over.{Sorts, stays, above, Fine, fine_later, built_type, truth_fine, null_fine, zero_fine, whole_fine, positive_fine, most_fine, negate_fine, and_fine, implies_fine, equals_fine, ite_fine, less_equal_fine, add_fine}
use Rattle.vx_live.proofs.Shapes.{StoreShape, AllFine, arguments_of, ChunkOf, ChunkShape, HeapShape, Shaped, Later, facts_later, fresh_later}

-- the sort of a value or a snapshot is built in
built_field : (p : Program) (f : Name) → IsBuiltIn (field_sort p f)
built_field p f = subst IsBuiltIn (sym (sort_of_field p f)) (built_type _)

pub built_content : (p : Program) (is_field : Bool) (x : Name) → IsBuiltIn (content_sort p is_field x)
built_content p true f = built_field p f
built_content p false i = tt

-- Arguments

equal_onto_fine : {fs : List Declared} {sorts : Sorts fs} {n : ℕ} (c : Term) (ds : List Declaration) (ss ts : List Term) → Fine sorts n c BoolSort → AllFine sorts n ds ss → AllFine sorts n ds ts → Fine sorts n (equal_onto c ss ts) BoolSort
equal_onto_fine c [] [] [] f g h = f
equal_onto_fine c (d ∷ ds) (s ∷ ss) (t ∷ ts) f g h = equal_onto_fine (and c (equals s t)) ds ss ts (and_fine f (equals_fine g.0 h.0)) g.1 h.1
equal_onto_fine c [] (s ∷ ss) ts f g h = absurd g
equal_onto_fine c [] [] (t ∷ ts) f g h = absurd h
equal_onto_fine c (d ∷ ds) [] ts f g h = absurd g
equal_onto_fine c (d ∷ ds) (s ∷ ss) [] f g h = absurd h

equal_fine : {fs : List Declared} {sorts : Sorts fs} {n : ℕ} (ds : List Declaration) (ss ts : List Term) → AllFine sorts n ds ss → AllFine sorts n ds ts → Fine sorts n (equal_arguments ss ts) BoolSort
equal_fine [] [] [] g h = truth_fine true
equal_fine (d ∷ ds) (s ∷ ss) (t ∷ ts) g h = equal_onto_fine (equals s t) ds ss ts (equals_fine g.0 h.0) g.1 h.1
equal_fine [] (s ∷ ss) ts g h = absurd g
equal_fine [] [] (t ∷ ts) g h = absurd h
equal_fine (d ∷ ds) [] ts g h = absurd g
equal_fine (d ∷ ds) (s ∷ ss) [] g h = absurd h

pub only_fine : {fs : List Declared} {sorts : Sorts fs} {n : ℕ} (d : Declaration) (ts : List Term) → AllFine sorts n (d ∷ []) ts → Fine sorts n (first_argument ts) (sort_of_type d.of)
only_fine d [] h = absurd h
only_fine d (t ∷ ts) h = h.0

bounding_fine : {fs : List Declared} (sorts : Sorts fs) (n : ℕ) (b : Bool) (ts : List Term) → Each (λ t. Fine sorts n t BoolSort) ts → Each (λ t. Fine sorts n t BoolSort) (bounding b ts)
bounding_fine sorts n true ts h = h
bounding_fine sorts n false ts h = tt

module _ {p : Program} {fs : List Declared} {sorts : Sorts fs} {n : ℕ} where
  -- a chunk of kin is of the field or predicate of the key
  as_key : {key : rules.Chunk} {h : rules.Heap} {d : Candidate} (pl : IsPlace key h d) (c : rules.Chunk) → ChunkOf p sorts n d.chunk.is_field d.chunk.resource c → ChunkOf p sorts n key.is_field key.resource c
  as_key {key = key} {d = d} pl c k = subst (λ f. ChunkOf p sorts n f key.resource c) pl.kind (subst (λ x. ChunkOf p sorts n d.chunk.is_field x c) pl.resource k)

  pub as_found : {key : rules.Chunk} {h : rules.Heap} {d : Candidate} (pl : IsPlace key h d) (c : rules.Chunk) → ChunkOf p sorts n key.is_field key.resource c → ChunkOf p sorts n d.chunk.is_field d.chunk.resource c
  as_found {key = key} {d = d} pl c k = subst (λ f. ChunkOf p sorts n f d.chunk.resource c) (sym pl.kind) (subst (λ x. ChunkOf p sorts n key.is_field x c) (sym pl.resource) k)

  -- a candidate's chunk, and the others
  pub place_shape : {key : rules.Chunk} {h : rules.Heap} {d : Candidate} (pl : IsPlace key h d) → HeapShape p sorts n h → ChunkShape p sorts n d.chunk × HeapShape p sorts n (pl.front ++ pl.back)
  place_shape {d = d} pl sh = each_out (ChunkShape p sorts n) pl.front d.chunk pl.back (subst (λ h. HeapShape p sorts n h) pl.is sh)

  pub found_shape : {key : rules.Chunk} {h : rules.Heap} {d : Candidate} (pl : IsPlace key h d) → HeapShape p sorts n h → ChunkOf p sorts n key.is_field key.resource d.chunk
  found_shape {d = d} pl sh = as_key pl d.chunk (place_shape pl sh).0

  pub set_shape : {key : rules.Chunk} {h : rules.Heap} {d : Candidate} (pl : IsPlace key h d) (x : rules.Chunk) → HeapShape p sorts n h → ChunkShape p sorts n x → HeapShape p sorts n (slice_set h d.number x)
  set_shape pl x sh k = subst (λ h. HeapShape p sorts n h) (sym (pl.set_is x)) (each_in (ChunkShape p sorts n) pl.front pl.back k (place_shape pl sh).1)

  -- what is wanted of a chunk
  pub some_fine : {is_field : Bool} {x : Name} (ts : List Term) (c : rules.Chunk) → ChunkOf p sorts n is_field x c → AllFine sorts n (arguments_of p is_field x) ts → Fine sorts n (holds_some ts c) BoolSort
  some_fine {is_field = is_field} {x = x} ts c k g = and_fine (equal_fine (arguments_of p is_field x) c.arguments ts k.arguments g) (positive_fine k.amount)

  pub amount_fine : {is_field : Bool} {x : Name} {a : Term} (ts : List Term) (c : rules.Chunk) → ChunkOf p sorts n is_field x c → AllFine sorts n (arguments_of p is_field x) ts → Fine sorts n a RealSort → Fine sorts n (holds_amount a ts c) BoolSort
  amount_fine {is_field = is_field} {x = x} ts c k g ga = and_fine (equal_fine (arguments_of p is_field x) c.arguments ts k.arguments g) (less_equal_fine (inr refl) ga k.amount)

  -- What is put

  receiver_fine : {f : Name} (c : rules.Chunk) → ChunkOf p sorts n true f c → Fine sorts n (first_argument c.arguments) RefSort
  receiver_fine {f = f} c k = only_fine (record { name = f; of = type.Ref }) c.arguments k.arguments

  merged_shape : {is_field : Bool} {x : Name} (new c : rules.Chunk) → ChunkOf p sorts n is_field x new → ChunkOf p sorts n is_field x c → ChunkOf p sorts n is_field x (merged new c)
  merged_shape new c k d = record { arguments = d.arguments; amount = add_fine (inr refl) d.amount k.amount; content = ite_fine (positive_fine d.amount) d.content k.content }

  agree_fine : {is_field : Bool} {x : Name} (new c : rules.Chunk) → ChunkOf p sorts n is_field x new → ChunkOf p sorts n is_field x c → Fine sorts n (agree new c) BoolSort
  agree_fine new c k d = implies_fine (and_fine (positive_fine d.amount) (positive_fine k.amount)) (equals_fine d.content k.content)

  not_null_fine : {f : Name} (new : rules.Chunk) → ChunkOf p sorts n true f new → Fine sorts n (is_not_null new) BoolSort
  not_null_fine new k = implies_fine (positive_fine k.amount) (negate_fine (equals_fine (receiver_fine new k) null_fine))

  -- what is said of a chunk and another of the location
  other_fine : {f : Name} (summed bounded : Bool) (whole c : rules.Chunk) → ChunkOf p sorts n true f whole → ChunkOf p sorts n true f c → Each (λ t. Fine sorts n t BoolSort) (with_other summed bounded whole c)
  other_fine summed bounded whole c k d =
      let both = and_fine (and_fine (equals_fine (receiver_fine whole k) (receiver_fine c d)) (positive_fine k.amount)) (positive_fine d.amount) in
      each_append (λ t. Fine sorts n t BoolSort) (bounding bounded (at_most_whole whole c ∷ [])) (bounding summed (one_value whole c ∷ []))
      (bounding_fine sorts n bounded (at_most_whole whole c ∷ []) (implies_fine (equals_fine (receiver_fine c d) (receiver_fine whole k)) (most_fine (add_fine (inr refl) k.amount d.amount)), tt))
      (bounding_fine sorts n summed (one_value whole c ∷ []) (implies_fine both (equals_fine k.content d.content), tt))

  apart_fine : {f : Name} (summed bounded : Bool) (whole : rules.Chunk) → whole.is_field ≡ true → whole.resource ≡ f → ChunkOf p sorts n true f whole → (h : rules.Heap) → HeapShape p sorts n h → Each (λ t. Fine sorts n t BoolSort) (apart summed bounded whole h)
  apart_fine summed bounded whole field named k [] sh = tt
  apart_fine {f = f} summed bounded whole field named k (c ∷ cs) sh = go (is_kin whole c && not (same_arguments whole.arguments c.arguments)) refl (apart_fine summed bounded whole field named k cs sh.1)
    where
      go : (b : Bool) → (is_kin whole c && not (same_arguments whole.arguments c.arguments)) ≡ b → Each (λ t. Fine sorts n t BoolSort) (apart summed bounded whole cs) →
          Each (λ t. Fine sorts n t BoolSort) (cond b (with_other summed bounded whole c ++ apart summed bounded whole cs) (apart summed bounded whole cs))
      go true e r =
          let kin = and_parts _ _ (and_parts (is_kin whole c) _ e).0 in
          let kind = bool_is whole.is_field c.is_field kin.0 in
          let d = subst (λ b. ChunkOf p sorts n b c.resource c) (sym kind ∙ field) sh.0 in
          let d' = subst (λ x. ChunkOf p sorts n true x c) (sym (name_is whole.resource c.resource kin.1) ∙ named) d in
          each_append (λ t. Fine sorts n t BoolSort) (with_other summed bounded whole c) (apart summed bounded whole cs) (other_fine summed bounded whole c k d') r
      go false e r = r

  pub receiver_at : {is_field : Bool} {f : Name} (c : rules.Chunk) → is_field ≡ true → ChunkOf p sorts n is_field f c → Fine sorts n (first_argument c.arguments) RefSort
  receiver_at {f = f} c field k = receiver_fine c (subst (λ b. ChunkOf p sorts n b f c) field k)

-- Sums over the candidates of a field

module _ (p : Program) {fs : List Declared} {sorts : Sorts fs} {n : ℕ} (key : rules.Chunk) (h : rules.Heap) (field : key.is_field ≡ true) (sh : HeapShape p sorts n h) where
  sum_onto_fine : (cs : List Candidate) {t r : Term} → Fine sorts n t RealSort → Fine sorts n r RefSort → Each (IsPlace key h) cs → Fine sorts n (sum_onto t r cs) RealSort
  sum_onto_fine [] ft fr pl = ft
  sum_onto_fine (c ∷ cs) ft fr pl =
      let k = found_shape {p = p} pl.0 sh in
      sum_onto_fine cs (add_fine (inr refl) ft (ite_fine (equals_fine (receiver_at c.chunk field k) fr) k.amount zero_fine)) fr pl.1

  pub sum_fine : {r : Term} (cs : List Candidate) → Fine sorts n r RefSort → Each (IsPlace key h) cs → Fine sorts n (sum_at r cs) RealSort
  sum_fine cs fr pl = sum_onto_fine cs zero_fine fr pl

  three_fine : {r : Term} (cs : List Candidate) → Fine sorts n r RefSort → Each (IsPlace key h) cs → Each (λ t. Fine sorts n t BoolSort) (at_most_three r cs)
  three_fine [] fr pl = tt
  three_fine (a ∷ []) fr pl = tt
  three_fine (a ∷ b ∷ []) fr pl = tt
  three_fine (a ∷ b ∷ c ∷ cs) fr pl = (most_fine (sum_fine (a ∷ b ∷ c ∷ cs) fr pl), tt)

module _ {p : Program} {fs : List Declared} {sorts : Sorts fs} {n : ℕ} where
  -- The facts of a put

  field_facts_fine : (summed bounded : Bool) (cs : List Candidate) (new : rules.Chunk) (h : rules.Heap) → Each (IsPlace new h) cs → new.is_field ≡ true → ChunkOf p sorts n true new.resource new → HeapShape p sorts n h → Each (λ t. Fine sorts n t BoolSort) (field_facts summed bounded cs new h)
  field_facts_fine summed bounded [] new h pl field k sh = (
    not_null_fine new k,
    each_append (λ t. Fine sorts n t BoolSort) (bounding bounded (less_equal new.amount whole_amount ∷ [])) (apart summed bounded new h)
        (bounding_fine sorts n bounded (less_equal new.amount whole_amount ∷ []) (most_fine k.amount, tt)) (apart_fine summed bounded new field refl k h sh),
  )
  field_facts_fine summed bounded (c ∷ cs) new h pl field k sh =
      let d = subst (λ b. ChunkOf p sorts n b new.resource c.chunk) field (found_shape pl.0 sh) in
      let whole = merged new c.chunk in
      let w = merged_shape new c.chunk k d in (
        not_null_fine new k,
        each_append (λ t. Fine sorts n t BoolSort) (bounding bounded (less_equal new.amount whole_amount ∷ [])) _
            (bounding_fine sorts n bounded (less_equal new.amount whole_amount ∷ []) (most_fine k.amount, tt)) (
              agree_fine new c.chunk k d,
              each_append (λ t. Fine sorts n t BoolSort) (bounding bounded (less_equal whole.amount whole_amount ∷ [])) (apart summed bounded whole h)
                  (bounding_fine sorts n bounded (less_equal whole.amount whole_amount ∷ []) (most_fine w.amount, tt)) (apart_fine summed bounded whole (pl.0.kind ∙ field) pl.0.resource w h sh),
            ),
      )

  instance_facts_fine : (cs : List Candidate) (new : rules.Chunk) (h : rules.Heap) → Each (IsPlace new h) cs → ChunkShape p sorts n new → HeapShape p sorts n h → Each (λ t. Fine sorts n t BoolSort) (instance_facts cs new)
  instance_facts_fine [] new h pl k sh = tt
  instance_facts_fine (c ∷ cs) new h pl k sh = (agree_fine new c.chunk k (found_shape pl.0 sh), tt)

  put_over_shape : (cs : List Candidate) (new : rules.Chunk) (h : rules.Heap) → Each (IsPlace new h) cs → ChunkShape p sorts n new → HeapShape p sorts n h → HeapShape p sorts n (put_over cs new h)
  put_over_shape [] new h pl k sh = each_append (ChunkShape p sorts n) h (new ∷ []) sh (k, tt)
  put_over_shape (c ∷ cs) new h pl k sh = set_shape pl.0 (merged new c.chunk) sh (as_found pl.0 (merged new c.chunk) (merged_shape new c.chunk k (found_shape pl.0 sh)))

  facts_fine : (is_field summed bounded : Bool) (new : rules.Chunk) (h : rules.Heap) → new.is_field ≡ is_field → ChunkShape p sorts n new → HeapShape p sorts n h →
      Each (λ t. Fine sorts n t BoolSort) (let matching = chosen true new 0 h in cond is_field (field_facts summed bounded matching new h ++ bounding (summed && bounded) (whole_fact new (put_over matching new h))) (instance_facts matching new))
  facts_fine true summed bounded new h field k sh =
      let pl = matching_places new h in
      let matching = chosen true new 0 h in
      let k' = subst (λ b. ChunkOf p sorts n b new.resource new) field k in
      let held = put_over matching new h in
      each_append (λ t. Fine sorts n t BoolSort) (field_facts summed bounded matching new h) (bounding (summed && bounded) (whole_fact new held))
      (field_facts_fine summed bounded matching new h pl field k' sh)
      (bounding_fine sorts n (summed && bounded) (whole_fact new held) (three_fine p new held field (put_over_shape matching new h pl k sh) (candidates new held) (receiver_fine new k') (candidates_places new held)))
  facts_fine false summed bounded new h field k sh = instance_facts_fine (chosen true new 0 h) new h (matching_places new h) k sh

pub put_live : {p : Program} {fs : List Declared} {sorts : Sorts fs} {scope : Scope} {s : rules.State} (new : rules.Chunk) → Shaped p sorts scope s → ChunkShape p sorts s.next new → Later p sorts scope s.next (put new s)
put_live {p = p} {sorts = sorts} {scope = scope} {s = s} new sh k = go (same new.amount zero_amount)
  where
    facts : List Term
    facts = put_facts (not (rules.is_quiet s)) s.bounded new s.heap

    over : rules.State
    over = rules.with_heap (put_over (chosen true new 0 s.heap) new s.heap) s

    held : Shaped p sorts scope over
    held = record { store = sh.store; path = sh.path; heap = put_over_shape (chosen true new 0 s.heap) new s.heap (matching_places new s.heap) k sh.heap; old = sh.old; own = sh.own }

    go : (b : Bool) → Later p sorts scope s.next (cond b s (rules.with_facts facts over))
    go true = record { le = stays; shaped = sh }
    go false = facts_later facts over held (facts_fine new.is_field (not (rules.is_quiet s)) s.bounded new s.heap refl k sh.heap)

-- A new reference

unlike_fine : {fs : List Declared} {sorts : Sorts fs} {n : ℕ} {x t : Term} {a : Sort} → Fine sorts n x a → Fine sorts n t a → Fine sorts n (unlike x t) BoolSort
unlike_fine f g = negate_fine (equals_fine f g)

-- a term that is a reference has that sort
reference : {fs : List Declared} {sorts : Sorts fs} {n : ℕ} {t : Term} {a : Sort} → is_ref t ≡ true → Fine sorts n t a → Fine sorts n t RefSort
reference {sorts = sorts} {n = n} {t = t} e f = subst (λ s. Fine sorts n t s) (sym (sort_of_formed f.formed) ∙ sort_is (sort_of t) RefSort e) f

stored_fine : {fs : List Declared} {sorts : Sorts fs} (n : ℕ) (scope : Scope) (x : Term) (xs : rules.Store) → Fine sorts n x RefSort → StoreShape sorts n scope xs → Each (λ t. Fine sorts n t BoolSort) (unlike_stored x (rules.terms_in xs))
stored_fine n [] x [] g h = tt
stored_fine {sorts = sorts} n (d ∷ ds) x (a ∷ xs) g h = go (is_ref a.1) refl (stored_fine n ds x xs g h.2)
  where
    go : (b : Bool) → is_ref a.1 ≡ b → Each (λ t. Fine sorts n t BoolSort) (unlike_stored x (rules.terms_in xs)) → Each (λ t. Fine sorts n t BoolSort) (cond b (unlike x a.1 ∷ unlike_stored x (rules.terms_in xs)) (unlike_stored x (rules.terms_in xs)))
    go true e r = (unlike_fine g (reference e h.1), r)
    go false e r = r
stored_fine n [] x (a ∷ xs) g h = absurd h
stored_fine n (d ∷ ds) x [] g h = absurd h

chunk_fine : {fs : List Declared} {sorts : Sorts fs} (p : Program) {n : ℕ} (x : Term) (c : rules.Chunk) → Fine sorts n x RefSort → ChunkOf p sorts n true c.resource c → Each (λ t. Fine sorts n t BoolSort) (unlike_chunk x c)
chunk_fine {sorts = sorts} p {n = n} x c g k = (implies_fine (positive_fine k.amount) (unlike_fine g (receiver_fine c k)), go (is_ref c.value) refl)
  where
    go : (b : Bool) → is_ref c.value ≡ b → Each (λ t. Fine sorts n t BoolSort) (cond b (implies (less zero_amount c.amount) (unlike x c.value) ∷ []) [])
    go true e = (implies_fine (positive_fine k.amount) (unlike_fine g (reference e k.content)), tt)
    go false e = tt

held_fine : {fs : List Declared} {sorts : Sorts fs} (p : Program) {n : ℕ} (x : Term) (h : rules.Heap) → Fine sorts n x RefSort → HeapShape p sorts n h → Each (λ t. Fine sorts n t BoolSort) (unlike_held x h)
held_fine p x [] g sh = tt
held_fine {sorts = sorts} p {n = n} x (c ∷ cs) g sh = go c.is_field refl (held_fine p x cs g sh.1)
  where
    go : (b : Bool) → c.is_field ≡ b → Each (λ t. Fine sorts n t BoolSort) (unlike_held x cs) → Each (λ t. Fine sorts n t BoolSort) (cond b (unlike_chunk x c ++ unlike_held x cs) (unlike_held x cs))
    go true e r = each_append (λ t. Fine sorts n t BoolSort) (unlike_chunk x c) (unlike_held x cs) (chunk_fine p x c g (subst (λ b. ChunkOf p sorts n b c.resource c) e sh.0)) r
    go false e r = r

pub distinct_fine : {fs : List Declared} {sorts : Sorts fs} (p : Program) (n : ℕ) (scope : Scope) (x : Term) (s : rules.State) → Fine sorts n x RefSort → StoreShape sorts n scope s.store → HeapShape p sorts n s.heap → HeapShape p sorts n s.old → Each (λ t. Fine sorts n t BoolSort) (distinct x s)
distinct_fine {sorts = sorts} p n scope x s g h k l = (
  unlike_fine g null_fine,
  each_append (λ t. Fine sorts n t BoolSort) (unlike_stored x (rules.terms_in s.store) ++ unlike_held x s.heap) (unlike_held x s.old)
      (each_append (λ t. Fine sorts n t BoolSort) (unlike_stored x (rules.terms_in s.store)) (unlike_held x s.heap) (stored_fine n scope x s.store g h) (held_fine p x s.heap g k))
      (held_fine p x s.old g l),
)

pub put_all_live : {p : Program} {scope : Scope} (xs : List Name) (x : Term) {fs : List Declared} {sorts : Sorts fs} (s : rules.State) → Shaped p sorts scope s → Fine sorts s.next x RefSort → Later p sorts scope s.next (put_fields p xs x s)
put_all_live [] x s sh g = record { le = stays; shaped = sh }
put_all_live {p = p} {scope = scope} (f ∷ xs) x s sh g =
    let new : rules.Chunk = record (field_key f x) { amount = whole_amount; value = rules.fresh (field_sort p f) s } in
    let v = fresh_later (field_sort p f) (built_field p f) sh in
    let k = put_live new v.shaped (record { arguments = (fine_later v.le g, tt); amount = whole_fine; content = v.formed }) in
    let r = put_all_live {p = p} {scope = scope} xs x (put new (rules.after_fresh s)) k.shaped (fine_later (above v.le k.le) g) in
    record { le = above v.le (above k.le r.le); shaped = r.shaped }
