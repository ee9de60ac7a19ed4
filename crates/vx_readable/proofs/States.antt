-- States whose terms are all shaped, and what the rules do to them.
use Rattle.std.proofs.Common.{ℕ, zero, suc, Bool, true, false, not, cond, ◌&&◌, List, [], ◌∷◌, ◌++◌, take, drop, length, slice_set, Option, Some, None}
use Rattle.std.specs.Prelude.{IfSome}
use Rattle.vx_ast.specs.Syntax.{Name, same_name, Program, Declaration}
use Rattle.vx_ast.specs.Mentions.{is_among}
use Rattle.vx_terms.specs.Sorts.{Sort, Variable, SnapSort}
use Rattle.vx_terms.specs.Terms.{Term, same, sort_of}
use Rattle.vx_terms.specs.Build.{true_term, and, implies, equals, less, less_equal, add, subtract, unit, pair, wrap, written_unwrap, unwrap, first, second, zero_amount, whole_amount}
use Rattle.vx_terms.specs.Interpretations.{Each}
use Rattle.vx_rules.specs.States.{sort_of_type, Store, found, assign, assign_all, bind, terms_in, Entry, Chunk, Heap, Own, State, is_quiet, with_store, with_heap, declare, leave, is_known, with_entry, with_fact, with_facts, with_branch, path_terms, new_entries, joined_onto, conjunction, fresh, after_fresh, declare_fresh, declare_all, is_stored, is_named, name_of, after_name}
use Rattle.vx_rules.specs.Chunks.{field_key, same_arguments, first_argument, equal_onto, equal_arguments, is_kin, Candidate, chosen, candidates, holds_some, holds_amount, surely, part_at, sum_onto, sum_at, value_facts, with_value, only_inner, without, reduced, with_amount, written, share, shared_out, without_empty, value_where, written_each, merged, agree, is_not_null, bounding, at_most_whole, one_value, with_other, apart, at_most_three, whole_fact, field_facts, instance_facts, put_over, put_facts, put}
use Rattle.vx_rules.specs.Rules.{Context, field_sort, with_built_wrap, pair_facts, with_built_pair, produced_value, after_value, produced_snapshot, after_snapshot, left_part, right_part, with_split, with_unit}
use Rattle.vx_rules.specs.Members.{forget, is_ref, unlike, unlike_stored, unlike_chunk, unlike_held, distinct, put_fields, names_of, after_names, rooted}
use Rattle.vx_terms.specs.Terms as term
use Rattle.vx_terms.specs.Sorts as sort
use Rattle.vx_readable.proofs.Shapes.{Shaped, truth_shaped, constant_shaped, null_shaped, unit_shaped, zero_amount_shaped, whole_amount_shaped, negate_shaped, and_shaped, implies_shaped, equals_shaped, ite_shaped, less_equal_shaped, add_shaped, subtract_shaped, binary_shaped, pair_shaped, written_first_shaped, written_second_shaped, wrap_shaped, written_unwrap_shaped, unwrap_shaped, first_shaped, second_shaped, positive_shaped, each_join}

-- ---- lists

each_take : {A : Type 0} (P : A → Type 0) (n : ℕ) (xs : List A) → Each P xs → Each P (take n xs)
each_take P zero xs h = tt
each_take P (suc n) [] h = tt
each_take P (suc n) (x ∷ xs) h = (h.0, each_take P n xs h.1)

pub each_drop : {A : Type 0} (P : A → Type 0) (n : ℕ) (xs : List A) → Each P xs → Each P (drop n xs)
each_drop P zero xs h = h
each_drop P (suc n) [] h = tt
each_drop P (suc n) (x ∷ xs) h = each_drop P n xs h.1

each_set : {A : Type 0} (P : A → Type 0) (xs : List A) (n : ℕ) (x : A) → P x → Each P xs → Each P (slice_set xs n x)
each_set P [] n x h hs = tt
each_set P (y ∷ xs) zero x h hs = (h, hs.1)
each_set P (y ∷ xs) (suc n) x h hs = (hs.0, each_set P xs n x h hs.1)

either_list : {A : Type 0} (P : A → Type 0) (b : Bool) (xs ys : List A) → Each P xs → Each P ys → Each P (cond b xs ys)
either_list P true xs ys h k = h
either_list P false xs ys h k = k

-- ---- what is shaped

pub record ShapedChunk (c : Chunk) : Type 0 where
  pub arguments : Each Shaped c.arguments
  pub amount : Shaped c.amount
  pub value : Shaped c.value

abbrev pub ShapedHeap : Heap → Type 0
ShapedHeap h = Each ShapedChunk h

abbrev pub ShapedStore : Store → Type 0
ShapedStore x = Each (λ (e : Name × Term). Shaped e.1) x

abbrev pub ShapedEntries : List Entry → Type 0
ShapedEntries es = Each (λ (e : Entry). Shaped e.term) es

abbrev pub ShapedOwn : Option Own → Type 0
ShapedOwn own = IfSome own (λ (o : Own). IfSome o.measure Shaped)

abbrev pub ShapedCandidates : List Candidate → Type 0
ShapedCandidates cs = Each (λ (c : Candidate). ShapedChunk c.chunk) cs

pub record Sound (s : State) : Type 0 where
  pub store : ShapedStore s.store
  pub heap : ShapedHeap s.heap
  pub old : ShapedHeap s.old
  pub path : ShapedEntries s.path
  pub own : ShapedOwn s.own

pub store_sound : {s : State} {x : Store} → ShapedStore x → Sound s → Sound (with_store x s)
store_sound h k = record { store = h; heap = k.heap; old = k.old; path = k.path; own = k.own }

pub heap_sound : {s : State} {h : Heap} → ShapedHeap h → Sound s → Sound (with_heap h s)
heap_sound h k = record { store = k.store; heap = h; old = k.old; path = k.path; own = k.own }

pub fresh_sound : {s : State} → Sound s → Sound (after_fresh s)
fresh_sound k = record { store = k.store; heap = k.heap; old = k.old; path = k.path; own = k.own }

pub fresh_shaped : (a : Sort) (s : State) → Shaped (fresh a s)
fresh_shaped a s = constant_shaped (Variable s.next) a

pub either_sound : (b : Bool) (s t : State) → Sound s → Sound t → Sound (cond b s t)
either_sound true s t h k = h
either_sound false s t h k = k

either_term : (b : Bool) (s t : Term) → Shaped s → Shaped t → Shaped (cond b s t)
either_term true s t h k = h
either_term false s t h k = k

-- ---- facts and branches

pub entry_sound : {s : State} (e : Entry) → Shaped e.term → Sound s → Sound (with_entry e s)
entry_sound {s = s} e h k =
    record { store = k.store; heap = k.heap; old = k.old; path = each_join (λ (f : Entry). Shaped f.term) s.path (e ∷ []) k.path (h, tt); own = k.own }

pub branch_sound : {s : State} (t : Term) → Shaped t → Sound s → Sound (with_branch t s)
branch_sound t h k = entry_sound record { term = t; branch = true } h k

pub fact_sound : {s : State} (t : Term) → Shaped t → Sound s → Sound (with_fact t s)
fact_sound {s = s} t h k = either_sound (is_known t s) s (with_entry record { term = t; branch = false } s) k (entry_sound record { term = t; branch = false } h k)

pub facts_sound : (ts : List Term) {s : State} → Each Shaped ts → Sound s → Sound (with_facts ts s)
facts_sound [] h k = k
facts_sound (t ∷ ts) h k = facts_sound ts h.1 (fact_sound t h.0 k)

joined_shaped : (t : Term) (branches : Bool) (es : List Entry) → Shaped t → ShapedEntries es → Shaped (joined_onto t branches es)
joined_shaped t branches [] h k = h
joined_shaped t branches (e ∷ es) h k =
    go (cond branches e.branch (not e.branch)) (joined_shaped (and t e.term) branches es (and_shaped h k.0) k.1) (joined_shaped t branches es h k.1)
  where
    go : (b : Bool) → Shaped (joined_onto (and t e.term) branches es) → Shaped (joined_onto t branches es)
        → Shaped (cond b (joined_onto (and t e.term) branches es) (joined_onto t branches es))
    go true h k = h
    go false h k = k

pub conjunction_shaped : (branches : Bool) (es : List Entry) → ShapedEntries es → Shaped (conjunction branches es)
conjunction_shaped branches es h = joined_shaped true_term branches es (truth_shaped true) h

pub new_shaped : (before : State) {after : State} → Sound after → ShapedEntries (new_entries before after)
new_shaped before {after = after} k = each_drop (λ (e : Entry). Shaped e.term) (length before.path) after.path k.path

-- ---- stores

pub found_shaped : (x : Name) (store : Store) → ShapedStore store → Shaped (found x store)
found_shaped x [] h = truth_shaped true
found_shaped x (e ∷ rest) h = either_term (same_name x e.0) e.1 (found x rest) h.0 (found_shaped x rest h.1)

pub assign_shaped : (x : Name) (t : Term) (store : Store) → Shaped t → ShapedStore store → ShapedStore (assign x t store)
assign_shaped x t [] h k = tt
assign_shaped x t (e ∷ rest) h k =
    either_list (λ (f : Name × Term). Shaped f.1) (same_name x e.0) ((x, t) ∷ rest) (e ∷ assign x t rest) (h, k.1) (k.0, assign_shaped x t rest h k.1)

pub assign_all_shaped : (xs : List Name) (ts : List Term) (store : Store) → Each Shaped ts → ShapedStore store → ShapedStore (assign_all xs ts store)
assign_all_shaped (x ∷ xs) (t ∷ ts) store h k = assign_all_shaped xs ts (assign x t store) h.1 (assign_shaped x t store h.0 k)
assign_all_shaped [] [] store h k = k
assign_all_shaped [] (t ∷ ts) store h k = k
assign_all_shaped (x ∷ xs) [] store h k = k

pub bind_shaped : (ds : List Declaration) (ts : List Term) → Each Shaped ts → ShapedStore (bind ds ts)
bind_shaped (d ∷ ds) (t ∷ ts) h = (h.0, bind_shaped ds ts h.1)
bind_shaped [] [] h = tt
bind_shaped [] (t ∷ ts) h = tt
bind_shaped (d ∷ ds) [] h = tt

pub terms_shaped : (store : Store) → ShapedStore store → Each Shaped (terms_in store)
terms_shaped [] h = tt
terms_shaped (e ∷ rest) h = (h.0, terms_shaped rest h.1)

pub leave_sound : {s : State} (n : ℕ) → Sound s → Sound (leave n s)
leave_sound {s = s} n k = store_sound (each_take (λ (e : Name × Term). Shaped e.1) n s.store k.store) k

pub declare_sound : {s : State} (x : Name) (t : Term) → Shaped t → Sound s → Sound (declare x t s)
declare_sound {s = s} x t h k = store_sound (each_join (λ (e : Name × Term). Shaped e.1) s.store ((x, t) ∷ []) k.store (h, tt)) k

pub declare_fresh_sound : {s : State} (x : Name) (a : Sort) → Sound s → Sound (declare_fresh x a s)
declare_fresh_sound {s = s} x a k = declare_sound x (fresh a s) (fresh_shaped a s) (fresh_sound k)

pub declare_all_sound : (ds : List Declaration) {s : State} → Sound s → Sound (declare_all ds s)
declare_all_sound [] k = k
declare_all_sound (d ∷ ds) k = declare_all_sound ds (declare_fresh_sound d.name (sort_of_type d.of) k)

-- ---- names

pub name_shaped : (t : Term) (s : State) → Shaped t → Shaped (name_of t s)
name_shaped t s h = either_term (is_named t s) t (fresh (sort_of t) s) h (fresh_shaped (sort_of t) s)

pub name_sound : {s : State} (t : Term) → Shaped t → Sound s → Sound (after_name t s)
name_sound {s = s} t h k =
    let new = equals (fresh (sort_of t) s) t in
    either_sound (is_named t s) s (with_fact new (after_fresh s)) k (fact_sound new (equals_shaped (fresh_shaped (sort_of t) s) h) (fresh_sound k))

pub names_shaped : (ts : List Term) (s : State) → Each Shaped ts → Each Shaped (names_of ts s)
names_shaped [] s h = tt
names_shaped (t ∷ ts) s h = (name_shaped t s h.0, names_shaped ts (after_name t s) h.1)

pub names_sound : (ts : List Term) {s : State} → Each Shaped ts → Sound s → Sound (after_names ts s)
names_sound [] h k = k
names_sound (t ∷ ts) h k = names_sound ts h.1 (name_sound t h.0 k)

pub forget_sound : (done xs : List Name) {s : State} → Sound s → Sound (forget done xs s)
forget_sound done [] k = k
forget_sound done (x ∷ xs) {s = s} k =
    let a = sort_of (found x s.store) in
    let renewed = with_store (assign x (fresh a s) s.store) (after_fresh s) in
    either_sound (is_stored x s.store && not (is_among x done)) (forget (x ∷ done) xs renewed) (forget done xs s)
    (forget_sound (x ∷ done) xs {s = renewed} (store_sound (assign_shaped x (fresh a s) s.store (fresh_shaped a s) k.store) (fresh_sound k)))
    (forget_sound done xs k)

-- ---- candidates

pub first_argument_shaped : (ts : List Term) → Each Shaped ts → Shaped (first_argument ts)
first_argument_shaped [] h = null_shaped
first_argument_shaped (t ∷ ts) h = h.0

equal_onto_shaped : (c : Term) (ss ts : List Term) → Shaped c → Each Shaped ss → Each Shaped ts → Shaped (equal_onto c ss ts)
equal_onto_shaped c (s ∷ ss) (t ∷ ts) h k l = equal_onto_shaped (and c (equals s t)) ss ts (and_shaped h (equals_shaped k.0 l.0)) k.1 l.1
equal_onto_shaped c [] [] h k l = h
equal_onto_shaped c [] (t ∷ ts) h k l = h
equal_onto_shaped c (s ∷ ss) [] h k l = h

equal_shaped : (ss ts : List Term) → Each Shaped ss → Each Shaped ts → Shaped (equal_arguments ss ts)
equal_shaped (s ∷ ss) (t ∷ ts) k l = equal_onto_shaped (equals s t) ss ts (equals_shaped k.0 l.0) k.1 l.1
equal_shaped [] [] k l = truth_shaped true
equal_shaped [] (t ∷ ts) k l = truth_shaped true
equal_shaped (s ∷ ss) [] k l = truth_shaped true

pub holds_some_shaped : (ts : List Term) (c : Chunk) → Each Shaped ts → ShapedChunk c → Shaped (holds_some ts c)
holds_some_shaped ts c h k = and_shaped (equal_shaped c.arguments ts k.arguments h) (positive_shaped k.amount)

pub holds_amount_shaped : (a : Term) (ts : List Term) (c : Chunk) → Shaped a → Each Shaped ts → ShapedChunk c → Shaped (holds_amount a ts c)
holds_amount_shaped a ts c g h k = and_shaped (equal_shaped c.arguments ts k.arguments h) (less_equal_shaped g k.amount)

chosen_shaped : (identical : Bool) (key : Chunk) (n : ℕ) (h : Heap) → ShapedHeap h → ShapedCandidates (chosen identical key n h)
chosen_shaped identical key n [] k = tt
chosen_shaped identical key n (c ∷ cs) k =
    let rest = chosen identical key (suc n) cs in
    let more = chosen_shaped identical key (suc n) cs k.1 in
    either_list (λ (d : Candidate). ShapedChunk d.chunk) (is_kin key c && term.same_bool identical (same_arguments key.arguments c.arguments))
    (record { number = n; chunk = c } ∷ rest) rest (k.0, more) more

pub own_shaped : (key : Chunk) (h : Heap) → ShapedHeap h → ShapedCandidates (chosen true key 0 h)
own_shaped key h k = chosen_shaped true key 0 h k

pub candidates_shaped : (key : Chunk) (h : Heap) → ShapedHeap h → ShapedCandidates (candidates key h)
candidates_shaped key h k =
    each_join (λ (d : Candidate). ShapedChunk d.chunk) (chosen true key 0 h) (chosen false key 0 h) (chosen_shaped true key 0 h k) (chosen_shaped false key 0 h k)

pub inner_shaped : (cs : List Candidate) → ShapedCandidates cs → ShapedCandidates (only_inner cs)
inner_shaped [] k = tt
inner_shaped (c ∷ cs) k =
    let more = inner_shaped cs k.1 in
    either_list (λ (d : Candidate). ShapedChunk d.chunk) c.chunk.inner (c ∷ only_inner cs) (only_inner cs) (k.0, more) more

pub surely_shaped : (wanted : Chunk → Term) (cs : List Candidate) → ShapedCandidates cs → IfSome (surely wanted cs) (λ (c : Candidate). ShapedChunk c.chunk)
surely_shaped wanted [] k = tt
surely_shaped wanted (c ∷ cs) k = go (same (wanted c.chunk) true_term) (surely_shaped wanted cs k.1)
  where
    go : (b : Bool) → IfSome (surely wanted cs) (λ (c : Candidate). ShapedChunk c.chunk) → IfSome (cond b (Some c) (surely wanted cs)) (λ (c : Candidate). ShapedChunk c.chunk)
    go true more = k.0
    go false more = more

-- ---- sums

at_shaped : (c : Chunk) (r : Term) → ShapedChunk c → Shaped r → Shaped (equals (first_argument c.arguments) r)
at_shaped c r k h = equals_shaped (first_argument_shaped c.arguments k.arguments) h

sum_onto_shaped : (t r : Term) (cs : List Candidate) → Shaped t → Shaped r → ShapedCandidates cs → Shaped (sum_onto t r cs)
sum_onto_shaped t r [] h g k = h
sum_onto_shaped t r (c ∷ cs) h g k =
    sum_onto_shaped (add t (part_at r c.chunk)) r cs (add_shaped h (ite_shaped (at_shaped c.chunk r k.0 g) k.0.amount zero_amount_shaped)) g k.1

pub sum_shaped : (r : Term) (cs : List Candidate) → Shaped r → ShapedCandidates cs → Shaped (sum_at r cs)
sum_shaped r cs g k = sum_onto_shaped zero_amount r cs zero_amount_shaped g k

value_facts_shaped : (r u : Term) (cs : List Candidate) → Shaped r → Shaped u → ShapedCandidates cs → Each Shaped (value_facts r u cs)
value_facts_shaped r u [] g h k = tt
value_facts_shaped r u (c ∷ cs) g h k = (implies_shaped (holds_some_shaped (r ∷ []) c.chunk (g, tt) k.0) (equals_shaped h k.0.value), value_facts_shaped r u cs g h k.1)

pub value_seen_sound : {s : State} (r u : Term) (cs : List Candidate) → Shaped r → Shaped u → ShapedCandidates cs → Sound s → Sound (with_value r u cs s)
value_seen_sound r u cs g h k l = facts_sound (value_facts r u cs) (value_facts_shaped r u cs g h k) (fresh_sound l)

-- ---- chunks that are changed

without_shaped : (n : ℕ) (h : Heap) → ShapedHeap h → ShapedHeap (without n h)
without_shaped n h k = each_join ShapedChunk (take n h) (drop (suc n) h) (each_take ShapedChunk n h k) (each_drop ShapedChunk (suc n) h k)

pub reduced_shaped : (c : Candidate) (a : Term) (h : Heap) → ShapedChunk c.chunk → Shaped a → ShapedHeap h → ShapedHeap (reduced c a h)
reduced_shaped c a h k g l =
    let rest = subtract c.chunk.amount a in
    let changed = record c.chunk { amount = rest } in
    let less' : ShapedChunk changed = record { arguments = k.arguments; amount = subtract_shaped k.amount g; value = k.value } in
    either_list ShapedChunk (same rest zero_amount) (without c.number h) (slice_set h c.number changed) (without_shaped c.number h l) (each_set ShapedChunk h c.number changed less' l)

amount_sound : {s : State} (c : Candidate) (b : Term) → ShapedChunk c.chunk → Shaped b → Sound s → Sound (with_amount c b s)
amount_sound {s = s} c b k h l =
    let changed = record c.chunk { amount = name_of b s } in
    heap_sound (each_set ShapedChunk s.heap c.number changed (record { arguments = k.arguments; amount = name_shaped b s h; value = k.value }) l.heap) (name_sound b h l)

pub written_sound : {s : State} (c : Candidate) (t : Term) → ShapedChunk c.chunk → Shaped t → Sound s → Sound (written c t s)
written_sound {s = s} c t k h l =
    let changed = record c.chunk { value = name_of t s } in
    heap_sound (each_set ShapedChunk s.heap c.number changed (record { arguments = k.arguments; amount = k.amount; value = name_shaped t s h }) l.heap) (name_sound t h l)

share_shaped : (r n : Term) (c : Chunk) → Shaped r → Shaped n → ShapedChunk c → Shaped (share r n c)
share_shaped r n c g h k = ite_shaped (at_shaped c r k g) (ite_shaped (less_equal_shaped k.amount h) k.amount h) zero_amount_shaped

taken_shaped : (r n : Term) (c : Candidate) (s : State) → Shaped r → Shaped n → ShapedChunk c.chunk → Shaped (name_of (share r n c.chunk) s)
taken_shaped r n c s g h k = name_shaped (share r n c.chunk) s (share_shaped r n c.chunk g h k)

taking_sound : {s : State} (r n : Term) (c : Candidate) → Shaped r → Shaped n → ShapedChunk c.chunk → Sound s
    → Sound (with_amount c (subtract c.chunk.amount (name_of (share r n c.chunk) s)) (after_name (share r n c.chunk) s))
taking_sound {s = s} r n c g h k l =
    amount_sound c (subtract c.chunk.amount (name_of (share r n c.chunk) s)) k (subtract_shaped k.amount (taken_shaped r n c s g h k)) (name_sound (share r n c.chunk) (share_shaped r n c.chunk g h k) l)

pub shared_sound : (r n : Term) (cs : List Candidate) {s : State} → Shaped r → Shaped n → ShapedCandidates cs → Sound s → Sound (shared_out r n cs s)
shared_sound r n [] g h k l = l
shared_sound r n (c ∷ cs) {s = s} g h k l =
    shared_sound r (subtract n (name_of (share r n c.chunk) s)) cs
    {s = with_amount c (subtract c.chunk.amount (name_of (share r n c.chunk) s)) (after_name (share r n c.chunk) s)} g
    (subtract_shaped h (taken_shaped r n c s g h k.0)) k.1 (taking_sound r n c g h k.0 l)

pub without_empty_shaped : (h : Heap) → ShapedHeap h → ShapedHeap (without_empty h)
without_empty_shaped [] k = tt
without_empty_shaped (c ∷ cs) k =
    let more = without_empty_shaped cs k.1 in
    either_list ShapedChunk (same c.amount zero_amount) (without_empty cs) (c ∷ without_empty cs) more (k.0, more)

pub written_each_sound : (r t : Term) (cs : List Candidate) {s : State} → Shaped r → Shaped t → ShapedCandidates cs → Sound s → Sound (written_each r t cs s)
written_each_sound r t [] g h k l = l
written_each_sound r t (c ∷ cs) g h k l =
    written_each_sound r t cs g h k.1 (written_sound c (value_where r t c.chunk) k.0 (ite_shaped (at_shaped c.chunk r k.0 g) h k.0.value) l)

-- ---- putting a chunk

merged_shaped : (new c : Chunk) → ShapedChunk new → ShapedChunk c → ShapedChunk (merged new c)
merged_shaped new c h k = record { arguments = k.arguments; amount = add_shaped k.amount h.amount; value = ite_shaped (positive_shaped k.amount) k.value h.value }

agree_shaped : (new c : Chunk) → ShapedChunk new → ShapedChunk c → Shaped (agree new c)
agree_shaped new c h k = implies_shaped (and_shaped (positive_shaped k.amount) (positive_shaped h.amount)) (equals_shaped k.value h.value)

not_null_shaped : (new : Chunk) → ShapedChunk new → Shaped (is_not_null new)
not_null_shaped new h = implies_shaped (positive_shaped h.amount) (negate_shaped (equals_shaped (first_argument_shaped new.arguments h.arguments) null_shaped))

at_most_shaped : (whole c : Chunk) → ShapedChunk whole → ShapedChunk c → Shaped (at_most_whole whole c)
at_most_shaped whole c h k =
    implies_shaped (equals_shaped (first_argument_shaped c.arguments k.arguments) (first_argument_shaped whole.arguments h.arguments))
    (less_equal_shaped (add_shaped h.amount k.amount) whole_amount_shaped)

one_value_shaped : (whole c : Chunk) → ShapedChunk whole → ShapedChunk c → Shaped (one_value whole c)
one_value_shaped whole c h k =
    implies_shaped
    (and_shaped (and_shaped (equals_shaped (first_argument_shaped whole.arguments h.arguments) (first_argument_shaped c.arguments k.arguments)) (positive_shaped h.amount)) (positive_shaped k.amount))
    (equals_shaped h.value k.value)

bounding_shaped : (b : Bool) (ts : List Term) → Each Shaped ts → Each Shaped (bounding b ts)
bounding_shaped b ts h = either_list Shaped b ts [] h tt

other_shaped : (summed bounded : Bool) (whole c : Chunk) → ShapedChunk whole → ShapedChunk c → Each Shaped (with_other summed bounded whole c)
other_shaped summed bounded whole c h k =
    each_join Shaped (bounding bounded (at_most_whole whole c ∷ [])) (cond summed (one_value whole c ∷ []) [])
    (bounding_shaped bounded (at_most_whole whole c ∷ []) (at_most_shaped whole c h k, tt))
    (either_list Shaped summed (one_value whole c ∷ []) [] (one_value_shaped whole c h k, tt) tt)

apart_shaped : (summed bounded : Bool) (whole : Chunk) (h : Heap) → ShapedChunk whole → ShapedHeap h → Each Shaped (apart summed bounded whole h)
apart_shaped summed bounded whole [] g k = tt
apart_shaped summed bounded whole (c ∷ cs) g k =
    let rest = apart summed bounded whole cs in
    let more = apart_shaped summed bounded whole cs g k.1 in
    either_list Shaped (is_kin whole c && not (same_arguments whole.arguments c.arguments)) (with_other summed bounded whole c ++ rest) rest
    (each_join Shaped (with_other summed bounded whole c) rest (other_shaped summed bounded whole c g k.0) more) more

three_shaped : (r : Term) (cs : List Candidate) → Shaped r → ShapedCandidates cs → Each Shaped (at_most_three r cs)
three_shaped r (a ∷ b ∷ c ∷ cs) g k = (less_equal_shaped (sum_shaped r (a ∷ b ∷ c ∷ cs) g k) whole_amount_shaped, tt)
three_shaped r [] g k = tt
three_shaped r (a ∷ []) g k = tt
three_shaped r (a ∷ b ∷ []) g k = tt

amount_low : (c : Chunk) (bounded : Bool) → ShapedChunk c → Each Shaped (bounding bounded (less_equal c.amount whole_amount ∷ []))
amount_low c bounded h = bounding_shaped bounded (less_equal c.amount whole_amount ∷ []) (less_equal_shaped h.amount whole_amount_shaped, tt)

field_facts_shaped : (summed bounded : Bool) (cs : List Candidate) (new : Chunk) (h : Heap) → ShapedCandidates cs → ShapedChunk new → ShapedHeap h → Each Shaped (field_facts summed bounded cs new h)
field_facts_shaped summed bounded [] new h k g l = (
  not_null_shaped new g,
  each_join Shaped (bounding bounded (less_equal new.amount whole_amount ∷ [])) (apart summed bounded new h) (amount_low new bounded g) (apart_shaped summed bounded new h g l),
)
field_facts_shaped summed bounded (c ∷ cs) new h k g l =
    let whole = merged new c.chunk in
    let whole_shaped = merged_shaped new c.chunk g k.0 in
    each_join Shaped (is_not_null new ∷ bounding bounded (less_equal new.amount whole_amount ∷ []))
    (agree new c.chunk ∷ (bounding bounded (less_equal whole.amount whole_amount ∷ []) ++ apart summed bounded whole h))
    (not_null_shaped new g, amount_low new bounded g) (
      agree_shaped new c.chunk g k.0,
      each_join Shaped (bounding bounded (less_equal whole.amount whole_amount ∷ [])) (apart summed bounded whole h) (amount_low whole bounded whole_shaped)
          (apart_shaped summed bounded whole h whole_shaped l),
    )

instance_facts_shaped : (cs : List Candidate) (new : Chunk) → ShapedCandidates cs → ShapedChunk new → Each Shaped (instance_facts cs new)
instance_facts_shaped [] new k g = tt
instance_facts_shaped (c ∷ cs) new k g = (agree_shaped new c.chunk g k.0, tt)

put_over_shaped : (cs : List Candidate) (new : Chunk) (h : Heap) → ShapedCandidates cs → ShapedChunk new → ShapedHeap h → ShapedHeap (put_over cs new h)
put_over_shaped [] new h k g l = each_join ShapedChunk h (new ∷ []) l (g, tt)
put_over_shaped (c ∷ cs) new h k g l = each_set ShapedChunk h c.number (merged new c.chunk) (merged_shaped new c.chunk g k.0) l

put_facts_shaped : (summed bounded : Bool) (new : Chunk) (h : Heap) → ShapedChunk new → ShapedHeap h → Each Shaped (put_facts summed bounded new h)
put_facts_shaped summed bounded new h g l =
    let matching = chosen true new 0 h in
    let own = own_shaped new h l in
    let after = put_over matching new h in
    let fields = field_facts summed bounded matching new h in
    let sums = bounding (summed && bounded) (whole_fact new after) in
    either_list Shaped new.is_field (fields ++ sums) (instance_facts matching new)
    (each_join Shaped fields sums (field_facts_shaped summed bounded matching new h own g l)
    (bounding_shaped (summed && bounded) (whole_fact new after)
    (three_shaped (first_argument new.arguments) (candidates new after) (first_argument_shaped new.arguments g.arguments) (candidates_shaped new after (put_over_shaped matching new h own g l)))))
    (instance_facts_shaped matching new own g)

pub put_sound : {s : State} (new : Chunk) → ShapedChunk new → Sound s → Sound (put new s)
put_sound {s = s} new g k =
    let held = with_heap (put_over (chosen true new 0 s.heap) new s.heap) s in
    let facts = put_facts (not (is_quiet s)) s.bounded new s.heap in
    either_sound (same new.amount zero_amount) s (with_facts facts held) k
    (facts_sound facts {s = held} (put_facts_shaped (not (is_quiet s)) s.bounded new s.heap g k.heap)
    (heap_sound (put_over_shaped (chosen true new 0 s.heap) new s.heap (own_shaped new s.heap k.heap) g k.heap) k))

pub fields_sound : (p : Program) (fs : List Name) (x : Term) {s : State} → Shaped x → Sound s → Sound (put_fields p fs x s)
fields_sound p [] x h k = k
fields_sound p (f ∷ fs) x {s = s} h k =
    let new = record (field_key f x) { amount = whole_amount; value = fresh (field_sort p f) s } in
    fields_sound p fs x h (put_sound new (record { arguments = (h, tt); amount = whole_amount_shaped; value = fresh_shaped (field_sort p f) s }) (fresh_sound k))

-- ---- new references

stored_shaped : (x : Term) (ts : List Term) → Shaped x → Each Shaped ts → Each Shaped (unlike_stored x ts)
stored_shaped x [] h k = tt
stored_shaped x (t ∷ ts) h k =
    let more = stored_shaped x ts h k.1 in
    either_list Shaped (is_ref t) (unlike x t ∷ unlike_stored x ts) (unlike_stored x ts) (negate_shaped (equals_shaped h k.0), more) more

chunk_shaped : (x : Term) (c : Chunk) → Shaped x → ShapedChunk c → Each Shaped (unlike_chunk x c)
chunk_shaped x c h k = (
  implies_shaped (positive_shaped k.amount) (negate_shaped (equals_shaped h (first_argument_shaped c.arguments k.arguments))),
  either_list Shaped (is_ref c.value) (implies (less zero_amount c.amount) (unlike x c.value) ∷ []) [] (implies_shaped (positive_shaped k.amount) (negate_shaped (equals_shaped h k.value)), tt) tt,
)

held_shaped : (x : Term) (h : Heap) → Shaped x → ShapedHeap h → Each Shaped (unlike_held x h)
held_shaped x [] g k = tt
held_shaped x (c ∷ cs) g k =
    let more = held_shaped x cs g k.1 in
    either_list Shaped c.is_field (unlike_chunk x c ++ unlike_held x cs) (unlike_held x cs) (each_join Shaped (unlike_chunk x c) (unlike_held x cs) (chunk_shaped x c g k.0) more) more

pub distinct_shaped : (x : Term) (s : State) → Shaped x → Sound s → Each Shaped (distinct x s)
distinct_shaped x s h k = (
  negate_shaped (equals_shaped h null_shaped),
  each_join Shaped (unlike_stored x (terms_in s.store) ++ unlike_held x s.heap) (unlike_held x s.old)
      (each_join Shaped (unlike_stored x (terms_in s.store)) (unlike_held x s.heap) (stored_shaped x (terms_in s.store) h (terms_shaped s.store k.store)) (held_shaped x s.heap h k.heap))
      (held_shaped x s.old h k.old),
)

pub rooted_sound : {s : State} (c : Candidate) → ShapedChunk c.chunk → Sound s → Sound (rooted c s)
rooted_sound {s = s} c h k =
    heap_sound (each_set ShapedChunk s.heap c.number (record c.chunk { root = true }) (record { arguments = h.arguments; amount = h.amount; value = h.value }) k.heap) k

-- ---- snapshots

abbrev pub ShapedSnapshot : Option Term → Type 0
ShapedSnapshot snapshot = IfSome snapshot Shaped

pub produced_shaped : (a : Sort) (snapshot : Option Term) (s : State) → ShapedSnapshot snapshot → Shaped (produced_value a snapshot s)
produced_shaped a None s h = fresh_shaped a s
produced_shaped a (Some t) s h = name_shaped (unwrap a t) s (unwrap_shaped a h)

pub value_sound : {s : State} (a : Sort) (snapshot : Option Term) → ShapedSnapshot snapshot → Sound s → Sound (after_value a snapshot s)
value_sound a None h k = fresh_sound k
value_sound {s = s} a (Some t) h k =
    let u = unwrap a t in
    let named = name_of u s in
    fact_sound (equals t (wrap a named)) (equals_shaped h (wrap_shaped a (name_shaped u s (unwrap_shaped a h)))) (name_sound u (unwrap_shaped a h) k)

pub snapshot_shaped : (snapshot : Option Term) (s : State) → ShapedSnapshot snapshot → Shaped (produced_snapshot snapshot s)
snapshot_shaped None s h = fresh_shaped SnapSort s
snapshot_shaped (Some t) s h = name_shaped t s h

pub snapshot_sound : {s : State} (snapshot : Option Term) → ShapedSnapshot snapshot → Sound s → Sound (after_snapshot snapshot s)
snapshot_sound None h k = fresh_sound k
snapshot_sound (Some t) h k = name_sound t h k

pub left_shaped : (snapshot : Option Term) → ShapedSnapshot snapshot → ShapedSnapshot (left_part snapshot)
left_shaped None h = tt
left_shaped (Some t) h = first_shaped h

pub right_shaped : (snapshot : Option Term) → ShapedSnapshot snapshot → ShapedSnapshot (right_part snapshot)
right_shaped None h = tt
right_shaped (Some t) h = second_shaped h

pub split_sound : {s : State} (snapshot : Option Term) → ShapedSnapshot snapshot → Sound s → Sound (with_split snapshot s)
split_sound None h k = k
split_sound (Some t) h k = fact_sound (equals t (pair (first t) (second t))) (equals_shaped h (pair_shaped (first_shaped h) (second_shaped h))) k

pub unit_sound : {s : State} (snapshot : Option Term) → ShapedSnapshot snapshot → Sound s → Sound (with_unit snapshot s)
unit_sound None h k = k
unit_sound (Some t) h k = fact_sound (equals t unit) (equals_shaped h unit_shaped) k

pub built_wrap_sound : {s : State} (x : Context) (a : Sort) (v : Term) → Shaped v → Sound s → Sound (with_built_wrap x a v s)
built_wrap_sound {s = s} x a v h k =
    let fact = term.Binary sort.Equal (written_unwrap a (wrap a v)) v in
    either_sound x.builds (with_fact fact s) s (fact_sound fact (binary_shaped (written_unwrap_shaped a (wrap_shaped a h)) h) k) k

pub built_pair_sound : {s : State} (x : Context) (t u : Term) → Shaped t → Shaped u → Sound s → Sound (with_built_pair x t u s)
built_pair_sound {s = s} x t u h g k =
    let both = pair_shaped h g in
    either_sound x.builds (with_facts (pair_facts t u) s) s
    (facts_sound (pair_facts t u) (binary_shaped (written_first_shaped both) h, (binary_shaped (written_second_shaped both) g, tt)) k) k

-- ---- paths

pub path_shaped : (es : List Entry) → ShapedEntries es → Each Shaped (path_terms es)
path_shaped [] h = tt
path_shaped (e ∷ es) h = (h.0, path_shaped es h.1)
