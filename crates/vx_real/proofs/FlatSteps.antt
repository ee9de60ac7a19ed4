-- Flat states, and trees whose questions are all flat: facts, forks, questions, candidates, and reads, writes and takes by the sum.
use Rattle.std.proofs.Common.{◌≡◌, ℕ, zero, suc, Bool, true, false, not, cond, ◌&&◌, ◌||◌, List, [], ◌∷◌, ◌++◌, take, drop, slice_set, Some, None, refl, true≢false}
use Rattle.vx_ast.specs.declared.Place.{Place}
use Rattle.vx_ast.specs.Syntax.{Name}
use Rattle.vx_terms.specs.Sorts.{Sort}
use Rattle.vx_terms.specs.Terms.{Term, same, sort_of, is_name}
use Rattle.vx_terms.specs.Build.{true_term, false_term, negate, and, equals, less, less_equal, add, subtract, ite, zero_amount, whole_amount}
use Rattle.vx_terms.specs.Interpretations.{Each}
use Rattle.vx_rules.specs.States.{Entry, Chunk, Heap, State, is_quiet, is_known, with_heap, with_entry, with_fact, with_facts, with_branch, path_terms, fresh, after_fresh, name_of, after_name}
use Rattle.vx_rules.specs.Trees.{Code, PermissionCode, Tree, End, Impossible, On, Step, Ask, Probe, Fork}
use Rattle.vx_rules.specs.Chunks.{field_key, first_argument, equal_onto, equal_arguments, Candidate, chosen, candidates, is_kin, same_arguments, holds_some, holds_amount, surely, part_at, sum_onto, sum_at, value_facts, with_value, without, reduced, with_amount, written, share, shared_out, without_empty, value_where, written_each}
use Rattle.vx_rules.specs.Rules.{Giving, Going, question, unless_false, ask, never, fork, by_sum, take_chunk, read_field, write_field}
use Rattle.vx_elements.proofs.Lists.{each_append}
use Rattle.vx_real.proofs.Flat.{IsFlat, cond_flat, negate_flat, flat_and, flat_implies, flat_equals, flat_ite, flat_less, flat_less_equal, flat_add, flat_subtract}

pub record IsFlatChunk (c : Chunk) : Type 0 where
  pub arguments : Each IsFlat c.arguments
  pub amount : IsFlat c.amount
  pub value : IsFlat c.value

pub record IsFlatState (s : State) : Type 0 where
  pub store : Each (λ (e : Name × Term). IsFlat e.1) s.store
  pub path : Each IsFlat (path_terms s.path)
  pub heap : Each IsFlatChunk s.heap
  pub old : Each IsFlatChunk s.old
  pub awake : is_quiet s ≡ false

-- each question's condition and path are flat
abbrev pub AllFlat : Tree → Type 0
AllFlat End = Unit {0}
AllFlat (Impossible s) = Unit {0}
AllFlat (On t s) = Unit {0}
AllFlat (Step t) = AllFlat t
AllFlat (Ask q t) = (IsFlat q.condition × Each IsFlat q.path) × AllFlat t
AllFlat (Probe q a b) = (IsFlat q.condition × Each IsFlat q.path) × AllFlat a × AllFlat b
AllFlat (Fork a b) = AllFlat a × AllFlat b

abbrev pub FollowsFlat : Going → Type 0
FollowsFlat on = (s : State) → IsFlatState s → AllFlat (on s)

abbrev pub GivesFlat : Giving → Type 0
GivesFlat on = (t : Term) → IsFlat t → FollowsFlat (on t)

-- Facts and symbols

path_append : (xs : List Entry) (e : Entry) → Each IsFlat (path_terms xs) → IsFlat e.term → Each IsFlat (path_terms (xs ++ e ∷ []))
path_append [] e h k = (k, tt)
path_append (x ∷ xs) e h k = (h.0, path_append xs e h.1 k)

pub entry_flat : (t : Term) (b : Bool) {s : State} → IsFlatState s → IsFlat t → IsFlatState (with_entry record { term = t; branch = b } s)
entry_flat t b {s = s} h k = record { store = h.store; path = path_append s.path (record { term = t; branch = b }) h.path k; heap = h.heap; old = h.old; awake = h.awake }

pub fact_flat : (t : Term) {s : State} → IsFlatState s → IsFlat t → IsFlatState (with_fact t s)
fact_flat t {s = s} h k = go (is_known t s)
  where
    go : (b : Bool) → IsFlatState (cond b s (with_entry record { term = t; branch = false } s))
    go true = h
    go false = entry_flat t false h k

pub facts_flat : (ts : List Term) {s : State} → IsFlatState s → Each IsFlat ts → IsFlatState (with_facts ts s)
facts_flat [] h k = h
facts_flat (t ∷ ts) h k = facts_flat ts (fact_flat t h k.0) k.1

pub branch_flat : (t : Term) {s : State} → IsFlatState s → IsFlat t → IsFlatState (with_branch t s)
branch_flat t h k = entry_flat t true h k

pub fresh_flat : {s : State} → IsFlatState s → IsFlatState (after_fresh s)
fresh_flat h = record { store = h.store; path = h.path; heap = h.heap; old = h.old; awake = h.awake }

pub heap_flat : (g : Heap) {s : State} → IsFlatState s → Each IsFlatChunk g → IsFlatState (with_heap g s)
heap_flat g h k = record { store = h.store; path = h.path; heap = k; old = h.old; awake = h.awake }

pub named_flat : (t : Term) (s : State) → IsFlat t → IsFlat (name_of t s)
named_flat t s k = cond_flat (is_name t || is_quiet s) t (fresh (sort_of t) s) k tt

pub name_flat : (t : Term) {s : State} → IsFlatState s → IsFlat t → IsFlatState (after_name t s)
name_flat t {s = s} h k = go (is_name t || is_quiet s)
  where
    go : (b : Bool) → IsFlatState (cond b s (with_fact (equals (fresh (sort_of t) s) t) (after_fresh s)))
    go true = h
    go false = fact_flat (equals (fresh (sort_of t) s) t) (fresh_flat h) (flat_equals (fresh (sort_of t) s) t tt k)

-- Questions and forks

pub either_flat : (b : Bool) (x y : Tree) → AllFlat x → AllFlat y → AllFlat (cond b x y)
either_flat true x y h k = h
either_flat false x y h k = k

pub ask_flat : (c : Term) (at : Place) (code : Code) {s : State} (on : Going) → IsFlatState s → IsFlat c → FollowsFlat on → AllFlat (ask c at code s on)
ask_flat c at code {s = s} on h k f =
    either_flat (same c true_term || is_quiet s) (Step (on s)) (Ask (question false c at code s) (unless_false c s (on (with_fact c s)))) (f s h)
    ((k, h.path), either_flat (same c false_term) (Impossible s) (on (with_fact c s)) tt (f (with_fact c s) (fact_flat c h k)))

pub never_flat : (at : Place) (code : Code) {s : State} → IsFlatState s → AllFlat (never at code s)
never_flat at code {s = s} h = either_flat (is_quiet s) End (Ask (question false false_term at code s) (Impossible s)) tt ((tt, h.path), tt)

pub fork_flat : (c : Term) {s : State} (left right : Going) → IsFlatState s → IsFlat c → FollowsFlat left → FollowsFlat right → AllFlat (fork c s left right)
fork_flat c {s = s} left right h k f g =
    let split = Fork (left (with_branch c s)) (right (with_branch (negate c) s)) in
    either_flat (is_known c s) (Step (left s)) (cond (is_known (negate c) s) (Step (right s)) split) (f s h)
    (either_flat (is_known (negate c) s) (Step (right s)) split (g s h) (f (with_branch c s) (branch_flat c h k), g (with_branch (negate c) s) (branch_flat (negate c) h (negate_flat c k))))

-- Candidates

abbrev pub AreFlatCandidates : List Candidate → Type 0
AreFlatCandidates cs = Each (λ (c : Candidate). IsFlatChunk c.chunk) cs

pub chosen_flat : (b : Bool) (key : Chunk) (n : ℕ) (h : Heap) → Each IsFlatChunk h → AreFlatCandidates (chosen b key n h)
chosen_flat b key n [] k = tt
chosen_flat b key n (c ∷ cs) k = go (is_kin key c && (cond b (same_arguments key.arguments c.arguments) (not (same_arguments key.arguments c.arguments)))) (chosen_flat b key (suc n) cs k.1)
  where
    go : (x : Bool) → AreFlatCandidates (chosen b key (suc n) cs) → AreFlatCandidates (cond x (record { number = n; chunk = c } ∷ chosen b key (suc n) cs) (chosen b key (suc n) cs))
    go true r = (k.0, r)
    go false r = r

pub candidates_flat : (key : Chunk) (h : Heap) → Each IsFlatChunk h → AreFlatCandidates (candidates key h)
candidates_flat key h k = each_append (λ (c : Candidate). IsFlatChunk c.chunk) (chosen true key 0 h) (chosen false key 0 h) (chosen_flat true key 0 h k) (chosen_flat false key 0 h k)

pub first_flat : (ts : List Term) → Each IsFlat ts → IsFlat (first_argument ts)
first_flat [] k = (refl, refl)
first_flat (t ∷ ts) k = k.0

sum_flat : (t r : Term) (cs : List Candidate) → IsFlat t → IsFlat r → AreFlatCandidates cs → IsFlat (sum_onto t r cs)
sum_flat t r [] k g h = k
sum_flat t r (c ∷ cs) k g h =
    let receiver = first_argument c.chunk.arguments in
    sum_flat (add t (part_at r c.chunk)) r cs (flat_add t (part_at r c.chunk) k (flat_ite (equals receiver r) c.chunk.amount zero_amount (flat_equals receiver r (first_flat c.chunk.arguments h.0.arguments) g) h.0.amount tt)) g h.1

pub total_flat : (r : Term) (cs : List Candidate) → IsFlat r → AreFlatCandidates cs → IsFlat (sum_at r cs)
total_flat r cs g h = sum_flat zero_amount r cs tt g h

equal_flat : (c : Term) (ss ts : List Term) → IsFlat c → Each IsFlat ss → Each IsFlat ts → IsFlat (equal_onto c ss ts)
equal_flat c [] ts k h g = k
equal_flat c (s ∷ ss) [] k h g = k
equal_flat c (s ∷ ss) (t ∷ ts) k h g = equal_flat (and c (equals s t)) ss ts (flat_and c (equals s t) k (flat_equals s t h.0 g.0)) h.1 g.1

arguments_flat : (ss ts : List Term) → Each IsFlat ss → Each IsFlat ts → IsFlat (equal_arguments ss ts)
arguments_flat [] ts h g = tt
arguments_flat (s ∷ ss) [] h g = tt
arguments_flat (s ∷ ss) (t ∷ ts) h g = equal_flat (equals s t) ss ts (flat_equals s t h.0 g.0) h.1 g.1

some_flat : (ts : List Term) (c : Chunk) → IsFlatChunk c → Each IsFlat ts → IsFlat (holds_some ts c)
some_flat ts c h g = flat_and (equal_arguments c.arguments ts) (less zero_amount c.amount) (arguments_flat c.arguments ts h.arguments g) (flat_less zero_amount c.amount tt h.amount)

-- an own chunk that is surely as wanted is one of them; else the sum is asked
by_sum_flat : (wanted : Chunk → Term) (asked : Term → Term) (key : Chunk) (at : Place) (code : Code) {s : State} (on : Candidate → Tree) (summed : Going) → IsFlatState s → Each IsFlat key.arguments → ((t : Term) → IsFlat t → IsFlat (asked t)) →
    ((c : Candidate) → IsFlatChunk c.chunk → AllFlat (on c)) → FollowsFlat summed → AllFlat (by_sum wanted asked key at code s on summed)
by_sum_flat wanted asked key at code {s = s} on summed h g a f k = go (chosen true key 0 s.heap) (chosen_flat true key 0 s.heap h.heap)
  where
    asking : Tree
    asking = ask (asked (sum_at (first_argument key.arguments) (candidates key s.heap))) at code s summed

    total : IsFlat (sum_at (first_argument key.arguments) (candidates key s.heap))
    total = total_flat (first_argument key.arguments) (candidates key s.heap) (first_flat key.arguments g) (candidates_flat key s.heap h.heap)

    asking_flat : AllFlat (ask (asked (sum_at (first_argument key.arguments) (candidates key s.heap))) at code s summed)
    asking_flat = ask_flat (asked (sum_at (first_argument key.arguments) (candidates key s.heap))) at code summed h (a (sum_at (first_argument key.arguments) (candidates key s.heap)) total) k

    go : (cs : List Candidate) → AreFlatCandidates cs → AllFlat (elim (surely wanted cs) as (λ o. Tree) [ Some c ↦ Step (on c) | None ↦ ask (asked (sum_at (first_argument key.arguments) (candidates key s.heap))) at code s summed ])
    go [] d = asking_flat
    go (c ∷ cs) d = either (same (wanted c.chunk) true_term) (go cs d.1)
      where
        either : (b : Bool) → AllFlat (elim (surely wanted cs) as (λ o. Tree) [ Some c ↦ Step (on c) | None ↦ ask (asked (sum_at (first_argument key.arguments) (candidates key s.heap))) at code s summed ]) →
            AllFlat (elim (cond b (Some c) (surely wanted cs)) as (λ o. Tree) [ Some c ↦ Step (on c) | None ↦ ask (asked (sum_at (first_argument key.arguments) (candidates key s.heap))) at code s summed ])
        either true r = f c d.0
        either false r = r

-- Reading

values_flat : (r u : Term) (cs : List Candidate) → IsFlat r → IsFlat u → AreFlatCandidates cs → Each IsFlat (value_facts r u cs)
values_flat r u [] g k h = tt
values_flat r u (c ∷ cs) g k h = (flat_implies (holds_some (r ∷ []) c.chunk) (equals u c.chunk.value) (some_flat (r ∷ []) c.chunk h.0 (g, tt)) (flat_equals u c.chunk.value k h.0.value), values_flat r u cs g k h.1)

value_flat : (r u : Term) (cs : List Candidate) {s : State} → IsFlatState s → IsFlat r → IsFlat u → AreFlatCandidates cs → IsFlatState (with_value r u cs s)
value_flat r u cs h g k d = facts_flat (value_facts r u cs) (fresh_flat h) (values_flat r u cs g k d)

awake_flat : (b : Bool) (x y : Tree) → b ≡ false → AllFlat y → AllFlat (cond b x y)
awake_flat true x y e h = absurd (true≢false e)
awake_flat false x y e h = h

pub read_flat : (f : Name) (r : Term) (a : Sort) (at : Place) {s : State} (on : Giving) → IsFlatState s → IsFlat r → GivesFlat on → AllFlat (read_field f r a at s on)
read_flat f r a at {s = s} on h g k = awake_flat (is_quiet s) _ _ h.awake
    (by_sum_flat (holds_some (r ∷ [])) (less zero_amount) (field_key f r) at PermissionCode (λ c. on c.chunk.value s) (λ s1. on (fresh a s1) (with_value r (fresh a s1) (candidates (field_key f r) s1.heap) s1)) h (g, tt)
    (λ t d. flat_less zero_amount t tt d) (λ c d. k c.chunk.value d.value s h)
    (λ s1 h1. k (fresh a s1) tt (with_value r (fresh a s1) (candidates (field_key f r) s1.heap) s1) (value_flat r (fresh a s1) (candidates (field_key f r) s1.heap) h1 g tt (candidates_flat (field_key f r) s1.heap h1.heap))))

-- Lists of chunks that change

pub set_flat : (h : Heap) (n : ℕ) (c : Chunk) → Each IsFlatChunk h → IsFlatChunk c → Each IsFlatChunk (slice_set h n c)
set_flat [] n c k d = tt
set_flat (x ∷ xs) zero c k d = (d, k.1)
set_flat (x ∷ xs) (suc n) c k d = (k.0, set_flat xs n c k.1 d)

take_flat : (n : ℕ) (h : Heap) → Each IsFlatChunk h → Each IsFlatChunk (take n h)
take_flat zero h k = tt
take_flat (suc n) [] k = tt
take_flat (suc n) (c ∷ cs) k = (k.0, take_flat n cs k.1)

drop_flat : (n : ℕ) (h : Heap) → Each IsFlatChunk h → Each IsFlatChunk (drop n h)
drop_flat zero h k = k
drop_flat (suc n) [] k = tt
drop_flat (suc n) (c ∷ cs) k = drop_flat n cs k.1

pub amount_flat : {c : Chunk} (a : Term) → IsFlatChunk c → IsFlat a → IsFlatChunk (record c { amount = a })
amount_flat a d k = record { arguments = d.arguments; amount = k; value = d.value }

pub content_flat : {c : Chunk} (v : Term) → IsFlatChunk c → IsFlat v → IsFlatChunk (record c { value = v })
content_flat v d k = record { arguments = d.arguments; amount = d.amount; value = k }

reduced_flat : (c : Candidate) (a : Term) (h : Heap) → Each IsFlatChunk h → IsFlatChunk c.chunk → IsFlat a → Each IsFlatChunk (reduced c a h)
reduced_flat c a h k d g = go (same (subtract c.chunk.amount a) zero_amount)
  where
    go : (b : Bool) → Each IsFlatChunk (cond b (without c.number h) (slice_set h c.number (record c.chunk { amount = subtract c.chunk.amount a })))
    go true = each_append IsFlatChunk (take c.number h) (drop (suc c.number) h) (take_flat c.number h k) (drop_flat (suc c.number) h k)
    go false = set_flat h c.number (record c.chunk { amount = subtract c.chunk.amount a }) k (amount_flat (subtract c.chunk.amount a) d (flat_subtract c.chunk.amount a d.amount g))

pub written_flat : (c : Candidate) (t : Term) {s : State} → IsFlatState s → IsFlatChunk c.chunk → IsFlat t → IsFlatState (written c t s)
written_flat c t {s = s} h d k = heap_flat (slice_set s.heap c.number (record c.chunk { value = name_of t s })) (name_flat t h k) (set_flat s.heap c.number (record c.chunk { value = name_of t s }) h.heap (content_flat (name_of t s) d (named_flat t s k)))

with_amount_flat : (c : Candidate) (b : Term) {s : State} → IsFlatState s → IsFlatChunk c.chunk → IsFlat b → IsFlatState (with_amount c b s)
with_amount_flat c b {s = s} h d k = heap_flat (slice_set s.heap c.number (record c.chunk { amount = name_of b s })) (name_flat b h k) (set_flat s.heap c.number (record c.chunk { amount = name_of b s }) h.heap (amount_flat (name_of b s) d (named_flat b s k)))

shared_flat : (r n : Term) (cs : List Candidate) {s : State} → IsFlatState s → IsFlat r → IsFlat n → AreFlatCandidates cs → IsFlatState (shared_out r n cs s)
shared_flat r n [] h g k d = h
shared_flat r n (c ∷ cs) {s = s} h g k d =
    let t = share r n c.chunk in
    let taken = name_of t s in
    let receiver = first_argument c.chunk.arguments in
    let ft = flat_ite (equals receiver r) (ite (less_equal c.chunk.amount n) c.chunk.amount n) zero_amount (flat_equals receiver r (first_flat c.chunk.arguments d.0.arguments) g)
    (flat_ite (less_equal c.chunk.amount n) c.chunk.amount n (flat_less_equal c.chunk.amount n d.0.amount k) d.0.amount k) tt in
    let fn = named_flat t s ft in
    shared_flat r (subtract n taken) cs (with_amount_flat c (subtract c.chunk.amount taken) (name_flat t h ft) d.0 (flat_subtract c.chunk.amount taken d.0.amount fn)) g (flat_subtract n taken k fn) d.1

without_flat : (h : Heap) → Each IsFlatChunk h → Each IsFlatChunk (without_empty h)
without_flat [] k = tt
without_flat (c ∷ cs) k = go (same c.amount zero_amount) (without_flat cs k.1)
  where
    go : (b : Bool) → Each IsFlatChunk (without_empty cs) → Each IsFlatChunk (cond b (without_empty cs) (c ∷ without_empty cs))
    go true r = r
    go false r = (k.0, r)

-- Taking and writing

pub take_all_flat : (f : Name) (r a : Term) (sort : Sort) (at : Place) (code : Code) {s : State} (on : Chunk → State → Tree) → IsFlatState s → IsFlat r → IsFlat a → ((c : Chunk) → IsFlatChunk c → FollowsFlat (on c)) → AllFlat (take_chunk (field_key f r) a sort at code s on)
take_all_flat f r a sort at code {s = s} on h g k follows = awake (is_quiet s) _ h.awake
  where
    key : Chunk
    key = field_key f r

    summed : Going
    summed s1 =
        let s2 = shared_out r a (candidates (field_key f r) s1.heap) s1 in
        on (record (field_key f r) { amount = a; value = fresh sort s2 }) (with_value r (fresh sort s2) (candidates (field_key f r) s1.heap) (with_heap (without_empty s2.heap) s2))

    summed_flat : FollowsFlat summed
    summed_flat s1 h1 =
        let cs = candidates (field_key f r) s1.heap in
        let d = candidates_flat (field_key f r) s1.heap h1.heap in
        let s2 = shared_out r a cs s1 in
        let h2 = shared_flat r a cs h1 g k d in
        follows (record (field_key f r) { amount = a; value = fresh sort s2 }) (record { arguments = (g, tt); amount = k; value = tt })
        (with_value r (fresh sort s2) cs (with_heap (without_empty s2.heap) s2)) (value_flat r (fresh sort s2) cs (heap_flat (without_empty s2.heap) h2 (without_flat s2.heap h2.heap)) g tt d)

    awake : (b : Bool) (y : Tree) → b ≡ false → AllFlat (cond (not b) (by_sum (holds_amount a (r ∷ [])) (less_equal a) (field_key f r) at code s (λ c. on c.chunk (with_heap (reduced c a s.heap) s)) summed) y)
    awake true y e = absurd (true≢false e)
    awake false y e = by_sum_flat (holds_amount a (r ∷ [])) (less_equal a) (field_key f r) at code (λ c. on c.chunk (with_heap (reduced c a s.heap) s)) summed h (g, tt) (λ t d. flat_less_equal a t k d)
        (λ c d. follows c.chunk d (with_heap (reduced c a s.heap) s) (heap_flat (reduced c a s.heap) h (reduced_flat c a s.heap h.heap d k))) summed_flat

each_flat : (r t : Term) (cs : List Candidate) {s : State} → IsFlatState s → IsFlat r → IsFlat t → AreFlatCandidates cs → IsFlatState (written_each r t cs s)
each_flat r t [] h g k d = h
each_flat r t (c ∷ cs) h g k d =
    let receiver = first_argument c.chunk.arguments in
    each_flat r t cs (written_flat c (value_where r t c.chunk) h d.0 (flat_ite (equals receiver r) t c.chunk.value (flat_equals receiver r (first_flat c.chunk.arguments d.0.arguments) g) k d.0.value)) g k d.1

pub write_flat : (f : Name) (r t : Term) (at : Place) {s : State} (on : Going) → IsFlatState s → IsFlat r → IsFlat t → FollowsFlat on → AllFlat (write_field f r t at s on)
write_flat f r t at {s = s} on h g k follows =
    by_sum_flat (holds_amount whole_amount (r ∷ [])) (less_equal whole_amount) (field_key f r) at PermissionCode (λ c. on (written c t s)) (λ s1. on (written_each r t (candidates (field_key f r) s1.heap) s1)) h (g, tt)
    (λ u d. flat_less_equal whole_amount u tt d) (λ c d. follows (written c t s) (written_flat c t h d k))
    (λ s1 h1. follows (written_each r t (candidates (field_key f r) s1.heap) s1) (each_flat r t (candidates (field_key f r) s1.heap) h1 g k (candidates_flat (field_key f r) s1.heap h1.heap)))
