-- What asks, forks or looks for a chunk is shaped where what follows is, and leaves shaped values and states.
use Rattle.std.proofs.Common.{Bool, true, false, not, cond, ◌&&◌, ◌||◌, List, [], ◌∷◌, Option, Some, None}
use Rattle.std.specs.Prelude.{⊤, IfSome}
use Rattle.vx_ast.specs.declared.Place.{Place}
use Rattle.vx_ast.specs.Syntax.{Name, Connective, And, Or, Implies}
use Rattle.vx_terms.specs.Sorts.{Sort}
use Rattle.vx_terms.specs.Terms.{Term, same}
use Rattle.vx_terms.specs.Build.{true_term, false_term, negate, equals, less, less_equal, whole_amount, zero_amount}
use Rattle.vx_terms.specs.Interpretations.{Each}
use Rattle.vx_smt_text.specs.Shaped.{IsShaped}
use Rattle.vx_rules.specs.States.{Chunk, State, is_quiet, with_heap, is_known, with_fact, with_branch, path_terms, fresh, after_fresh}
use Rattle.vx_rules.specs.Trees.{Code, PermissionCode, Tree, End, Impossible, On, Step, Ask, Probe, Fork, Left, leaves}
use Rattle.vx_rules.specs.Chunks.{field_key, first_argument, Candidate, chosen, candidates, holds_some, holds_amount, surely, sum_at, with_value, shared_out, without_empty, written, written_each, reduced}
use Rattle.vx_rules.specs.Rules.{Giving, Going, GivingAll, question, unless_false, ask, never, probe, fork, short, first_with, by_sum, take_fresh, take_chunk, read_field, write_field}
use Rattle.vx_readable.specs.Readable.{IsShapedQuestion, AllShaped}
use Rattle.vx_readable.proofs.Shapes.{Shaped, truth_shaped, zero_amount_shaped, whole_amount_shaped, negate_shaped, equals_shaped, less_equal_shaped, positive_shaped, each_join}
use Rattle.vx_readable.proofs.States.{ShapedChunk, ShapedCandidates, Sound, heap_sound, fresh_sound, fresh_shaped, branch_sound, fact_sound, own_shaped, candidates_shaped, first_argument_shaped, holds_some_shaped, holds_amount_shaped, surely_shaped, sum_shaped, value_seen_sound, reduced_shaped, written_sound, shared_sound, without_empty_shaped, written_each_sound, path_shaped}

-- ---- trees

-- its questions are shaped, and what it leaves
abbrev pub Good : Tree → Type 0
Good End = ⊤
Good (Impossible s) = ⊤
Good (On t s) = Shaped t × Sound s
Good (Step t) = Good t
Good (Ask q t) = IsShapedQuestion q × Good t
Good (Probe q a b) = IsShapedQuestion q × Good a × Good b
Good (Fork a b) = Good a × Good b

pub good_all : (t : Tree) → Good t → AllShaped t
good_all End h = tt
good_all (Impossible s) h = tt
good_all (On t s) h = tt
good_all (Step t) h = good_all t h
good_all (Ask q t) h = (h.0, good_all t h.1)
good_all (Probe q a b) h = (h.0, good_all a h.1, good_all b h.2)
good_all (Fork a b) h = (good_all a h.0, good_all b h.1)

pub record ShapedLeft (l : Left) : Type 0 where
  pub value : Shaped l.value
  pub state : Sound l.state

pub good_leaves : (t : Tree) → Good t → Each ShapedLeft (leaves t)
good_leaves End h = tt
good_leaves (Impossible s) h = tt
good_leaves (On t s) h = (record { value = h.0; state = h.1 }, tt)
good_leaves (Step t) h = good_leaves t h
good_leaves (Ask q t) h = good_leaves t h.1
good_leaves (Probe q a b) h = each_join ShapedLeft (leaves a) (leaves b) (good_leaves a h.1) (good_leaves b h.2)
good_leaves (Fork a b) h = each_join ShapedLeft (leaves a) (leaves b) (good_leaves a h.0) (good_leaves b h.1)

-- ---- what follows

abbrev pub Follows : Going → Type 0
Follows on = (s : State) → Sound s → Good (on s)

abbrev pub FollowsWith : Giving → Type 0
FollowsWith on = (t : Term) (s : State) → Shaped t → Sound s → Good (on t s)

abbrev pub FollowsAll : GivingAll → Type 0
FollowsAll on = (ts : List Term) (s : State) → Each Shaped ts → Sound s → Good (on ts s)

-- ---- steps

pub either_good : (b : Bool) (x y : Tree) → Good x → Good y → Good (cond b x y)
either_good true x y g h = g
either_good false x y g h = h

each_is : (ts : List Term) → Each Shaped ts → Each IsShaped ts
each_is [] h = tt
each_is (t ∷ ts) h = (h.0.is, each_is ts h.1)

question_shaped : (probe : Bool) (c : Term) (at : Place) (code : Code) (s : State) → Shaped c → Sound s → IsShapedQuestion (question probe c at code s)
question_shaped probe c at code s h k = record { condition = h.is; path = each_is (path_terms s.path) (path_shaped s.path k.path) }

unless_good : (c : Term) (s : State) (t : Tree) → Good t → Good (unless_false c s t)
unless_good c s t g = either_good (same c false_term) (Impossible s) t tt g

pub ask_good : (s : State) (c : Term) (at : Place) (code : Code) (on : Going) → Shaped c → Sound s → Follows on → Good (ask c at code s on)
ask_good s c at code on g k h =
    let follows = on (with_fact c s) in
    either_good (same c true_term || is_quiet s) (Step (on s)) (Ask (question false c at code s) (unless_false c s follows)) (h s k)
    (question_shaped false c at code s g k, unless_good c s follows (h (with_fact c s) (fact_sound c g k)))

pub never_good : (s : State) (at : Place) (code : Code) → Sound s → Good (never at code s)
never_good s at code k =
    either_good (is_quiet s) End (Ask (question false false_term at code s) (Impossible s)) tt (question_shaped false false_term at code s (truth_shaped false) k, tt)

probe_good : (s : State) (c : Term) (at : Place) (code : Code) (refuted otherwise : Tree) → Shaped c → Sound s → Good refuted → Good otherwise → Good (probe c at code s refuted otherwise)
probe_good s c at code refuted otherwise k l g h =
    let asked = Probe (question true c at code s) (unless_false c s refuted) otherwise in
    either_good (same c true_term) (Step refuted) (cond (is_quiet s) (Step otherwise) asked) g
    (either_good (is_quiet s) (Step otherwise) asked h (question_shaped true c at code s k l, unless_good c s refuted g, h))

pub fork_good : (s : State) (c : Term) (left right : Going) → Shaped c → Sound s → Follows left → Follows right → Good (fork c s left right)
fork_good s c left right k l g h =
    let one = left (with_branch c s) in
    let other = right (with_branch (negate c) s) in
    either_good (is_known c s) (Step (left s)) (cond (is_known (negate c) s) (Step (right s)) (Fork one other)) (g s l)
    (either_good (is_known (negate c) s) (Step (right s)) (Fork one other) (h s l)
    (g (with_branch c s) (branch_sound c k l), h (with_branch (negate c) s) (branch_sound (negate c) (negate_shaped k) l)))

pub short_good : (s : State) (c : Connective) (t : Term) (more : Going) (on : Giving) → Shaped t → Sound s → Follows more → FollowsWith on → Good (short c t s more on)
short_good s And t more on k l g h = fork_good s t more (on false_term) k l g (λ s1. h false_term s1 (truth_shaped false))
short_good s Or t more on k l g h = fork_good s t (on true_term) more k l (λ s1. h true_term s1 (truth_shaped true)) g
short_good s Implies t more on k l g h = fork_good s t more (on true_term) k l g (λ s1. h true_term s1 (truth_shaped true))

-- ---- chunks

pub first_good : (s : State) (wanted : Chunk → Term) (cs : List Candidate) (at : Place) (code : Code) (on : Candidate → Tree) (otherwise : Tree)
    → ((c : Chunk) → ShapedChunk c → Shaped (wanted c)) → ShapedCandidates cs → Sound s → ((c : Candidate) → ShapedChunk c.chunk → Good (on c)) → Good otherwise → Good (first_with wanted cs at code s on otherwise)
first_good s wanted [] at code on otherwise w k l g h = h
first_good s wanted (c ∷ cs) at code on otherwise w k l g h =
    probe_good s (wanted c.chunk) at code (on c) (first_with wanted cs at code s on otherwise) (w c.chunk k.0) l (g c k.0) (first_good s wanted cs at code on otherwise w k.1 l g h)

-- what a chunk leads to
abbrev pub FollowsChunk : (Chunk → Going) → Type 0
FollowsChunk on = (c : Chunk) (s : State) → ShapedChunk c → Sound s → Good (on c s)

key_with : (key : Chunk) (a v : Term) → Each Shaped key.arguments → Shaped a → Shaped v → ShapedChunk (record key { amount = a; value = v })
key_with key a v h g k = record { arguments = h; amount = g; value = k }

fresh_good : (s : State) (key : Chunk) (a : Term) (sort : Sort) (at : Place) (code : Code) (on : Chunk → Going)
    → Each Shaped key.arguments → Shaped a → Sound s → FollowsChunk on → Good (take_fresh key a sort at code s on)
fresh_good s key a sort at code on g k l h =
    let new = λ (s1 : State). on (record key { amount = a; value = fresh sort s1 }) (after_fresh s1) in
    either_good (is_quiet s) End (ask (equals a zero_amount) at code s new) tt
    (ask_good s (equals a zero_amount) at code new (equals_shaped k zero_amount_shaped) l (λ s1 l1. h (record key { amount = a; value = fresh sort s1 }) (after_fresh s1) (key_with key a (fresh sort s1) g k (fresh_shaped sort s1)) (fresh_sound l1)))

sum_good : (s : State) (wanted : Chunk → Term) (asked : Term → Term) (key : Chunk) (at : Place) (code : Code) (on : Candidate → Tree) (summed : Going)
    → ((t : Term) → Shaped t → Shaped (asked t)) → Each Shaped key.arguments → Sound s → ((c : Candidate) → ShapedChunk c.chunk → Good (on c)) → Follows summed → Good (by_sum wanted asked key at code s on summed)
sum_good s wanted asked key at code on summed w g l h k = go (surely wanted (chosen true key 0 s.heap)) (surely_shaped wanted (chosen true key 0 s.heap) (own_shaped key s.heap l.heap))
  where
    all : Term
    all = asked (sum_at (first_argument key.arguments) (candidates key s.heap))

    all_shaped : Shaped all
    all_shaped = w (sum_at (first_argument key.arguments) (candidates key s.heap)) (sum_shaped (first_argument key.arguments) (candidates key s.heap) (first_argument_shaped key.arguments g) (candidates_shaped key s.heap l.heap))

    by_first : Option Candidate → Tree
    by_first None = ask all at code s summed
    by_first (Some c) = Step (on c)

    go : (c : Option Candidate) → IfSome c (λ (c : Candidate). ShapedChunk c.chunk) → Good (by_first c)
    go None n = ask_good s all at code summed all_shaped l k
    go (Some c) n = h c n

-- what is taken, read or written over all candidates

abbrev pub taking_all : Chunk → Term → Sort → (Chunk → Going) → Going
taking_all key a sort on s =
    let r = first_argument key.arguments in
    let cs = candidates key s.heap in
    let s1 = shared_out r a cs s in
    let u = fresh sort s1 in
    on (record key { amount = a; value = u }) (with_value r u cs (with_heap (without_empty s1.heap) s1))

taking_all_good : (s : State) (key : Chunk) (a : Term) (sort : Sort) (on : Chunk → Going) → Each Shaped key.arguments → Shaped a → Sound s → FollowsChunk on → Good (taking_all key a sort on s)
taking_all_good s key a sort on g k l h =
    let r = first_argument key.arguments in
    let r_shaped = first_argument_shaped key.arguments g in
    let cs = candidates key s.heap in
    let cs_shaped = candidates_shaped key s.heap l.heap in
    let s1 = shared_out r a cs s in
    let l1 = shared_sound r a cs r_shaped k cs_shaped l in
    let u = fresh sort s1 in
    let s2 = with_heap (without_empty s1.heap) s1 in
    h (record key { amount = a; value = u }) (with_value r u cs s2) (key_with key a u g k (fresh_shaped sort s1))
    (value_seen_sound {s = s2} r u cs r_shaped (fresh_shaped sort s1) cs_shaped (heap_sound (without_empty_shaped s1.heap l1.heap) l1))

pub take_good : (s : State) (key : Chunk) (a : Term) (sort : Sort) (at : Place) (code : Code) (on : Chunk → Going)
    → Each Shaped key.arguments → Shaped a → Sound s → FollowsChunk on → Good (take_chunk key a sort at code s on)
take_good s key a sort at code on g k l h =
    let taking = λ (c : Candidate). on c.chunk (with_heap (reduced c a s.heap) s) in
    let taken = λ (c : Candidate) (m : ShapedChunk c.chunk). h c.chunk (with_heap (reduced c a s.heap) s) m (heap_sound (reduced_shaped c a s.heap m k l.heap) l) in
    either_good (key.is_field && not (is_quiet s)) _ _
    (sum_good s (holds_amount a key.arguments) (less_equal a) key at code taking (taking_all key a sort on) (λ t m. less_equal_shaped k m) g l taken (λ s1 l1. taking_all_good s1 key a sort on g k l1 h))
    (first_good s (holds_amount a key.arguments) (candidates key s.heap) at code taking (take_fresh key a sort at code s on) (λ c m. holds_amount_shaped a key.arguments c k g m) (candidates_shaped key s.heap l.heap) l
    taken (fresh_good s key a sort at code on g k l h))

abbrev reading_all : Name → Term → Sort → Giving → Going
reading_all f r sort on s = on (fresh sort s) (with_value r (fresh sort s) (candidates (field_key f r) s.heap) s)

reading_all_good : (s : State) (f : Name) (r : Term) (sort : Sort) (on : Giving) → Shaped r → Sound s → FollowsWith on → Good (reading_all f r sort on s)
reading_all_good s f r sort on g l h =
    let u = fresh sort s in
    let cs = candidates (field_key f r) s.heap in
    h u (with_value r u cs s) (fresh_shaped sort s) (value_seen_sound r u cs g (fresh_shaped sort s) (candidates_shaped (field_key f r) s.heap l.heap) l)

pub read_good : (s : State) (f : Name) (r : Term) (sort : Sort) (at : Place) (on : Giving) → Shaped r → Sound s → FollowsWith on → Good (read_field f r sort at s on)
read_good s f r sort at on g l h =
    let key = field_key f r in
    let reading = λ (c : Candidate). on c.chunk.value s in
    let follows = λ (c : Candidate) (m : ShapedChunk c.chunk). h c.chunk.value s m.value l in
    either_good (is_quiet s) _ _
    (first_good s (holds_some (r ∷ [])) (candidates key s.heap) at PermissionCode reading (never at PermissionCode s) (λ c m. holds_some_shaped (r ∷ []) c (g, tt) m) (candidates_shaped key s.heap l.heap) l
    follows (never_good s at PermissionCode l))
    (sum_good s (holds_some (r ∷ [])) (less zero_amount) key at PermissionCode reading (reading_all f r sort on) (λ t m. positive_shaped m) (g, tt) l follows (λ s1 l1. reading_all_good s1 f r sort on g l1 h))

abbrev writing_all : Name → Term → Term → Going → Going
writing_all f r t on s = on (written_each r t (candidates (field_key f r) s.heap) s)

pub write_good : (s : State) (f : Name) (r t : Term) (at : Place) (on : Going) → Shaped r → Shaped t → Sound s → Follows on → Good (write_field f r t at s on)
write_good s f r t at on g k l h =
    sum_good s (holds_amount whole_amount (r ∷ [])) (less_equal whole_amount) (field_key f r) at PermissionCode (λ c. on (written c t s)) (writing_all f r t on)
    (λ u m. less_equal_shaped whole_amount_shaped m) (g, tt) l
    (λ c m. h (written c t s) (written_sound c t m k l))
    (λ s1 l1. h (written_each r t (candidates (field_key f r) s1.heap) s1) (written_each_sound r t (candidates (field_key f r) s1.heap) g k (candidates_shaped (field_key f r) s1.heap l1.heap) l1))
