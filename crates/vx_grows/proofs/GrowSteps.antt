-- What asks, forks or looks for a chunk grows from its state's path where what follows does.
use Rattle.std.proofs.Common.{Bool, true, false, not, cond, ◌&&◌, ◌||◌, List, [], ◌∷◌, Option, Some, None}
use Rattle.vx_ast.specs.declared.Place.{Place}
use Rattle.vx_ast.specs.Syntax.{Name, Connective, And, Or, Implies}
use Rattle.vx_terms.specs.Sorts.{Sort}
use Rattle.vx_terms.specs.Terms.{Term, same}
use Rattle.vx_terms.specs.Build.{true_term, false_term, negate, equals, less, less_equal, whole_amount, zero_amount}
use Rattle.vx_rules.specs.States.{Chunk, State, is_quiet, with_heap, is_known, with_fact, with_branch, path_terms, fresh, after_fresh}
use Rattle.vx_rules.specs.Trees.{Code, PermissionCode, Tree, End, Impossible, Step, Ask, Probe, Fork}
use Rattle.vx_rules.specs.Chunks.{field_key, first_argument, Candidate, chosen, candidates, holds_some, holds_amount, surely, sum_at, with_value, shared_out, without_empty, written, written_each, reduced}
use Rattle.vx_rules.specs.Rules.{Giving, Going, GivingAll, question, unless_false, ask, never, probe, fork, short, first_with, by_sum, take_fresh, take_chunk, read_field, write_field}
use Rattle.vx_grows.specs.Grows.{Grows}
use Rattle.vx_grows.proofs.Bases.{itself, further, sooner}
use Rattle.vx_grows.proofs.Later.{Later, branch_later, fact_later, seen_later, written_later, shares_later, each_later}

-- What follows

-- a tree grows from a state's path
abbrev pub GrowsIn : State → Tree → Type 0
GrowsIn s t = Grows (path_terms s.path) t

-- so does what follows, in every state
abbrev pub Follows : Going → Type 0
Follows on = (s : State) → GrowsIn s (on s)

abbrev pub FollowsWith : Giving → Type 0
FollowsWith on = (t : Term) (s : State) → GrowsIn s (on t s)

abbrev pub FollowsAll : GivingAll → Type 0
FollowsAll on = (ts : List Term) (s : State) → GrowsIn s (on ts s)

-- what grows in a later state grows here
pub earlier : {s u : State} → Later s u → (t : Tree) → GrowsIn u t → GrowsIn s t
earlier l t g = sooner t l.begins g

-- Steps

pub either_grows : (s : State) (b : Bool) (x y : Tree) → GrowsIn s x → GrowsIn s y → GrowsIn s (cond b x y)
either_grows s true x y g h = g
either_grows s false x y g h = h

refuted_grows : (s : State) (c : Term) (t : Tree) → GrowsIn s t → GrowsIn s (unless_false c s t)
refuted_grows s c t g = either_grows s (same c false_term) (Impossible s) t tt g

pub ask_grows : (s : State) (c : Term) (at : Place) (code : Code) (on : Going) → Follows on → GrowsIn s (ask c at code s on)
ask_grows s c at code on h =
    let follows = on (with_fact c s) in
    either_grows s (same c true_term || is_quiet s) (Step (on s)) (Ask (question false c at code s) (unless_false c s follows)) (h s)
    (itself, refuted_grows s c follows (earlier (fact_later c s) follows (h (with_fact c s))))

pub never_grows : (s : State) (at : Place) (code : Code) → GrowsIn s (never at code s)
never_grows s at code = either_grows s (is_quiet s) End (Ask (question false false_term at code s) (Impossible s)) tt (itself, tt)

probe_grows : (s : State) (c : Term) (at : Place) (code : Code) (refuted otherwise : Tree) → GrowsIn s refuted → GrowsIn s otherwise → GrowsIn s (probe c at code s refuted otherwise)
probe_grows s c at code refuted otherwise g h =
    let asked = Probe (question true c at code s) (unless_false c s refuted) otherwise in
    either_grows s (same c true_term) (Step refuted) (cond (is_quiet s) (Step otherwise) asked) g
    (either_grows s (is_quiet s) (Step otherwise) asked h (itself, refuted_grows s c refuted g, h))

pub fork_grows : (s : State) (c : Term) (left right : Going) → Follows left → Follows right → GrowsIn s (fork c s left right)
fork_grows s c left right g h =
    let one = left (with_branch c s) in
    let other = right (with_branch (negate c) s) in
    either_grows s (is_known c s) (Step (left s)) (cond (is_known (negate c) s) (Step (right s)) (Fork one other)) (g s)
    (either_grows s (is_known (negate c) s) (Step (right s)) (Fork one other) (h s)
    (earlier (branch_later c s) one (g (with_branch c s)), earlier (branch_later (negate c) s) other (h (with_branch (negate c) s))))

pub short_grows : (s : State) (c : Connective) (t : Term) (more : Going) (on : Giving) → Follows more → FollowsWith on → GrowsIn s (short c t s more on)
short_grows s And t more on g h = fork_grows s t more (on false_term) g (h false_term)
short_grows s Or t more on g h = fork_grows s t (on true_term) more (h true_term) g
short_grows s Implies t more on g h = fork_grows s t more (on true_term) g (h true_term)

-- Chunks

pub first_grows : (s : State) (wanted : Chunk → Term) (cs : List Candidate) (at : Place) (code : Code) (on : Candidate → Tree) (otherwise : Tree) → ((c : Candidate) → GrowsIn s (on c)) → GrowsIn s otherwise →
    GrowsIn s (first_with wanted cs at code s on otherwise)
first_grows s wanted [] at code on otherwise g h = h
first_grows s wanted (c ∷ cs) at code on otherwise g h =
    probe_grows s (wanted c.chunk) at code (on c) (first_with wanted cs at code s on otherwise) (g c) (first_grows s wanted cs at code on otherwise g h)

fresh_grows : (s : State) (key : Chunk) (a : Term) (sort : Sort) (at : Place) (code : Code) (on : Chunk → Going) → ((c : Chunk) → Follows (on c)) → GrowsIn s (take_fresh key a sort at code s on)
fresh_grows s key a sort at code on h =
    let new = λ (s1 : State). on (record key { amount = a; value = fresh sort s1 }) (after_fresh s1) in
    either_grows s (is_quiet s) End (ask (equals a zero_amount) at code s new) tt
    (ask_grows s (equals a zero_amount) at code new (λ s1. h (record key { amount = a; value = fresh sort s1 }) (after_fresh s1)))

sum_grows : (s : State) (wanted : Chunk → Term) (asked : Term → Term) (key : Chunk) (at : Place) (code : Code) (on : Candidate → Tree) (summed : Going) → ((c : Candidate) → GrowsIn s (on c)) → Follows summed →
    GrowsIn s (by_sum wanted asked key at code s on summed)
sum_grows s wanted asked key at code on summed g h = go (surely wanted (chosen true key 0 s.heap))
  where
    all : Term
    all = asked (sum_at (first_argument key.arguments) (candidates key s.heap))

    by_first : Option Candidate → Tree
    by_first None = ask all at code s summed
    by_first (Some c) = Step (on c)

    go : (c : Option Candidate) → GrowsIn s (by_first c)
    go None = ask_grows s all at code summed h
    go (Some c) = g c

-- what is taken, read or written over all candidates

abbrev pub taking_all : Chunk → Term → Sort → (Chunk → Going) → Going
taking_all key a sort on s =
    let r = first_argument key.arguments in
    let cs = candidates key s.heap in
    let s1 = shared_out r a cs s in
    let u = fresh sort s1 in
    on (record key { amount = a; value = u }) (with_value r u cs (with_heap (without_empty s1.heap) s1))

pub taking_all_grows : (s : State) (key : Chunk) (a : Term) (sort : Sort) (on : Chunk → Going) → ((c : Chunk) → Follows (on c)) → GrowsIn s (taking_all key a sort on s)
taking_all_grows s key a sort on h =
    let r = first_argument key.arguments in
    let cs = candidates key s.heap in
    let s1 = shared_out r a cs s in
    let u = fresh sort s1 in
    let s2 = with_heap (without_empty s1.heap) s1 in
    sooner (taking_all key a sort on s) (further (shares_later r a cs s).begins (seen_later r u cs s2).begins) (h (record key { amount = a; value = u }) (with_value r u cs s2))

abbrev pub reading_all : Name → Term → Sort → Giving → Going
reading_all f r sort on s = on (fresh sort s) (with_value r (fresh sort s) (candidates (field_key f r) s.heap) s)

pub reading_all_grows : (s : State) (f : Name) (r : Term) (sort : Sort) (on : Giving) → FollowsWith on → GrowsIn s (reading_all f r sort on s)
reading_all_grows s f r sort on h =
    let u = fresh sort s in
    let cs = candidates (field_key f r) s.heap in
    earlier (seen_later r u cs s) (on u (with_value r u cs s)) (h u (with_value r u cs s))

abbrev pub writing_all : Name → Term → Term → Going → Going
writing_all f r t on s = on (written_each r t (candidates (field_key f r) s.heap) s)

pub writing_all_grows : (s : State) (f : Name) (r t : Term) (on : Going) → Follows on → GrowsIn s (writing_all f r t on s)
writing_all_grows s f r t on h =
    let cs = candidates (field_key f r) s.heap in
    earlier (each_later r t cs s) (writing_all f r t on s) (h (written_each r t cs s))

pub take_grows : (s : State) (key : Chunk) (a : Term) (sort : Sort) (at : Place) (code : Code) (on : Chunk → Going) → ((c : Chunk) → Follows (on c)) → GrowsIn s (take_chunk key a sort at code s on)
take_grows s key a sort at code on h =
    let taking = λ (c : Candidate). on c.chunk (with_heap (reduced c a s.heap) s) in
    let taken = λ (c : Candidate). h c.chunk (with_heap (reduced c a s.heap) s) in
    either_grows s (key.is_field && not (is_quiet s)) _ _
    (sum_grows s (holds_amount a key.arguments) (less_equal a) key at code taking (taking_all key a sort on) taken (λ s1. taking_all_grows s1 key a sort on h))
    (first_grows s (holds_amount a key.arguments) (candidates key s.heap) at code taking (take_fresh key a sort at code s on) taken (fresh_grows s key a sort at code on h))

pub read_grows : (s : State) (f : Name) (r : Term) (sort : Sort) (at : Place) (on : Giving) → FollowsWith on → GrowsIn s (read_field f r sort at s on)
read_grows s f r sort at on h =
    let key = field_key f r in
    let reading = λ (c : Candidate). on c.chunk.value s in
    let follows = λ (c : Candidate). h c.chunk.value s in
    either_grows s (is_quiet s) _ _
    (first_grows s (holds_some (r ∷ [])) (candidates key s.heap) at PermissionCode reading (never at PermissionCode s) follows (never_grows s at PermissionCode))
    (sum_grows s (holds_some (r ∷ [])) (less zero_amount) key at PermissionCode reading (reading_all f r sort on) follows (λ s1. reading_all_grows s1 f r sort on h))

pub write_grows : (s : State) (f : Name) (r t : Term) (at : Place) (on : Going) → Follows on → GrowsIn s (write_field f r t at s on)
write_grows s f r t at on h =
    sum_grows s (holds_amount whole_amount (r ∷ [])) (less_equal whole_amount) (field_key f r) at PermissionCode (λ c. on (written c t s)) (writing_all f r t on)
    (λ c. earlier (written_later c t s) (on (written c t s)) (h (written c t s))) (λ s1. writing_all_grows s1 f r t on h)
