-- The laws of walks, for whatever follows a tree.
use Rattle.std.proofs.Common.{◌≡◌, List, [], ◌∷◌, ◌++◌, length, drop, map, refl, sym, ap, ◌∙◌, append_assoc}
use Rattle.std.proofs.lemmas.List.{length-append, drop-drop}
use Rattle.vx_smt_meaning.specs.declared.reply.Reply.{Reply}
use Rattle.vx_smt_meaning.specs.declared.reply.Reply.TheVariants.{Unsat, Sat, Unknown}
use Rattle.vx_rules.specs.Trees.{Question, Tree, End, Impossible, On, Step, Ask, Probe, Fork, Ending, Passed, Failed, Open, Answered, Walked, after_answer, walk_then, walk}
use Rattle.vx_walks.specs.Walks.{IsOver, Begins, followed_by, followed}

-- what is left for what follows
abbrev left : Walked → List Reply → List Reply
left w rs = drop (length w.answered) rs

followed_after : (q : Question) (r : Reply) (w v : Walked) → followed (after_answer q r w) v ≡ after_answer q r (followed w v)
followed_after q r w v = go w.ending
  where
    go : (e : Ending) → followed_by e (after_answer q r w) v ≡ after_answer q r (followed_by e w v)
    go Passed = refl
    go (Failed place code reply) = refl
    go (Open o) = refl

-- By the end of the first of three walks: they follow one another in whatever way they are joined.
in_row : (a b : List Answered) (e f : Ending) (u : Walked) →
    followed_by (followed_by e (record { answered = a; ending = e }) (record { answered = b; ending = f })).ending
    (followed_by e (record { answered = a; ending = e }) (record { answered = b; ending = f })) u
    ≡ followed_by e (record { answered = a; ending = e }) (followed_by f (record { answered = b; ending = f }) u)
in_row a b Passed Passed u = ap (λ l. record { answered = l; ending = u.ending }) (append_assoc a b u.answered)
in_row a b Passed (Failed place code reply) u = refl
in_row a b Passed (Open q) u = refl
in_row a b (Failed place code reply) f u = refl
in_row a b (Open q) f u = refl

-- what the second leaves, by the end of the first
left_by : (a : List Answered) (e : Ending) (v u : Walked) (next : List Reply → Walked) (rs : List Reply) →
    followed_by e (record { answered = a; ending = e }) (followed v (next (left v (drop (length a) rs))))
    ≡ followed_by e (record { answered = a; ending = e }) (followed v (next (left (followed_by e (record { answered = a; ending = e }) v) rs)))
left_by a Passed v u next rs = ap (λ l. followed_by Passed (record { answered = a; ending = Passed }) (followed v (next l))) (drop-drop (length v.answered) (length a) rs ∙ ap (λ n. drop n rs) (sym (length-append a v.answered)))
left_by a (Failed place code reply) v u next rs = refl
left_by a (Open q) v u next rs = refl

pub walked_on : (t : Tree) (next : List Reply → Walked) (rs : List Reply) → walk_then t next rs ≡ followed (walk t rs) (next (left (walk t rs) rs))
walked_on End next rs = refl
walked_on (Impossible s) next rs = refl
walked_on (On t s) next rs = refl
walked_on (Step t) next rs = walked_on t next rs
walked_on (Ask q t) next [] = refl
walked_on (Ask q t) next (Unsat ∷ rs) =
    ap (after_answer q Unsat) (walked_on t next rs) ∙ sym (followed_after q Unsat (walk t rs) (next (left (walk t rs) rs)))
walked_on (Ask q t) next (Sat ∷ rs) = refl
walked_on (Ask q t) next (Unknown ∷ rs) = refl
walked_on (Probe q a b) next [] = refl
walked_on (Probe q a b) next (Unsat ∷ rs) =
    ap (after_answer q Unsat) (walked_on a next rs) ∙ sym (followed_after q Unsat (walk a rs) (next (left (walk a rs) rs)))
walked_on (Probe q a b) next (Sat ∷ rs) =
    ap (after_answer q Sat) (walked_on b next rs) ∙ sym (followed_after q Sat (walk b rs) (next (left (walk b rs) rs)))
walked_on (Probe q a b) next (Unknown ∷ rs) =
    ap (after_answer q Unknown) (walked_on b next rs) ∙ sym (followed_after q Unknown (walk b rs) (next (left (walk b rs) rs)))
walked_on (Fork a b) next rs =
    let w = walk a rs in
    let v = walk b (left w rs) in
    walked_on a (walk_then b next) rs
    ∙ ap (followed w) (walked_on b next (left w rs))
    ∙ left_by w.answered w.ending v v next rs
    ∙ sym (in_row w.answered v.answered w.ending v.ending (next (left (followed w v) rs)))
    ∙ ap (λ x. followed x (next (left x rs))) (sym (walked_on a (walk b) rs))

-- What follows is final once it is over, and its questions grow by prefix.
abbrev pub IsFinal : (List Reply → Walked) → Type 0
IsFinal next = (rs more : List Reply) → IsOver (next rs).ending → next (rs ++ more) ≡ next rs

abbrev pub Grows : (List Reply → Walked) → Type 0
Grows next = (rs more : List Reply) → Begins (next rs).answered (next (rs ++ more)).answered

pub final_then : (t : Tree) (next : List Reply → Walked) → IsFinal next → IsFinal (walk_then t next)
final_then End next f rs more h = f rs more h
final_then (Impossible s) next f rs more h = f rs more h
final_then (On t s) next f rs more h = f rs more h
final_then (Step t) next f rs more h = final_then t next f rs more h
final_then (Fork a b) next f rs more h = final_then a (walk_then b next) (final_then b next f) rs more h
final_then (Ask q t) next f [] more h = absurd h
final_then (Ask q t) next f (Unsat ∷ rs) more h = ap (after_answer q Unsat) (final_then t next f rs more h)
final_then (Ask q t) next f (Sat ∷ rs) more h = refl
final_then (Ask q t) next f (Unknown ∷ rs) more h = refl
final_then (Probe q a b) next f [] more h = absurd h
final_then (Probe q a b) next f (Unsat ∷ rs) more h = ap (after_answer q Unsat) (final_then a next f rs more h)
final_then (Probe q a b) next f (Sat ∷ rs) more h = ap (after_answer q Sat) (final_then b next f rs more h)
final_then (Probe q a b) next f (Unknown ∷ rs) more h = ap (after_answer q Unknown) (final_then b next f rs more h)

one_more : {A : Type 0} (x : A) (xs ys : List A) → Begins xs ys → Begins (x ∷ xs) (x ∷ ys)
one_more x xs ys h = (h.0, ap (λ l. x ∷ l) h.1)

pub grows_then : (t : Tree) (next : List Reply → Walked) → Grows next → Grows (walk_then t next)
grows_then End next g rs more = g rs more
grows_then (Impossible s) next g rs more = g rs more
grows_then (On t s) next g rs more = g rs more
grows_then (Step t) next g rs more = grows_then t next g rs more
grows_then (Fork a b) next g rs more = grows_then a (walk_then b next) (grows_then b next g) rs more
grows_then (Ask q t) next g [] more = (_, refl)
grows_then (Ask q t) next g (Unsat ∷ rs) more = one_more _ _ _ (grows_then t next g rs more)
grows_then (Ask q t) next g (Sat ∷ rs) more = ([], refl)
grows_then (Ask q t) next g (Unknown ∷ rs) more = ([], refl)
grows_then (Probe q a b) next g [] more = (_, refl)
grows_then (Probe q a b) next g (Unsat ∷ rs) more = one_more _ _ _ (grows_then a next g rs more)
grows_then (Probe q a b) next g (Sat ∷ rs) more = one_more _ _ _ (grows_then b next g rs more)
grows_then (Probe q a b) next g (Unknown ∷ rs) more = one_more _ _ _ (grows_then b next g rs more)

-- The replies of what follows are the next ones.
abbrev pub Takes : (List Reply → Walked) → Type 0
Takes next = (rs : List Reply) → Begins (map (λ a. a.reply) (next rs).answered) rs

pub takes_then : (t : Tree) (next : List Reply → Walked) → Takes next → Takes (walk_then t next)
takes_then End next k rs = k rs
takes_then (Impossible s) next k rs = k rs
takes_then (On t s) next k rs = k rs
takes_then (Step t) next k rs = takes_then t next k rs
takes_then (Fork a b) next k rs = takes_then a (walk_then b next) (takes_then b next k) rs
takes_then (Ask q t) next k [] = ([], refl)
takes_then (Ask q t) next k (Unsat ∷ rs) = one_more _ _ _ (takes_then t next k rs)
takes_then (Ask q t) next k (Sat ∷ rs) = (rs, refl)
takes_then (Ask q t) next k (Unknown ∷ rs) = (rs, refl)
takes_then (Probe q a b) next k [] = ([], refl)
takes_then (Probe q a b) next k (Unsat ∷ rs) = one_more _ _ _ (takes_then a next k rs)
takes_then (Probe q a b) next k (Sat ∷ rs) = one_more _ _ _ (takes_then b next k rs)
takes_then (Probe q a b) next k (Unknown ∷ rs) = one_more _ _ _ (takes_then b next k rs)
