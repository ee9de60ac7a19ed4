-- What is produced after a part is marked as before it: no part of an assertion changes what marks are put.
use Rattle.std.proofs.Common.{◌≡◌, ℕ, zero, suc, pos, Bool, true, false, not, cond, ◌&&◌, ◌||◌, inl, inr, List, [], ◌∷◌, Option, Some, None, refl, sym, ◌∙◌, subst}
use Rattle.vx_ast.specs.declared.Place.{Place}
use Rattle.vx_ast.specs.Syntax.{Name, Program, Predicate, predicate_named, Connective, And, Or, Implies, Expr, Number, Truth, Null, Part, Variable, Not, Operate, Divide, Connect, Choose, Read, Old, Apply, Unfolding, Exprs, NoMore, More, Assertion, Pure, Points, Both, Implied, Chosen}
use Rattle.vx_ast.specs.Syntax as syntax
use Rattle.vx_terms.specs.Sorts.{Sort, SnapSort}
use Rattle.vx_terms.specs.Terms.{Term, same, same_bool, sort_of}
use Rattle.vx_terms.specs.Terms as term
use Rattle.vx_terms.specs.Build.{true_term, false_term, negate, equals, ite, less, less_equal, subtract, multiply, unit, pair, first, second, wrap, unwrap, zero_amount}
use Rattle.vx_terms.proofs.Same.{bool_is}
use Rattle.vx_rules.specs.States.{State, Chunk, is_quiet, is_known, with_heap, with_entry, with_fact, with_facts, with_branch, bind, fresh, after_fresh, is_named, after_name, name_of}
use Rattle.vx_rules.specs.Trees.{Code, AssertCode, AmountCode, UnfoldCode, PermissionCode, DivisorCode, Tree, Impossible, Ask, Probe, Fork, Step, End}
use Rattle.vx_rules.specs.Chunks.{field_key, instance_key, first_argument, Candidate, chosen, candidates, holds_some, holds_amount, surely, sum_at, value_facts, with_value, reduced, share, with_amount, shared_out, without_empty, put_facts, put_over, put}
use Rattle.vx_rules.specs.Rules.{Going, Giving, GivingAll, Outer, outer, nowhere, question, unless_false, ask, never, probe, fork, short, is_total, operated, divided, connected, first_with, by_sum, take_fresh, take_chunk, read_field, placed, entered, back, leads_inside, unfolded, field_sort, with_unit, with_split, produced_value, after_value, produced_snapshot, after_snapshot, left_part, right_part, eval, evals, produce}
use Rattle.vx_rules.specs.Members.{blank}
use Rattle.vx_sound.proofs.Standard.{start}
use Rattle.vx_sound.proofs.Passes.{Cleared}
use Rattle.vx_sound_preds.specs.Bodies.{Rigid, IsPlain, ArePlain, IsPlainBody, GoodBodies}

-- Facts, names and chunks

fact_marks : (t : Term) (s : State) → (with_fact t s).inner ≡ s.inner
fact_marks t s = go (is_known t s)
  where
    go : (b : Bool) → (let r : State = cond b s (with_entry record { term = t; branch = false } s) in r.inner) ≡ s.inner
    go true = refl
    go false = refl

facts_marks : (ts : List Term) (s : State) → (with_facts ts s).inner ≡ s.inner
facts_marks [] s = refl
facts_marks (t ∷ ts) s = facts_marks ts (with_fact t s) ∙ fact_marks t s

name_marks : (t : Term) (s : State) → (after_name t s).inner ≡ s.inner
name_marks t s = go (is_named t s)
  where
    fact : Term
    fact = equals (fresh (sort_of t) s) t

    go : (b : Bool) → (let r : State = cond b s (with_fact (equals (fresh (sort_of t) s) t) (after_fresh s)) in r.inner) ≡ s.inner
    go true = refl
    go false = fact_marks fact (after_fresh s)

put_marks : (new : Chunk) (s : State) → (put new s).inner ≡ s.inner
put_marks new s = go (same new.amount zero_amount)
  where
    facts : List Term
    facts = put_facts (not (is_quiet s)) s.bounded new s.heap

    go : (b : Bool) → (let r : State = cond b s (with_facts (put_facts (not (is_quiet s)) s.bounded new s.heap) (with_heap (put_over (chosen true new 0 s.heap) new s.heap) s)) in r.inner) ≡ s.inner
    go true = refl
    go false = facts_marks facts (with_heap (put_over (chosen true new 0 s.heap) new s.heap) s)

-- what is read by the sum, and what is taken by it
read_marks : (r u : Term) (cs : List Candidate) (s : State) → (with_value r u cs s).inner ≡ s.inner
read_marks r u cs s = facts_marks (value_facts r u cs) (after_fresh s)

shared_marks : (r n : Term) (cs : List Candidate) (s : State) → (shared_out r n cs s).inner ≡ s.inner
shared_marks r n [] s = refl
shared_marks r n (c ∷ cs) s =
    let t = share r n c.chunk in
    let taken = name_of t s in
    let rest = subtract c.chunk.amount taken in
    shared_marks r (subtract n taken) cs (with_amount c rest (after_name t s)) ∙ name_marks rest (after_name t s) ∙ name_marks t s

pub unit_marks : (snapshot : Option Term) (s : State) → (with_unit snapshot s).inner ≡ s.inner
unit_marks None s = refl
unit_marks (Some t) s = fact_marks (equals t unit) s

pub split_marks : (snapshot : Option Term) (s : State) → (with_split snapshot s).inner ≡ s.inner
split_marks None s = refl
split_marks (Some t) s = fact_marks (equals t (pair (first t) (second t))) s

value_marks : (a : Sort) (snapshot : Option Term) (s : State) → (after_value a snapshot s).inner ≡ s.inner
value_marks a None s = refl
value_marks a (Some t) s = fact_marks (equals t (wrap a (name_of (unwrap a t) s))) (after_name (unwrap a t) s) ∙ name_marks (unwrap a t) s

snapshot_marks : (snapshot : Option Term) (s : State) → (after_snapshot snapshot s).inner ≡ s.inner
snapshot_marks None s = refl
snapshot_marks (Some t) s = name_marks t s

-- What follows may be replaced by what is cleared wherever it is, from the states that mark as the first one does.

-- what follows in a state that marks as s does
abbrev pub Replaces : State → Going → Going → Type 0
Replaces s on other = (t : State) → t.inner ≡ s.inner → Cleared (on t) → Cleared (other t)

abbrev pub ReplacesGiving : State → Giving → Giving → Type 0
ReplacesGiving s on other = (u : Term) (t : State) → t.inner ≡ s.inner → Cleared (on u t) → Cleared (other u t)

abbrev ReplacesAll : State → GivingAll → GivingAll → Type 0
ReplacesAll s on other = (us : List Term) (t : State) → t.inner ≡ s.inner → Cleared (on us t) → Cleared (other us t)

cond_kept : (b : Bool) (x y u v : Tree) → (Cleared x → Cleared u) → (Cleared y → Cleared v) → Cleared (cond b x y) → Cleared (cond b u v)
cond_kept true x y u v f g w = f w
cond_kept false x y u v f g w = g w

ask_kept : (c : Term) (at : Place) (code : Code) (s : State) (on other : Going) → Replaces s on other → Cleared (ask c at code s on) → Cleared (ask c at code s other)
ask_kept c at code s on other h w =
    cond_kept (same c true_term || is_quiet s) (Step (on s)) (Ask (question false c at code s) (unless_false c s (on (with_fact c s)))) (Step (other s)) (Ask (question false c at code s) (unless_false c s (other (with_fact c s))))
    (h s refl) (λ k. (k.0, cond_kept (same c false_term) (Impossible s) (on (with_fact c s)) (Impossible s) (other (with_fact c s)) (λ z. z) (h (with_fact c s) (fact_marks c s)) k.1)) w

probe_kept : (c : Term) (at : Place) (code : Code) (s : State) (x y u v : Tree) → (Cleared x → Cleared u) → (Cleared y → Cleared v) → Cleared (probe c at code s x y) → Cleared (probe c at code s u v)
probe_kept c at code s x y u v f g w =
    cond_kept (same c true_term) (Step x) (cond (is_quiet s) (Step y) (Probe (question true c at code s) (unless_false c s x) y)) (Step u) (cond (is_quiet s) (Step v) (Probe (question true c at code s) (unless_false c s u) v)) f
    (cond_kept (is_quiet s) (Step y) (Probe (question true c at code s) (unless_false c s x) y) (Step v) (Probe (question true c at code s) (unless_false c s u) v) g
    (λ k. elim k [
      | inl z ↦ inl (z.0, cond_kept (same c false_term) (Impossible s) x (Impossible s) u (λ z. z) f z.1)
      | inr z ↦ inr (g z)
    ])) w

fork_kept : (c : Term) (s : State) (on side other to : Going) → Replaces s on other → Replaces s side to → Cleared (fork c s on side) → Cleared (fork c s other to)
fork_kept c s on side other to f g w =
    cond_kept (is_known c s) (Step (on s)) (cond (is_known (negate c) s) (Step (side s)) (Fork (on (with_branch c s)) (side (with_branch (negate c) s))))
    (Step (other s)) (cond (is_known (negate c) s) (Step (to s)) (Fork (other (with_branch c s)) (to (with_branch (negate c) s)))) (f s refl)
    (cond_kept (is_known (negate c) s) (Step (side s)) (Fork (on (with_branch c s)) (side (with_branch (negate c) s))) (Step (to s)) (Fork (other (with_branch c s)) (to (with_branch (negate c) s))) (g s refl)
    (λ k. (f (with_branch c s) refl k.0, g (with_branch (negate c) s) refl k.1))) w

short_kept : (c : Connective) (t : Term) (s : State) (more others : Going) (on other : Giving) → Replaces s more others → ReplacesGiving s on other → Cleared (short c t s more on) → Cleared (short c t s others other)
short_kept And t s more others on other f g w = fork_kept t s more (on false_term) others (other false_term) f (g false_term) w
short_kept Or t s more others on other f g w = fork_kept t s (on true_term) more (other true_term) others (g true_term) f w
short_kept Implies t s more others on other f g w = fork_kept t s more (on true_term) others (other true_term) f (g true_term) w

first_kept : (wanted : Chunk → Term) (cs : List Candidate) (at : Place) (code : Code) (s : State) (on other : Candidate → Tree) (x y : Tree) → ((c : Candidate) → Cleared (on c) → Cleared (other c)) → (Cleared x → Cleared y) →
    Cleared (first_with wanted cs at code s on x) → Cleared (first_with wanted cs at code s other y)
first_kept wanted [] at code s on other x y f g w = g w
first_kept wanted (c ∷ cs) at code s on other x y f g w =
    probe_kept (wanted c.chunk) at code s (on c) (first_with wanted cs at code s on x) (other c) (first_with wanted cs at code s other y) (f c) (first_kept wanted cs at code s on other x y f g) w

sum_kept : (wanted : Chunk → Term) (asked : Term → Term) (key : Chunk) (at : Place) (code : Code) (s : State) (on other : Candidate → Tree) (more others : Going) → ((c : Candidate) → Cleared (on c) → Cleared (other c)) → Replaces s more others →
    Cleared (by_sum wanted asked key at code s on more) → Cleared (by_sum wanted asked key at code s other others)
sum_kept wanted asked key at code s on other more others f g w = go (surely wanted (chosen true key 0 s.heap)) w
  where
    c : Term
    c = asked (sum_at (first_argument key.arguments) (candidates key s.heap))

    go : (o : Option Candidate) →
        Cleared (elim o as (λ o. Tree) [ Some d ↦ Step (on d) | None ↦ ask (asked (sum_at (first_argument key.arguments) (candidates key s.heap))) at code s more ]) →
        Cleared (elim o as (λ o. Tree) [ Some d ↦ Step (other d) | None ↦ ask (asked (sum_at (first_argument key.arguments) (candidates key s.heap))) at code s others ])
    go (Some d) k = f d k
    go None k = ask_kept c at code s more others g k

take_kept : (key : Chunk) (a : Term) (sort : Sort) (at : Place) (code : Code) (s : State) (on other : Chunk → State → Tree) → ((c : Chunk) → Replaces s (on c) (other c)) → Cleared (take_chunk key a sort at code s on) → Cleared (take_chunk key a sort at code s other)
take_kept key a sort at code s on other h w =
    cond_kept (key.is_field && not (is_quiet s)) (by_sum (holds_amount a key.arguments) (less_equal a) key at code s (taking on) (summed on)) (first_with (holds_amount a key.arguments) (candidates key s.heap) at code s (taking on) (take_fresh key a sort at code s on))
    (by_sum (holds_amount a key.arguments) (less_equal a) key at code s (taking other) (summed other)) (first_with (holds_amount a key.arguments) (candidates key s.heap) at code s (taking other) (take_fresh key a sort at code s other))
    (sum_kept (holds_amount a key.arguments) (less_equal a) key at code s (taking on) (taking other) (summed on) (summed other) taken_kept summed_kept)
    (first_kept (holds_amount a key.arguments) (candidates key s.heap) at code s (taking on) (taking other) (take_fresh key a sort at code s on) (take_fresh key a sort at code s other) taken_kept
    (cond_kept (is_quiet s) End (ask (equals a zero_amount) at code s (fresh_taken on)) End (ask (equals a zero_amount) at code s (fresh_taken other)) (λ z. z)
    (ask_kept (equals a zero_amount) at code s (fresh_taken on) (fresh_taken other) (λ t e. h (record key { amount = a; value = fresh sort t }) (after_fresh t) e)))) w
  where
    taking : (Chunk → State → Tree) → Candidate → Tree
    taking on c = on c.chunk (with_heap (reduced c a s.heap) s)

    taken_kept : (c : Candidate) → Cleared (taking on c) → Cleared (taking other c)
    taken_kept c = h c.chunk (with_heap (reduced c a s.heap) s) refl

    fresh_taken : (Chunk → State → Tree) → Going
    fresh_taken on t = on (record key { amount = a; value = fresh sort t }) (after_fresh t)

    summed : (Chunk → State → Tree) → Going
    summed on t =
        let r = first_argument key.arguments in
        let cs = candidates key t.heap in
        let t2 = shared_out r a cs t in
        let u = fresh sort t2 in
        on (record key { amount = a; value = u }) (with_value r u cs (with_heap (without_empty t2.heap) t2))

    summed_kept : Replaces s (summed on) (summed other)
    summed_kept t e =
        let r = first_argument key.arguments in
        let cs = candidates key t.heap in
        let t2 = shared_out r a cs t in
        let u = fresh sort t2 in
        let t3 = with_heap (without_empty t2.heap) t2 in
        h (record key { amount = a; value = u }) (with_value r u cs t3) (read_marks r u cs t3 ∙ shared_marks r a cs t ∙ e)

read_kept : (f : Name) (r : Term) (sort : Sort) (at : Place) (s : State) (on other : Giving) → ReplacesGiving s on other → Cleared (read_field f r sort at s on) → Cleared (read_field f r sort at s other)
read_kept f r sort at s on other h w =
    cond_kept (is_quiet s) (first_with (holds_some (r ∷ [])) (candidates (field_key f r) s.heap) at PermissionCode s (reading on) (never at PermissionCode s)) (by_sum (holds_some (r ∷ [])) (less zero_amount) (field_key f r) at PermissionCode s (reading on) (summed on))
    (first_with (holds_some (r ∷ [])) (candidates (field_key f r) s.heap) at PermissionCode s (reading other) (never at PermissionCode s)) (by_sum (holds_some (r ∷ [])) (less zero_amount) (field_key f r) at PermissionCode s (reading other) (summed other))
    (first_kept (holds_some (r ∷ [])) (candidates (field_key f r) s.heap) at PermissionCode s (reading on) (reading other) (never at PermissionCode s) (never at PermissionCode s) reading_kept (λ z. z))
    (sum_kept (holds_some (r ∷ [])) (less zero_amount) (field_key f r) at PermissionCode s (reading on) (reading other) (summed on) (summed other) reading_kept (λ t e.
    h (fresh sort t) (with_value r (fresh sort t) (candidates (field_key f r) t.heap) t) (read_marks r (fresh sort t) (candidates (field_key f r) t.heap) t ∙ e))) w
  where
    reading : Giving → Candidate → Tree
    reading on c = on c.chunk.value s

    reading_kept : (c : Candidate) → Cleared (reading on c) → Cleared (reading other c)
    reading_kept c = h c.chunk.value s refl

    summed : Giving → Going
    summed on t = on (fresh sort t) (with_value r (fresh sort t) (candidates (field_key f r) t.heap) t)

module _ (p : Program) (good : GoodBodies p) where
  -- what is shown of the bodies that an expression brings in
  abbrev pub BodiesKeep : Outer → Type 0
  BodiesKeep o =
      (a : Assertion) → IsPlainBody p Rigid a → (q : Term) (snapshot : Option Term) (s : State) (on other : Going) → Replaces s on other → Cleared (o.produce a q snapshot s on) → Cleared (o.produce a q snapshot s other)

  module _ (o : Outer) (bodies : BodiesKeep o) where
    unfolded_kept : (at : Place) (i : Name) (ts : List Term) (a : Term) (s : State) (on other : Going) → Replaces s on other → Cleared (unfolded p o at i ts a s on) → Cleared (unfolded p o at i ts a s other)
    unfolded_kept at i ts a s on other h w = take_kept (instance_key i ts) a SnapSort at UnfoldCode s (after on) (after other) (λ c s1 e k. by_predicate c s1 (predicate_named p i) refl k) w
      where
        of_body : Going → Predicate → Chunk → State → Option Assertion → Tree
        of_body on d c s1 b = elim b as (λ b. Tree) [
          | None ↦ never at UnfoldCode s1
          | Some body ↦ o.produce body a (Some c.value) (record (entered (bind d.parameters ts) at s1) { inner = leads_inside c }) (λ s2. on (back s s2))
        ]

        after : Going → Chunk → State → Tree
        after on c s1 = elim (predicate_named p i) as (λ d. Tree) [
          | None ↦ never at UnfoldCode s1
          | Some d ↦ elim d.body as (λ b. Tree) [
            | None ↦ never at UnfoldCode s1
            | Some body ↦ o.produce body a (Some c.value) (record (entered (bind d.parameters ts) at s1) { inner = leads_inside c }) (λ s2. on (back s s2))
          ]
        ]

        by_body : (d : Predicate) → predicate_named p i ≡ Some d → (c : Chunk) (s1 : State) (b : Option Assertion) → d.body ≡ b → Cleared (of_body on d c s1 b) → Cleared (of_body other d c s1 b)
        by_body d is c s1 None body k = k
        by_body d is c s1 (Some e) body k = bodies e (good.plain i d e is body) a (Some c.value) (record (entered (bind d.parameters ts) at s1) { inner = leads_inside c }) (λ s2. on (back s s2)) (λ s2. other (back s s2)) (λ t e. h (back s t) refl) k

        of_predicate : Going → Chunk → State → Option Predicate → Tree
        of_predicate on c s1 d = elim d as (λ d. Tree) [
          | None ↦ never at UnfoldCode s1
          | Some d ↦ of_body on d c s1 d.body
        ]

        by_predicate : (c : Chunk) (s1 : State) (d : Option Predicate) → predicate_named p i ≡ d → Cleared (of_predicate on c s1 d) → Cleared (of_predicate other c s1 d)
        by_predicate c s1 None is k = k
        by_predicate c s1 (Some d) is k = by_body d is c s1 d.body refl k

    mutual
      pub eval_kept : (e : Expr) → IsPlain e → (s : State) (on other : Giving) → Cleared (eval p o e s on) → ReplacesGiving s on other → Cleared (eval p o e s other)
      eval_kept (Number at n) k s on other w h = h _ s refl w
      eval_kept (Truth at b) k s on other w h = h _ s refl w
      eval_kept (Null at) k s on other w h = h _ s refl w
      eval_kept (Part at n d) k s on other w h = h _ s refl w
      eval_kept (Variable at x) k s on other w h = h _ s refl w
      eval_kept (Not at e) k s on other w h = eval_kept e k s (λ t s1. Step (on (negate t) s1)) (λ t s1. Step (other (negate t) s1)) w (λ t s1 e1 w1. h (negate t) s1 e1 w1)
      eval_kept (Operate at op a b) k s on other w h =
          eval_kept a k.0 s (λ t s1. Step (eval p o b s1 (λ u s2. Step (on (operated op t u) s2)))) (λ t s1. Step (eval p o b s1 (λ u s2. Step (other (operated op t u) s2)))) w (λ t s1 e1 w1.
          eval_kept b k.1 s1 (λ u s2. Step (on (operated op t u) s2)) (λ u s2. Step (other (operated op t u) s2)) w1 (λ u s2 e2 w2. h (operated op t u) s2 (e2 ∙ e1) w2))
      eval_kept (Divide at op a b) k s on other w h =
          eval_kept a k.0 s (λ t s1. Step (eval p o b s1 (λ u s2. ask (negate (equals u (term.Number (pos 0)))) (placed s2 at) DivisorCode s2 (on (divided op t u)))))
          (λ t s1. Step (eval p o b s1 (λ u s2. ask (negate (equals u (term.Number (pos 0)))) (placed s2 at) DivisorCode s2 (other (divided op t u))))) w (λ t s1 e1 w1.
          eval_kept b k.1 s1 (λ u s2. ask (negate (equals u (term.Number (pos 0)))) (placed s2 at) DivisorCode s2 (on (divided op t u)))
          (λ u s2. ask (negate (equals u (term.Number (pos 0)))) (placed s2 at) DivisorCode s2 (other (divided op t u))) w1 (λ u s2 e2 w2.
          ask_kept (negate (equals u (term.Number (pos 0)))) (placed s2 at) DivisorCode s2 (on (divided op t u)) (other (divided op t u)) (λ s3 e3. h (divided op t u) s3 (e3 ∙ e2 ∙ e1)) w2))
      eval_kept (Connect at c a b) k s on other w h =
          cond_kept (is_total b) (Step (eval p o a s (λ t s1. Step (eval p o b s1 (λ u s2. Step (on (connected c t u) s2)))))) (Step (eval p o a s (λ t s1. short c t s1 (λ s2. eval p o b s2 on) on)))
          (Step (eval p o a s (λ t s1. Step (eval p o b s1 (λ u s2. Step (other (connected c t u) s2)))))) (Step (eval p o a s (λ t s1. short c t s1 (λ s2. eval p o b s2 other) other)))
          (λ w. eval_kept a k.0 s (λ t s1. Step (eval p o b s1 (λ u s2. Step (on (connected c t u) s2)))) (λ t s1. Step (eval p o b s1 (λ u s2. Step (other (connected c t u) s2)))) w (λ t s1 e1 w1.
          eval_kept b k.1 s1 (λ u s2. Step (on (connected c t u) s2)) (λ u s2. Step (other (connected c t u) s2)) w1 (λ u s2 e2 w2. h (connected c t u) s2 (e2 ∙ e1) w2)))
          (λ w. eval_kept a k.0 s (λ t s1. short c t s1 (λ s2. eval p o b s2 on) on) (λ t s1. short c t s1 (λ s2. eval p o b s2 other) other) w (λ t s1 e1 w1.
          short_kept c t s1 (λ s2. eval p o b s2 on) (λ s2. eval p o b s2 other) on other (λ s2 e2 w2. eval_kept b k.1 s2 on other w2 (λ u s3 e3. h u s3 (e3 ∙ e2 ∙ e1))) (λ u s2 e2. h u s2 (e2 ∙ e1)) w1)) w
      eval_kept (Choose at c a b) k s on other w h =
          cond_kept (is_total a && is_total b) (Step (eval p o c s (λ t s1. Step (eval p o a s1 (λ u s2. Step (eval p o b s2 (λ v s3. Step (on (ite t u v) s3)))))))) (Step (eval p o c s (λ t s1. fork t s1 (λ s2. eval p o a s2 on) (λ s2. eval p o b s2 on))))
          (Step (eval p o c s (λ t s1. Step (eval p o a s1 (λ u s2. Step (eval p o b s2 (λ v s3. Step (other (ite t u v) s3)))))))) (Step (eval p o c s (λ t s1. fork t s1 (λ s2. eval p o a s2 other) (λ s2. eval p o b s2 other))))
          (λ w. eval_kept c k.0 s (λ t s1. Step (eval p o a s1 (λ u s2. Step (eval p o b s2 (λ v s3. Step (on (ite t u v) s3)))))) (λ t s1. Step (eval p o a s1 (λ u s2. Step (eval p o b s2 (λ v s3. Step (other (ite t u v) s3)))))) w (λ t s1 e1 w1.
          eval_kept a k.1 s1 (λ u s2. Step (eval p o b s2 (λ v s3. Step (on (ite t u v) s3)))) (λ u s2. Step (eval p o b s2 (λ v s3. Step (other (ite t u v) s3)))) w1 (λ u s2 e2 w2.
          eval_kept b k.2 s2 (λ v s3. Step (on (ite t u v) s3)) (λ v s3. Step (other (ite t u v) s3)) w2 (λ v s3 e3 w3. h (ite t u v) s3 (e3 ∙ e2 ∙ e1) w3))))
          (λ w. eval_kept c k.0 s (λ t s1. fork t s1 (λ s2. eval p o a s2 on) (λ s2. eval p o b s2 on)) (λ t s1. fork t s1 (λ s2. eval p o a s2 other) (λ s2. eval p o b s2 other)) w (λ t s1 e1 w1.
          fork_kept t s1 (λ s2. eval p o a s2 on) (λ s2. eval p o b s2 on) (λ s2. eval p o a s2 other) (λ s2. eval p o b s2 other)
          (λ s2 e2 w2. eval_kept a k.1 s2 on other w2 (λ u s3 e3. h u s3 (e3 ∙ e2 ∙ e1))) (λ s2 e2 w2. eval_kept b k.2 s2 on other w2 (λ u s3 e3. h u s3 (e3 ∙ e2 ∙ e1))) w1)) w
      eval_kept (Read at e f) k s on other w h =
          eval_kept e k s (λ r s1. read_field f r (field_sort p f) (placed s1 at) s1 on) (λ r s1. read_field f r (field_sort p f) (placed s1 at) s1 other) w (λ r s1 e1 w1. read_kept f r (field_sort p f) (placed s1 at) s1 on other (λ u s2 e2. h u s2 (e2 ∙ e1)) w1)
      eval_kept (Old at e) k s on other w h = absurd k
      eval_kept (Apply at f es) k s on other w h = absurd k
      eval_kept (Unfolding at i es share e) k s on other w h =
          eval_kept share k.1 s (λ a s1. ask (less zero_amount a) (placed s1 at) AmountCode s1 (opened on a)) (λ a s1. ask (less zero_amount a) (placed s1 at) AmountCode s1 (opened other a)) w (λ a s1 e1 w1.
          ask_kept (less zero_amount a) (placed s1 at) AmountCode s1 (opened on a) (opened other a) (λ s2 e2 w2.
          evals_kept es k.0 s2 (exchanged on a) (exchanged other a) w2 (λ ts s3 e3 w3.
          unfolded_kept (placed s3 at) i ts a s3 (last on) (last other) (λ s4 e4 w4.
          eval_kept e k.2 s4 (λ t s5. Step (on t (with_heap s.heap s5))) (λ t s5. Step (other t (with_heap s.heap s5))) w4 (λ t s5 e5 w5. h t (with_heap s.heap s5) (e5 ∙ e4 ∙ e3 ∙ e2 ∙ e1) w5)) w3)) w1)
        where
          last : Giving → Going
          last on s4 = eval p o e s4 (λ t s5. Step (on t (with_heap s.heap s5)))

          exchanged : Giving → Term → GivingAll
          exchanged on a ts s3 = unfolded p o (placed s3 at) i ts a s3 (last on)

          opened : Giving → Term → Going
          opened on a s2 = evals p o es s2 (exchanged on a)

      pub evals_kept : (es : Exprs) → ArePlain es → (s : State) (on other : GivingAll) → Cleared (evals p o es s on) → ReplacesAll s on other → Cleared (evals p o es s other)
      evals_kept NoMore k s on other w h = h [] s refl w
      evals_kept (More e es) k s on other w h =
          eval_kept e k.0 s (λ t s1. evals p o es s1 (λ ts s2. Step (on (t ∷ ts) s2))) (λ t s1. evals p o es s1 (λ ts s2. Step (other (t ∷ ts) s2))) w (λ t s1 e1 w1.
          evals_kept es k.1 s1 (λ ts s2. Step (on (t ∷ ts) s2)) (λ ts s2. Step (other (t ∷ ts) s2)) w1 (λ ts s2 e2 w2. h (t ∷ ts) s2 (e2 ∙ e1) w2))

    pub produce_kept : (a : Assertion) → IsPlainBody p Rigid a → (q : Term) (snapshot : Option Term) (s : State) (on other : Going) → Replaces s on other → Cleared (produce p o a q snapshot s on) → Cleared (produce p o a q snapshot s other)
    produce_kept (Pure e) k q snapshot s on other h w =
        eval_kept e k s (λ t s1. Step (on (with_unit snapshot (with_fact t s1)))) (λ t s1. Step (other (with_unit snapshot (with_fact t s1)))) w (λ t s1 e1 w1.
        h (with_unit snapshot (with_fact t s1)) (unit_marks snapshot (with_fact t s1) ∙ fact_marks t s1 ∙ e1) w1)
    produce_kept (Points at e f share) k q snapshot s on other h w =
        eval_kept e k.0 s (located on) (located other) w (λ r s1 e1 w1.
        eval_kept share k.1.plain s1 (asked on r) (asked other r) w1 (λ a s2 e2 w2.
        ask_kept (less_equal zero_amount (multiply q a)) (placed s2 at) AmountCode s2 (last on r a) (last other r a) (λ s3 e3 w3.
        let new = record (field_key f r) { amount = multiply q a; value = produced_value (field_sort p f) snapshot s3; inner = s.inner } in
        h (put new (after_value (field_sort p f) snapshot s3)) (put_marks new (after_value (field_sort p f) snapshot s3) ∙ value_marks (field_sort p f) snapshot s3 ∙ e3 ∙ e2 ∙ e1) w3) w2))
      where
        last : Going → Term → Term → Going
        last on r a s3 = Step (on (put (record (field_key f r) { amount = multiply q a; value = produced_value (field_sort p f) snapshot s3; inner = s.inner }) (after_value (field_sort p f) snapshot s3)))

        asked : Going → Term → Giving
        asked on r a s2 = ask (less_equal zero_amount (multiply q a)) (placed s2 at) AmountCode s2 (last on r a)

        located : Going → Giving
        located on r s1 = eval p o share s1 (asked on r)
    produce_kept (syntax.Instance at i es share) k q snapshot s on other h w =
        evals_kept es k.0 s (located on) (located other) w (λ ts s1 e1 w1.
        eval_kept share k.1.plain s1 (asked on ts) (asked other ts) w1 (λ a s2 e2 w2.
        ask_kept (less_equal zero_amount (multiply q a)) (placed s2 at) AmountCode s2 (last on ts a) (last other ts a) (λ s3 e3 w3.
        let new = record (instance_key i ts) { amount = multiply q a; value = produced_snapshot snapshot s3; inner = s.inner } in
        h (put new (after_snapshot snapshot s3)) (put_marks new (after_snapshot snapshot s3) ∙ snapshot_marks snapshot s3 ∙ e3 ∙ e2 ∙ e1) w3) w2))
      where
        last : Going → List Term → Term → Going
        last on ts a s3 = Step (on (put (record (instance_key i ts) { amount = multiply q a; value = produced_snapshot snapshot s3; inner = s.inner }) (after_snapshot snapshot s3)))

        asked : Going → List Term → Giving
        asked on ts a s2 = ask (less_equal zero_amount (multiply q a)) (placed s2 at) AmountCode s2 (last on ts a)

        located : Going → GivingAll
        located on ts s1 = eval p o share s1 (asked on ts)
    produce_kept (Both a b) k q snapshot s on other h w =
        produce_kept a k.0 q (left_part snapshot) (with_split snapshot s) (λ s1. produce p o b q (right_part snapshot) s1 on) (λ s1. produce p o b q (right_part snapshot) s1 other)
        (λ s1 e1 w1. produce_kept b k.1 q (right_part snapshot) s1 on other (λ s2 e2. h s2 (e2 ∙ e1 ∙ split_marks snapshot s)) w1) w
    produce_kept (Implied c a) k q snapshot s on other h w =
        eval_kept c k.0 s (λ t s1. fork t s1 (λ s2. produce p o a q snapshot s2 on) (λ s2. on (with_unit snapshot s2))) (λ t s1. fork t s1 (λ s2. produce p o a q snapshot s2 other) (λ s2. other (with_unit snapshot s2))) w (λ t s1 e1 w1.
        fork_kept t s1 (λ s2. produce p o a q snapshot s2 on) (λ s2. on (with_unit snapshot s2)) (λ s2. produce p o a q snapshot s2 other) (λ s2. other (with_unit snapshot s2))
        (λ s2 e2 w2. produce_kept a k.1 q snapshot s2 on other (λ s3 e3. h s3 (e3 ∙ e2 ∙ e1)) w2) (λ s2 e2 w2. h (with_unit snapshot s2) (unit_marks snapshot s2 ∙ e2 ∙ e1) w2) w1)
    produce_kept (Chosen c a b) k q snapshot s on other h w =
        eval_kept c k.0 s (λ t s1. fork t s1 (λ s2. produce p o a q snapshot s2 on) (λ s2. produce p o b q snapshot s2 on)) (λ t s1. fork t s1 (λ s2. produce p o a q snapshot s2 other) (λ s2. produce p o b q snapshot s2 other)) w (λ t s1 e1 w1.
        fork_kept t s1 (λ s2. produce p o a q snapshot s2 on) (λ s2. produce p o b q snapshot s2 on) (λ s2. produce p o a q snapshot s2 other) (λ s2. produce p o b q snapshot s2 other)
        (λ s2 e2 w2. produce_kept a k.1 q snapshot s2 on other (λ s3 e3. h s3 (e3 ∙ e2 ∙ e1)) w2) (λ s2 e2 w2. produce_kept b k.2 q snapshot s2 on other (λ s3 e3. h s3 (e3 ∙ e2 ∙ e1)) w2) w1)

    -- where the condition's left side is produced
    pub left_kept : (c : Expr) → IsPlain c → (s : State) (on side other to : Going) → Replaces s on other → Replaces s side to → Cleared (eval p o c s (λ t s1. fork t s1 on side)) → Cleared (eval p o c s (λ t s1. fork t s1 other to))
    left_kept c k s on side other to f g w =
        eval_kept c k s (λ t s1. fork t s1 on side) (λ t s1. fork t s1 other to) w (λ t s1 e1 w1. fork_kept t s1 on side other to (λ s2 e2. f s2 (e2 ∙ e1)) (λ s2 e2. g s2 (e2 ∙ e1)) w1)

  -- at every depth
  pub bodies_keep : (m : ℕ) → BodiesKeep (outer p m)
  bodies_keep zero a k q snapshot s on other h w = w
  bodies_keep (suc m) a k q snapshot s on other h w = produce_kept (outer p m) (bodies_keep m) a k q snapshot s on other h w

-- what follows only where marks are put as in s, else nothing is cleared
pub blocked : Tree
blocked = never nowhere AssertCode blank

abbrev pub as_marked : State → Going → Going
as_marked s on t = cond (same_bool t.inner s.inner) (on t) blocked

pub marked_on : (s : State) (on : Going) → Replaces s on (as_marked s on)
marked_on s on t e w = subst (λ b. Cleared (cond b (on t) blocked)) (sym (same_as t.inner s.inner e)) w
  where
    same_as : (a b : Bool) → a ≡ b → same_bool a b ≡ true
    same_as true true e = refl
    same_as false false e = refl
    same_as true false e = cc
    same_as false true e = cc

pub marked_back : (s : State) (on : Going) (t : State) → Cleared (as_marked s on t) → (t.inner ≡ s.inner) × Cleared (on t)
unfolding blocked
marked_back s on t w = go (same_bool t.inner s.inner) refl w
  where
    go : (b : Bool) → same_bool t.inner s.inner ≡ b → Cleared (cond b (on t) blocked) → (t.inner ≡ s.inner) × Cleared (on t)
    go true e w = (bool_is t.inner s.inner e, w)
    go false e w = absurd (w.0 start (refl, tt))
