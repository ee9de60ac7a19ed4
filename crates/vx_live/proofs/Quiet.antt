-- A quiet evaluation makes no symbol: the sides that it leaves have the next number and the level that it began with, and only
-- further entries of the path.
use Rattle.std.proofs.Common.{◌≡◌, ◌∙◌, refl, sym, ap, subst, pos, ℕ, zero, suc, Bool, true, false, not, cond, ◌&&◌, ◌||◌, List, [], ◌∷◌, ◌++◌, append_assoc, Option, Some, None}
use Rattle.std.specs.Prelude.{nat_lt}
use Rattle.vx_ast.specs.declared.Place.{Place}
use Rattle.vx_ast.specs.Syntax.{Name, result_name, conjoined, Program, Function, Predicate, function_named, predicate_named, place_of, joined, Connective, And, Or, Implies, Expr, Number, Truth, Null, Part, Variable, Not, Operate, Divide, Connect, Choose, Read, Old, Apply, Unfolding, Exprs, NoMore, More, Assertion, Pure, Points, Instance, Both, Implied, Chosen}
use Rattle.vx_terms.specs.Sorts as sort
use Rattle.vx_terms.specs.Sorts.{Sort, SnapSort}
use Rattle.vx_terms.specs.Terms as term
use Rattle.vx_terms.specs.Terms.{Term, same, sort_of, is_name}
use Rattle.vx_terms.specs.Build.{true_term, false_term, negate, equals, less, less_equal, ite, multiply, unit, pair, first, second, wrap, unwrap, written_unwrap, application, zero_amount, whole_amount}
use Rattle.vx_terms.specs.Interpretations.{Each}
use Rattle.vx_rules.specs.States as rules
use Rattle.vx_rules.specs.States.{State, Entry, Heap, Store, Chunk, is_quiet, with_heap, with_entry, with_fact, with_facts, with_branch, is_known, name_of, after_name}
use Rattle.vx_rules.specs.Trees.{Code, AssertCode, AmountCode, DivisorCode, PermissionCode, UnfoldCode, FunctionCode, Tree, End, Impossible, On, Step, Ask, Probe, Fork, Left, leaves}
use Rattle.vx_rules.specs.Chunks.{Candidate, candidates, chosen, holds_some, holds_amount, put, put_over, put_facts, reduced, instance_key, field_key}
use Rattle.vx_rules.specs.Groups.{is_in_group, function_number}
use Rattle.vx_rules.specs.Rules.{placed, terms, operated, divided, connected, Giving, Going, GivingAll, Context, Outer, outer, nowhere, ask, never, probe, fork, short, is_total, first_with, take_fresh, take_chunk, read_field, field_sort, entered, back, with_built_wrap, with_built_pair, pair_facts, produced_value, after_value, produced_snapshot, after_snapshot, with_split, with_unit, decreasing, measured, applied, gathered, quietly, sides_of, with_body, with_promise, with_equations, unfolded, leads_inside, eval, evals, produce, consume}
use Rattle.vx_elements.proofs.Lists.{each_append}
use Rattle.vx_live.specs.Quiet.{Still, QuietLaw}

abbrev pub Quiet : State → Type 0
Quiet s = is_quiet s ≡ true

append_nil : {A : Type 0} (xs : List A) → xs ≡ xs ++ []
append_nil [] = refl
append_nil (x ∷ xs) = ap (λ ys. x ∷ ys) (append_nil xs)

pub stays : {s : State} → Still s s
stays {s = s} = record { next = refl; level = refl; path = ([], append_nil s.path) }

pub after : {s t u : State} → Still s t → Still t u → Still s u
after {s = s} a b = record {
  next = b.next ∙ a.next;
  level = b.level ∙ a.level;
  path = (a.path.0 ++ b.path.0, b.path.1 ∙ ap (λ es. es ++ b.path.0) a.path.1 ∙ append_assoc s.path a.path.0 b.path.0);
}

pub still_quiet : {s t : State} → Still s t → Quiet s → Quiet t
still_quiet a q = subst (λ l. nat_lt 0 l ≡ true) (sym a.level) q

-- What changes nothing but heaps, the store and marks, and what adds entries

pub entry_still : (e : Entry) (s : State) → Still s (with_entry e s)
entry_still e s = record { next = refl; level = refl; path = (e ∷ [], refl) }

pub fact_still : (t : Term) (s : State) → Still s (with_fact t s)
fact_still t s = go (is_known t s)
  where
    go : (b : Bool) → Still s (cond b s (with_entry record { term = t; branch = false } s))
    go true = stays
    go false = entry_still record { term = t; branch = false } s

pub facts_still : (ts : List Term) (s : State) → Still s (with_facts ts s)
facts_still [] s = stays
facts_still (t ∷ ts) s = after (fact_still t s) (facts_still ts (with_fact t s))

-- above level 0 a name is the term itself
pub name_still : (t : Term) (s : State) → Quiet s → Still s (after_name t s)
name_still t s q = go (is_name t) (is_quiet s) q
  where
    go : (a b : Bool) → b ≡ true → Still s (cond (a || b) s (with_fact (equals (rules.fresh (sort_of t) s) t) (rules.after_fresh s)))
    go true b e = stays
    go false true e = stays
    go false false e = cc

pub put_still : (c : Chunk) (s : State) → Still s (put c s)
put_still c s = go (same c.amount zero_amount)
  where
    facts : List Term
    facts = put_facts (not (is_quiet s)) s.bounded c s.heap

    held : State
    held = with_heap (put_over (chosen true c 0 s.heap) c s.heap) s

    go : (b : Bool) → Still s (cond b s (with_facts facts held))
    go true = stays
    go false = let a = facts_still facts held in record { next = a.next; level = a.level; path = a.path }

pub value_still : (a : Sort) (t : Term) (s : State) → Quiet s → Still s (after_value a (Some t) s)
value_still a t s q = after (name_still (unwrap a t) s q) (fact_still _ (after_name (unwrap a t) s))

pub split_still : (t : Term) (s : State) → Still s (with_split (Some t) s)
split_still t s = fact_still _ s

pub unit_still : (t : Term) (s : State) → Still s (with_unit (Some t) s)
unit_still t s = fact_still _ s

pub built_wrap_still : (x : Context) (a : Sort) (v : Term) (s : State) → Still s (with_built_wrap x a v s)
built_wrap_still x a v s = go x.builds (term.Binary sort.Equal (written_unwrap a (wrap a v)) v)
  where
    go : (b : Bool) (t : Term) → Still s (cond b (with_fact t s) s)
    go true t = fact_still t s
    go false t = stays

pub built_pair_still : (x : Context) (t u : Term) (s : State) → Still s (with_built_pair x t u s)
built_pair_still x t u s = go x.builds
  where
    go : (b : Bool) → Still s (cond b (with_facts (pair_facts t u) s) s)
    go true = facts_still (pair_facts t u) s
    go false = stays

-- Trees

-- P holds of the sides that an evaluation leaves
abbrev pub LeftBy : (Term → State → Type 0) → Tree → Type 0
LeftBy P End = Unit {0}
LeftBy P (Impossible s) = Unit {0}
LeftBy P (On t s) = P t s
LeftBy P (Step t) = LeftBy P t
LeftBy P (Ask q t) = LeftBy P t
LeftBy P (Probe q a b) = LeftBy P a × LeftBy P b
LeftBy P (Fork a b) = LeftBy P a × LeftBy P b

pub each_left : (P : Term → State → Type 0) (t : Tree) → LeftBy P t → Each (λ (l : Left). P l.value l.state) (leaves t)
each_left P End h = tt
each_left P (Impossible s) h = tt
each_left P (On t s) h = (h, tt)
each_left P (Step t) h = each_left P t h
each_left P (Ask q t) h = each_left P t h
each_left P (Probe q a b) h = each_append (λ (l : Left). P l.value l.state) (leaves a) (leaves b) (each_left P a h.0) (each_left P b h.1)
each_left P (Fork a b) h = each_append (λ (l : Left). P l.value l.state) (leaves a) (leaves b) (each_left P a h.0) (each_left P b h.1)

module _ (P : Term → State → Type 0) where
  -- what follows a state, and a value with it
  abbrev pub Follows : State → Going → Type 0
  Follows s on = (t : State) → Still s t → LeftBy P (on t)

  abbrev pub FollowsWith : State → Giving → Type 0
  FollowsWith s on = (v : Term) (t : State) → Still s t → LeftBy P (on v t)

  abbrev pub FollowsAll : State → GivingAll → Type 0
  FollowsAll s on = (vs : List Term) (t : State) → Still s t → LeftBy P (on vs t)

  -- by what a quiet state decides
  quiet_case : (a b : Bool) → b ≡ true → (x y : Tree) → LeftBy P x → LeftBy P (cond (a || b) x y)
  quiet_case true b e x y h = h
  quiet_case false true e x y h = h
  quiet_case false false e x y h = cc

  quiet_otherwise : (a b : Bool) → b ≡ true → (x y : Tree) → LeftBy P y → LeftBy P (cond (a && not b) x y)
  quiet_otherwise true true e x y h = h
  quiet_otherwise true false e x y h = cc
  quiet_otherwise false b e x y h = h

  quiet_end : (b : Bool) → b ≡ true → (x : Tree) → LeftBy P (cond b End x)
  quiet_end true e x = tt
  quiet_end false e x = cc

  quiet_probe : (a b : Bool) → b ≡ true → (x y z : Tree) → LeftBy P x → LeftBy P y → LeftBy P (cond a x (cond b y z))
  quiet_probe true b e x y z h k = h
  quiet_probe false true e x y z h k = k
  quiet_probe false false e x y z h k = cc

  pub either_left : (b : Bool) (x y : Tree) → LeftBy P x → LeftBy P y → LeftBy P (cond b x y)
  either_left true x y h k = h
  either_left false x y h k = k

  pub ask_left : (s : State) (c : Term) (at : Place) (code : Code) (on : Going) → Quiet s → Follows s on → LeftBy P (ask c at code s on)
  ask_left s c at code on q h = quiet_case (same c true_term) (is_quiet s) q (Step (on s)) _ (h s stays)

  pub never_left : (s : State) (at : Place) (code : Code) → Quiet s → LeftBy P (never at code s)
  never_left s at code q = quiet_end (is_quiet s) q _

  probe_left : (s : State) (c : Term) (at : Place) (code : Code) (refuted otherwise : Tree) → Quiet s → LeftBy P refuted → LeftBy P otherwise → LeftBy P (probe c at code s refuted otherwise)
  probe_left s c at code refuted otherwise q h k = quiet_probe (same c true_term) (is_quiet s) q (Step refuted) (Step otherwise) _ h k

  pub fork_left : (s : State) (c : Term) (left right : Going) → Follows s left → Follows s right → LeftBy P (fork c s left right)
  fork_left s c left right h k = go (is_known c s) (is_known (negate c) s)
    where
      go : (a b : Bool) → LeftBy P (cond a (Step (left s)) (cond b (Step (right s)) (Fork (left (with_branch c s)) (right (with_branch (negate c) s)))))
      go true b = h s stays
      go false true = k s stays
      go false false = (h (with_branch c s) (entry_still _ s), k (with_branch (negate c) s) (entry_still _ s))

  pub short_left : (s : State) (c : Connective) (t : Term) (more : Going) (on : Giving) → Follows s more → FollowsWith s on → LeftBy P (short c t s more on)
  short_left s And t more on h k = fork_left s t more (on false_term) h (λ u st. k false_term u st)
  short_left s Or t more on h k = fork_left s t (on true_term) more (λ u st. k true_term u st) h
  short_left s Implies t more on h k = fork_left s t more (on true_term) h (λ u st. k true_term u st)

  pub first_left : (s : State) (wanted : Chunk → Term) (cs : List Candidate) (at : Place) (code : Code) (on : Candidate → Tree) (otherwise : Tree) → Quiet s → ((c : Candidate) → LeftBy P (on c)) → LeftBy P otherwise →
      LeftBy P (first_with wanted cs at code s on otherwise)
  first_left s wanted [] at code on otherwise q h k = k
  first_left s wanted (c ∷ cs) at code on otherwise q h k =
      probe_left s (wanted c.chunk) at code (on c) (first_with wanted cs at code s on otherwise) q (h c) (first_left s wanted cs at code on otherwise q h k)

  pub take_left : (s : State) (key : Chunk) (a : Term) (sort : Sort) (at : Place) (code : Code) (on : Chunk → Going) → Quiet s → ((c : Chunk) → Follows s (on c)) → LeftBy P (take_chunk key a sort at code s on)
  take_left s key a sort at code on q h =
      quiet_otherwise key.is_field (is_quiet s) q _ _
      (first_left s (holds_amount a key.arguments) (candidates key s.heap) at code (λ c. on c.chunk (with_heap (reduced c a s.heap) s)) (take_fresh key a sort at code s on) q
      (λ c. h c.chunk (with_heap (reduced c a s.heap) s) (record { next = refl; level = refl; path = ([], append_nil s.path) })) (quiet_end (is_quiet s) q _))

  pub read_left : (s : State) (f : Name) (r : Term) (sort : Sort) (at : Place) (on : Giving) → Quiet s → FollowsWith s on → LeftBy P (read_field f r sort at s on)
  read_left s f r sort at on q h =
      quiet_case false (is_quiet s) q _ _
      (first_left s (holds_some (r ∷ [])) (candidates (field_key f r) s.heap) at PermissionCode (λ c. on c.chunk.value s) (never at PermissionCode s) q (λ c. h c.chunk.value s stays) (never_left s at PermissionCode q))

  -- what is shown of rules for the parts of others
  pub record OuterLeft (o : Outer) : Type 0 where
    pub eval : (e : Expr) (s : State) (on : Giving) → Quiet s → FollowsWith s on → LeftBy P (o.eval e s on)
    pub evals : (es : Exprs) (s : State) (on : GivingAll) → Quiet s → FollowsAll s on → LeftBy P (o.evals es s on)
    pub produce : (a : Assertion) (scale t : Term) (s : State) (on : Going) → Quiet s → Follows s on → LeftBy P (o.produce a scale (Some t) s on)
    pub consume : (a : Assertion) (x : Context) (scale : Term) (heap : Heap) (s : State) (on : Giving) → Quiet s → FollowsWith s on → LeftBy P (o.consume a x scale heap s on)

  module _ (p : Program) (o : Outer) (left : OuterLeft o) where
    pub unfolded_left : (s : State) (at : Place) (i : Name) (ts : List Term) (a : Term) (on : Going) → Quiet s → Follows s on → LeftBy P (unfolded p o at i ts a s on)
    unfolded_left s at i ts a on q h =
        take_left s (instance_key i ts) a SnapSort at UnfoldCode (λ c s1. of_predicate c s1 (predicate_named p i)) q (λ c s1 st. by_predicate c s1 st (predicate_named p i))
      where
        of_body : Chunk → State → Predicate → Option Assertion → Tree
        of_body c s1 d None = never at UnfoldCode s1
        of_body c s1 d (Some body) = o.produce body a (Some c.value) (record (entered (rules.bind d.parameters ts) at s1) { inner = leads_inside c }) (λ s2. on (back s s2))

        of_predicate : Chunk → State → Option Predicate → Tree
        of_predicate c s1 None = never at UnfoldCode s1
        of_predicate c s1 (Some d) = of_body c s1 d d.body

        by_body : (c : Chunk) (s1 : State) → Still s s1 → (d : Predicate) (b : Option Assertion) → LeftBy P (of_body c s1 d b)
        by_body c s1 st d None = never_left s1 at UnfoldCode (still_quiet st q)
        by_body c s1 st d (Some body) =
            left.produce body a c.value (record (entered (rules.bind d.parameters ts) at s1) { inner = leads_inside c }) (λ s2. on (back s s2)) (still_quiet st q) (λ s2 st2.
            let more : Still s1 s2 = record { next = st2.next; level = st2.level; path = st2.path } in
            let past = after st more in
            h (back s s2) (record { next = past.next; level = past.level; path = past.path }))

        by_predicate : (c : Chunk) (s1 : State) → Still s s1 → (d : Option Predicate) → LeftBy P (of_predicate c s1 d)
        by_predicate c s1 st None = never_left s1 at UnfoldCode (still_quiet st q)
        by_predicate c s1 st (Some d) = by_body c s1 st d d.body

    -- above level 0 no measure is asked
    pub measured_left : (s : State) (f : Name) (g : Function) (x : Store) (at : Place) (on : Going) → Quiet s → Follows s on → LeftBy P (measured p o f g x at s on)
    measured_left s f g x at on q h = go s.own
      where
        by_own : Option rules.Own → Tree
        by_own None = Step (on s)
        by_own (Some own) = cond (is_quiet s) (Step (on s)) (cond (is_in_group p own.function f) (decreasing p o own g.decreases x at s on) (Step (on s)))

        go : (own : Option rules.Own) → LeftBy P (by_own own)
        go None = h s stays
        go (Some own) = quiet_case false (is_quiet s) q (Step (on s)) _ (h s stays)

    pub body_still : (g : Function) (ts : List Term) (snapshot t : Term) (s : State) → Still s (with_body p o g ts snapshot t s)
    body_still g ts snapshot t s =
        let start = quietly p o (rules.bind g.parameters ts) s in
        facts_still (gathered start (λ w. equals t w) (sides_of p o g g.body snapshot start)) s

    pub promise_still : (g : Function) (ts : List Term) (snapshot t : Term) (s : State) → Still s (with_promise p o g ts snapshot t s)
    promise_still g ts snapshot t s =
        let start = quietly p o (rules.bind g.parameters ts ++ (result_name, t) ∷ []) s in
        facts_still (gathered start (λ w. w) (sides_of p o g (conjoined g.place g.ensures) snapshot start)) s

    pub equations_still : (g : Function) (ts : List Term) (snapshot t : Term) (s : State) → Still s (with_equations p o g ts snapshot t s)
    equations_still g ts snapshot t s = go (nat_lt s.level 3)
      where
        go : (b : Bool) → Still s (cond b (with_promise p o g ts snapshot t (with_body p o g ts snapshot t s)) s)
        go true = after (body_still g ts snapshot t s) (promise_still g ts snapshot t (with_body p o g ts snapshot t s))
        go false = stays

    pub applied_left : (s : State) (at : Place) (f : Name) (ts : List Term) (on : Giving) → Quiet s → FollowsWith s on → LeftBy P (applied p o at f ts s on)
    applied_left s at f ts on q h = go (function_named p f)
      where
        context : Context
        context = record { pure = FunctionCode; permission = FunctionCode; builds = true }

        -- after the measure, and after the precondition
        told : Function → Term → Going
        told g named s3 =
            let t = application (function_number p f) (rules.sort_of_type g.of) named (terms ts) in
            Step (on t (with_equations p o g ts named t s3))

        taken : Function → Giving
        taken g snapshot s1 =
            let s2 = with_heap s.heap (back s s1) in
            measured p o f g (rules.bind g.parameters ts) at (after_name snapshot s2) (told g (name_of snapshot s2))

        taken_left : (g : Function) (snapshot : Term) (s1 : State) → Still s s1 → LeftBy P (taken g snapshot s1)
        taken_left g snapshot s1 st =
            let s2 = with_heap s.heap (back s s1) in
            let named = name_of snapshot s2 in
            let before : Still s s2 = record { next = st.next; level = st.level; path = st.path } in
            let n = after before (name_still snapshot s2 (still_quiet before q)) in
            measured_left (after_name snapshot s2) f g (rules.bind g.parameters ts) at (told g named) (still_quiet n q) (λ s3 st3.
            let t = application (function_number p f) (rules.sort_of_type g.of) named (terms ts) in
            h t (with_equations p o g ts named t s3) (after n (after st3 (equations_still g ts named t s3))))

        of_function : Option Function → Tree
        of_function None = never at FunctionCode s
        of_function (Some g) = Step (o.consume (joined g.place g.requires) context whole_amount s.heap (entered (rules.bind g.parameters ts) at s) (taken g))

        go : (d : Option Function) → LeftBy P (of_function d)
        go None = never_left s at FunctionCode q
        go (Some g) =
            left.consume (joined g.place g.requires) context whole_amount s.heap (entered (rules.bind g.parameters ts) at s) (taken g) q (λ snapshot s1 st.
            taken_left g snapshot s1 (record { next = st.next; level = st.level; path = st.path }))

    mutual
      pub eval_left : (e : Expr) (s : State) (on : Giving) → Quiet s → FollowsWith s on → LeftBy P (eval p o e s on)
      eval_left (Number at n) s on q h = h _ s stays
      eval_left (Truth at b) s on q h = h _ s stays
      eval_left (Null at) s on q h = h _ s stays
      eval_left (Part at n d) s on q h = h _ s stays
      eval_left (Variable at x) s on q h = h _ s stays
      eval_left (Not at e) s on q h = eval_left e s _ q (λ t s1 st. h (negate t) s1 st)
      eval_left (Operate at op a b) s on q h = eval_left a s _ q (λ t s1 st. eval_left b s1 _ (still_quiet st q) (λ u s2 st2. h (operated op t u) s2 (after st st2)))
      eval_left (Divide at op a b) s on q h =
          eval_left a s _ q (λ t s1 st. eval_left b s1 _ (still_quiet st q) (λ u s2 st2.
          ask_left s2 (negate (equals u (term.Number (pos 0)))) (placed s2 at) DivisorCode (on (divided op t u)) (still_quiet (after st st2) q) (λ s3 st3. h (divided op t u) s3 (after st (after st2 st3)))))
      eval_left (Connect at c a b) s on q h = either_left (is_total b) _ _
          (eval_left a s _ q (λ t s1 st. eval_left b s1 _ (still_quiet st q) (λ u s2 st2. h (connected c t u) s2 (after st st2))))
          (eval_left a s _ q (λ t s1 st.
          short_left s1 c t (λ s2. eval p o b s2 on) on
          (λ s2 st2. eval_left b s2 on (still_quiet (after st st2) q) (λ u s3 st3. h u s3 (after st (after st2 st3))))
          (λ u s2 st2. h u s2 (after st st2))))
      eval_left (Choose at c a b) s on q h = either_left (is_total a && is_total b) _ _
          (eval_left c s _ q (λ t s1 st. eval_left a s1 _ (still_quiet st q) (λ u s2 st2. eval_left b s2 _ (still_quiet (after st st2) q) (λ v s3 st3. h (ite t u v) s3 (after st (after st2 st3))))))
          (eval_left c s _ q (λ t s1 st.
          fork_left s1 t (λ s2. eval p o a s2 on) (λ s2. eval p o b s2 on)
          (λ s2 st2. eval_left a s2 on (still_quiet (after st st2) q) (λ u s3 st3. h u s3 (after st (after st2 st3))))
          (λ s2 st2. eval_left b s2 on (still_quiet (after st st2) q) (λ u s3 st3. h u s3 (after st (after st2 st3))))))
      eval_left (Read at e f) s on q h = eval_left e s _ q (λ r s1 st. read_left s1 f r (field_sort p f) (placed s1 at) on (still_quiet st q) (λ u s2 st2. h u s2 (after st st2)))
      eval_left (Old at e) s on q h = eval_left e (with_heap s.old s) _ q (λ t s1 st. h t (with_heap s.heap s1) (record { next = st.next; level = st.level; path = st.path }))
      eval_left (Apply at f es) s on q h = evals_left es s _ q (λ ts s1 st. applied_left s1 (placed s1 at) f ts on (still_quiet st q) (λ t s2 st2. h t s2 (after st st2)))
      eval_left (Unfolding at i es share e) s on q h =
          let inside = λ (s4 : State). eval p o e s4 (λ t s5. Step (on t (with_heap s.heap s5))) in
          let exchanged = λ (a : Term) (ts : List Term) (s3 : State). unfolded p o (placed s3 at) i ts a s3 inside in
          eval_left share s _ q (λ a s1 st.
          ask_left s1 (less zero_amount a) (placed s1 at) AmountCode (λ s2. evals p o es s2 (exchanged a)) (still_quiet st q) (λ s2 st2.
          evals_left es s2 (exchanged a) (still_quiet (after st st2) q) (λ ts s3 st3.
          let past = after st (after st2 st3) in
          unfolded_left s3 (placed s3 at) i ts a inside (still_quiet past q) (λ s4 st4.
          eval_left e s4 (λ t s5. Step (on t (with_heap s.heap s5))) (still_quiet (after past st4) q) (λ t s5 st5.
          let all = after past (after st4 st5) in
          h t (with_heap s.heap s5) (record { next = all.next; level = all.level; path = all.path }))))))

      pub evals_left : (es : Exprs) (s : State) (on : GivingAll) → Quiet s → FollowsAll s on → LeftBy P (evals p o es s on)
      evals_left NoMore s on q h = h [] s stays
      evals_left (More e es) s on q h = eval_left e s _ q (λ t s1 st. evals_left es s1 _ (still_quiet st q) (λ ts s2 st2. h (t ∷ ts) s2 (after st st2)))

    -- an amount, by a scale
    pub amount_left : (at : Place) (share : Expr) (s : State) (scale : Term) (on : Term → Going) → Quiet s → ((a : Term) → Follows s (on a)) →
        LeftBy P (eval p o share s (λ a s1. ask (less_equal zero_amount (multiply scale a)) (placed s1 at) AmountCode s1 (on (multiply scale a))))
    amount_left at share s scale on q h =
        eval_left share s _ q (λ a s1 st.
        ask_left s1 (less_equal zero_amount (multiply scale a)) (placed s1 at) AmountCode (on (multiply scale a)) (still_quiet st q) (λ s2 st2. h (multiply scale a) s2 (after st st2)))

    pub produce_left : (a : Assertion) (scale t : Term) (s : State) (on : Going) → Quiet s → Follows s on → LeftBy P (produce p o a scale (Some t) s on)
    produce_left (Pure e) scale t s on q h = eval_left e s _ q (λ u s1 st. h (with_unit (Some t) (with_fact u s1)) (after st (after (fact_still u s1) (unit_still t (with_fact u s1)))))
    produce_left (Points at e f share) scale t s on q h =
        let new = λ (r a : Term) (s3 : State). record (field_key f r) { amount = a; value = produced_value (field_sort p f) (Some t) s3; inner = s.inner } in
        eval_left e s _ q (λ r s1 st.
        amount_left at share s1 scale (λ a s3. Step (on (put (new r a s3) (after_value (field_sort p f) (Some t) s3)))) (still_quiet st q) (λ a s3 st3.
        let past = after st st3 in
        h (put (new r a s3) (after_value (field_sort p f) (Some t) s3)) (after past (after (value_still (field_sort p f) t s3 (still_quiet past q)) (put_still (new r a s3) (after_value (field_sort p f) (Some t) s3))))))
    produce_left (Instance at i es share) scale t s on q h =
        let new = λ (ts : List Term) (a : Term) (s3 : State). record (instance_key i ts) { amount = a; value = produced_snapshot (Some t) s3; inner = s.inner } in
        evals_left es s _ q (λ ts s1 st.
        amount_left at share s1 scale (λ a s3. Step (on (put (new ts a s3) (after_snapshot (Some t) s3)))) (still_quiet st q) (λ a s3 st3.
        let past = after st st3 in
        h (put (new ts a s3) (after_snapshot (Some t) s3)) (after past (after (name_still t s3 (still_quiet past q)) (put_still (new ts a s3) (after_name t s3))))))
    produce_left (Both a b) scale t s on q h =
        produce_left a scale (first t) (with_split (Some t) s) _ (still_quiet (split_still t s) q) (λ s1 st.
        let past = after (split_still t s) st in
        produce_left b scale (second t) s1 on (still_quiet past q) (λ s2 st2. h s2 (after past st2)))
    produce_left (Implied c a) scale t s on q h =
        eval_left c s _ q (λ u s1 st.
        fork_left s1 u (λ s2. produce p o a scale (Some t) s2 on) (λ s2. on (with_unit (Some t) s2))
        (λ s2 st2. produce_left a scale t s2 on (still_quiet (after st st2) q) (λ s3 st3. h s3 (after st (after st2 st3))))
        (λ s2 st2. h (with_unit (Some t) s2) (after st (after st2 (unit_still t s2)))))
    produce_left (Chosen c a b) scale t s on q h =
        eval_left c s _ q (λ u s1 st.
        fork_left s1 u (λ s2. produce p o a scale (Some t) s2 on) (λ s2. produce p o b scale (Some t) s2 on)
        (λ s2 st2. produce_left a scale t s2 on (still_quiet (after st st2) q) (λ s3 st3. h s3 (after st (after st2 st3))))
        (λ s2 st2. produce_left b scale t s2 on (still_quiet (after st st2) q) (λ s3 st3. h s3 (after st (after st2 st3)))))

    -- with other chunks
    moved : {s t : State} (heap : Heap) → Still s t → Still s (with_heap heap t)
    moved heap a = record { next = a.next; level = a.level; path = a.path }

    pub consume_left : (a : Assertion) (x : Context) (scale : Term) (heap : Heap) (s : State) (on : Giving) → Quiet s → FollowsWith s on → LeftBy P (consume p o a x scale heap s on)
    consume_left (Pure e) x scale heap s on q h =
        eval_left e (with_heap heap s) _ q (λ t s1 st.
        let begun : Still s s1 = record { next = st.next; level = st.level; path = st.path } in
        ask_left s1 t (placed s1 (place_of e)) x.pure (λ s2. Step (on unit (with_heap s.heap s2))) (still_quiet begun q) (λ s2 st2. h unit (with_heap s.heap s2) (moved s.heap (after begun st2))))
    consume_left (Points at e f share) x scale heap s on q h =
        let done = λ (c : Chunk) (s4 : State). Step (on (wrap (field_sort p f) c.value) (with_built_wrap x (field_sort p f) c.value s4)) in
        eval_left e (with_heap heap s) _ q (λ r s1 st.
        let begun : Still s s1 = record { next = st.next; level = st.level; path = st.path } in
        amount_left at share s1 scale (λ a s3. take_chunk (field_key f r) a (field_sort p f) (placed s3 at) x.permission (with_heap s.heap s3) done) (still_quiet begun q) (λ a s3 st3.
        let past = moved s.heap (after begun st3) in
        take_left (with_heap s.heap s3) (field_key f r) a (field_sort p f) (placed s3 at) x.permission done (still_quiet past q) (λ c s4 st4.
        h (wrap (field_sort p f) c.value) (with_built_wrap x (field_sort p f) c.value s4) (after past (after st4 (built_wrap_still x (field_sort p f) c.value s4))))))
    consume_left (Instance at i es share) x scale heap s on q h =
        let done = λ (c : Chunk) (s4 : State). Step (on c.value s4) in
        evals_left es (with_heap heap s) _ q (λ ts s1 st.
        let begun : Still s s1 = record { next = st.next; level = st.level; path = st.path } in
        amount_left at share s1 scale (λ a s3. take_chunk (instance_key i ts) a SnapSort (placed s3 at) x.permission (with_heap s.heap s3) done) (still_quiet begun q) (λ a s3 st3.
        let past = moved s.heap (after begun st3) in
        take_left (with_heap s.heap s3) (instance_key i ts) a SnapSort (placed s3 at) x.permission done (still_quiet past q) (λ c s4 st4. h c.value s4 (after past st4))))
    consume_left (Both a b) x scale heap s on q h =
        consume_left a x scale heap s _ q (λ t s1 st. consume_left b x scale heap s1 _ (still_quiet st q) (λ u s2 st2.
        h (pair t u) (with_built_pair x t u s2) (after st (after st2 (built_pair_still x t u s2)))))
    consume_left (Implied c a) x scale heap s on q h =
        eval_left c (with_heap heap s) _ q (λ t s1 st.
        let begun : Still s (with_heap s.heap s1) = record { next = st.next; level = st.level; path = st.path } in
        fork_left (with_heap s.heap s1) t (λ s2. consume p o a x scale heap s2 on) (on unit)
        (λ s2 st2. consume_left a x scale heap s2 on (still_quiet (after begun st2) q) (λ u s3 st3. h u s3 (after begun (after st2 st3))))
        (λ s2 st2. h unit s2 (after begun st2)))
    consume_left (Chosen c a b) x scale heap s on q h =
        eval_left c (with_heap heap s) _ q (λ t s1 st.
        let begun : Still s (with_heap s.heap s1) = record { next = st.next; level = st.level; path = st.path } in
        fork_left (with_heap s.heap s1) t (λ s2. consume p o a x scale heap s2 on) (λ s2. consume p o b x scale heap s2 on)
        (λ s2 st2. consume_left a x scale heap s2 on (still_quiet (after begun st2) q) (λ u s3 st3. h u s3 (after begun (after st2 st3))))
        (λ s2 st2. consume_left b x scale heap s2 on (still_quiet (after begun st2) q) (λ u s3 st3. h u s3 (after begun (after st2 st3)))))

  -- at every depth; past it nothing is allowed
  pub outer_left : (p : Program) (n : ℕ) → OuterLeft (outer p n)
  outer_left p zero = record {
    eval = λ e s on q h. never_left s nowhere AssertCode q;
    evals = λ es s on q h. never_left s nowhere AssertCode q;
    produce = λ a scale t s on q h. never_left s nowhere AssertCode q;
    consume = λ a x scale heap s on q h. never_left s nowhere AssertCode q;
  }
  outer_left p (suc n) =
      let below = outer_left p n in
      record { eval = eval_left p (outer p n) below; evals = evals_left p (outer p n) below; produce = produce_left p (outer p n) below; consume = consume_left p (outer p n) below }

-- the sides of an expression, under an assertion that is produced with a snapshot
pub sides_still : QuietLaw
sides_still p n a e scale snapshot s q =
    let P = λ (v : Term) (u : State). Still s u in
    let quiet = outer_left P p n in
    each_left P ((outer p n).produce a scale (Some snapshot) s (λ t. (outer p n).eval e t On))
    (quiet.produce a scale snapshot s (λ t. (outer p n).eval e t On) q (λ t st. quiet.eval e t On (still_quiet st q) (λ v u st2. after st st2)))
