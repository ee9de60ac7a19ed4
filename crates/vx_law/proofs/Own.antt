-- A quiet evaluation asks for no measure, so it is the same whichever function's body is walked: from a state with another `own` it leaves
-- the same sides, with that other `own`. What an application tells is then the same too.
use Rattle.std.proofs.Common.{◌≡◌, ◌∙◌, ◌+◌, refl, sym, ap, ap₂, pos, ℕ, zero, suc, Bool, true, false, not, cond, ◌&&◌, ◌||◌, List, [], ◌∷◌, ◌++◌, Option, Some, None, arith}
use Rattle.std.proofs.lemmas.Bool.{lt-ltb}
use Rattle.std.specs.Prelude.{nat_lt, map}
use Rattle.vx_ast.specs.declared.Place.{Place}
use Rattle.vx_ast.specs.Syntax.{Name, result_name, conjoined, Program, Function, Predicate, function_named, predicate_named, place_of, joined, Connective, And, Or, Implies, Expr, Number, Truth, Null, Part, Variable, Not, Operate, Divide, Connect, Choose, Read, Old, Apply, Unfolding, Exprs, NoMore, More, Assertion, Pure, Points, Instance, Both, Implied, Chosen}
use Rattle.vx_terms.specs.Sorts as sort
use Rattle.vx_terms.specs.Sorts.{Sort, SnapSort}
use Rattle.vx_terms.specs.Terms as term
use Rattle.vx_terms.specs.Terms.{Term, same, sort_of, is_name}
use Rattle.vx_terms.specs.Build.{true_term, false_term, negate, equals, less, less_equal, ite, multiply, unit, pair, first, second, wrap, unwrap, written_unwrap, application, zero_amount, whole_amount}
use Rattle.vx_rules.specs.States as rules
use Rattle.vx_rules.specs.States.{State, Own, Heap, Store, Chunk, is_quiet, with_heap, with_entry, with_fact, with_facts, with_branch, is_known, name_of, after_name}
use Rattle.vx_rules.specs.Trees.{Code, AssertCode, AmountCode, DivisorCode, PermissionCode, UnfoldCode, FunctionCode, Tree, End, Impossible, On, Step, Ask, Probe, Fork, Left, leaves}
use Rattle.vx_rules.specs.Chunks.{Candidate, candidates, chosen, holds_some, holds_amount, put_over, put_facts, put, reduced, instance_key, field_key}
use Rattle.vx_rules.specs.Groups.{is_in_group, function_number}
use Rattle.vx_rules.specs.Rules.{placed, terms, operated, divided, connected, Giving, Going, GivingAll, Context, Outer, outer, nowhere, ask, never, probe, fork, short, is_total, first_with, take_fresh, take_chunk, read_field, field_sort, entered, back, with_built_wrap, with_built_pair, pair_facts, produced_value, after_value, produced_snapshot, after_snapshot, with_split, with_unit, decreasing, measured, applied, gathered, quietly, sides_of, with_body, with_promise, with_equations, unfolded, leads_inside, eval, evals, produce, consume}
use Rattle.vx_live.proofs.Quiet.{Quiet, still_quiet, fact_still, name_still, put_still, value_still, split_still, unit_still, built_wrap_still, built_pair_still, equations_still, outer_left}

map_append : {A B : Type 0} (f : A → B) (xs ys : List A) → map f (xs ++ ys) ≡ map f xs ++ map f ys
map_append f [] ys = refl
map_append f (x ∷ xs) ys = ap (λ zs. f x ∷ zs) (map_append f xs ys)

module _ (own : Option Own) where
  -- the state with this own
  abbrev pub there : State → State
  there s = record s { own = own }

  -- a tree whose sides end with this own
  abbrev pub moved : Tree → Tree
  moved End = End
  moved (Impossible s) = Impossible (record s { own = own })
  moved (On t s) = On t (record s { own = own })
  moved (Step t) = Step (moved t)
  moved (Ask q t) = Ask q (moved t)
  moved (Probe q a b) = Probe q (moved a) (moved b)
  moved (Fork a b) = Fork (moved a) (moved b)

  abbrev left_there : Left → Left
  left_there l = record { value = l.value; state = there l.state }

  leaves_there : (t : Tree) → leaves (moved t) ≡ map left_there (leaves t)
  leaves_there End = refl
  leaves_there (Impossible s) = refl
  leaves_there (On t s) = refl
  leaves_there (Step t) = leaves_there t
  leaves_there (Ask q t) = leaves_there t
  leaves_there (Probe q a b) = ap₂ (λ (xs ys : List Left). xs ++ ys) (leaves_there a) (leaves_there b) ∙ sym (map_append left_there (leaves a) (leaves b))
  leaves_there (Fork a b) = ap₂ (λ (xs ys : List Left). xs ++ ys) (leaves_there a) (leaves_there b) ∙ sym (map_append left_there (leaves a) (leaves b))

  -- What adds entries and changes heaps

  pub fact_there : (t : Term) (s : State) → with_fact t (there s) ≡ there (with_fact t s)
  fact_there t s = go (is_known t s)
    where
      go : (b : Bool) → cond b (there s) (there (with_entry record { term = t; branch = false } s)) ≡ there (cond b s (with_entry record { term = t; branch = false } s))
      go true = refl
      go false = refl

  pub facts_there : (ts : List Term) (s : State) → with_facts ts (there s) ≡ there (with_facts ts s)
  facts_there [] s = refl
  facts_there (t ∷ ts) s = ap (with_facts ts) (fact_there t s) ∙ facts_there ts (with_fact t s)

  name_there : (t : Term) (s : State) → after_name t (there s) ≡ there (after_name t s)
  name_there t s = go (is_name t || is_quiet s)
    where
      go : (b : Bool) → cond b (there s) (with_fact (equals (rules.fresh (sort_of t) s) t) (there (rules.after_fresh s))) ≡ there (cond b s (with_fact (equals (rules.fresh (sort_of t) s) t) (rules.after_fresh s)))
      go true = refl
      go false = fact_there (equals (rules.fresh (sort_of t) s) t) (rules.after_fresh s)

  put_there : (c : Chunk) (s : State) → put c (there s) ≡ there (put c s)
  put_there c s = go (same c.amount zero_amount) (put_facts (not (is_quiet s)) s.bounded c s.heap) (with_heap (put_over (chosen true c 0 s.heap) c s.heap) s)
    where
      go : (b : Bool) (facts : List Term) (held : State) → cond b (there s) (with_facts facts (there held)) ≡ there (cond b s (with_facts facts held))
      go true facts held = refl
      go false facts held = facts_there facts held

  value_there : (a : Sort) (t : Term) (s : State) → after_value a (Some t) (there s) ≡ there (after_value a (Some t) s)
  value_there a t s = ap (with_fact (equals t (wrap a (name_of (unwrap a t) s)))) (name_there (unwrap a t) s) ∙ fact_there (equals t (wrap a (name_of (unwrap a t) s))) (after_name (unwrap a t) s)

  built_wrap_there : (x : Context) (a : Sort) (v : Term) (s : State) → with_built_wrap x a v (there s) ≡ there (with_built_wrap x a v s)
  built_wrap_there x a v s = go x.builds (term.Binary sort.Equal (written_unwrap a (wrap a v)) v)
    where
      go : (b : Bool) (t : Term) → cond b (with_fact t (there s)) (there s) ≡ there (cond b (with_fact t s) s)
      go true t = fact_there t s
      go false t = refl

  built_pair_there : (x : Context) (t u : Term) (s : State) → with_built_pair x t u (there s) ≡ there (with_built_pair x t u s)
  built_pair_there x t u s = go x.builds
    where
      go : (b : Bool) → cond b (with_facts (pair_facts t u) (there s)) (there s) ≡ there (cond b (with_facts (pair_facts t u) s) s)
      go true = facts_there (pair_facts t u) s
      go false = refl

  -- What follows a state leads there too

  abbrev pub SameGoing : Going → Going → Type 0
  SameGoing on other = (s : State) → Quiet s → moved (on s) ≡ other (there s)

  abbrev pub SameGiving : Giving → Giving → Type 0
  SameGiving on other = (t : Term) (s : State) → Quiet s → moved (on t s) ≡ other t (there s)

  abbrev pub SameGivingAll : GivingAll → GivingAll → Type 0
  SameGivingAll on other = (ts : List Term) (s : State) → Quiet s → moved (on ts s) ≡ other ts (there s)

  either_there : (b : Bool) (x y x' y' : Tree) → moved x ≡ x' → moved y ≡ y' → moved (cond b x y) ≡ cond b x' y'
  either_there true x y x' y' e f = e
  either_there false x y x' y' e f = f

  -- by what a quiet state decides
  or_there : (a b : Bool) → b ≡ true → (x y x' y' : Tree) → moved x ≡ x' → moved (cond (a || b) x y) ≡ cond (a || b) x' y'
  or_there true b e x y x' y' h = h
  or_there false true e x y x' y' h = h
  or_there false false e x y x' y' h = cc

  end_there : (b : Bool) → b ≡ true → (y y' : Tree) → moved (cond b End y) ≡ cond b End y'
  end_there true e y y' = refl
  end_there false e y y' = cc

  -- above level 0 no sum is asked for
  unsummed_there : (a b : Bool) → b ≡ true → (x y x' y' : Tree) → moved y ≡ y' → moved (cond (a && not b) x y) ≡ cond (a && not b) x' y'
  unsummed_there true true e x y x' y' h = h
  unsummed_there false true e x y x' y' h = h
  unsummed_there a false e x y x' y' h = cc

  quiet_there : (b : Bool) → b ≡ true → (x y x' y' : Tree) → moved x ≡ x' → moved (cond b x y) ≡ cond b x' y'
  quiet_there true e x y x' y' h = h
  quiet_there false e x y x' y' h = cc

  ask_there : (c : Term) (at : Place) (code : Code) (s : State) (on other : Going) → Quiet s → SameGoing on other → moved (ask c at code s on) ≡ ask c at code (there s) other
  ask_there c at code s on other q h = or_there (same c true_term) (is_quiet s) q (Step (on s)) _ (Step (other (there s))) _ (ap Step (h s q))

  never_there : (at : Place) (code : Code) (s : State) → Quiet s → moved (never at code s) ≡ never at code (there s)
  never_there at code s q = end_there (is_quiet s) q _ _

  probe_there : (c : Term) (at : Place) (code : Code) (s : State) (t u t' u' : Tree) → Quiet s → moved t ≡ t' → moved u ≡ u' → moved (probe c at code s t u) ≡ probe c at code (there s) t' u'
  probe_there c at code s t u t' u' q e f = go (same c true_term) (is_quiet s) q (Step t) (Step u) _ (Step t') (Step u') _ (ap Step e) (ap Step f)
    where
      go : (a b : Bool) → b ≡ true → (x y z x' y' z' : Tree) → moved x ≡ x' → moved y ≡ y' → moved (cond a x (cond b y z)) ≡ cond a x' (cond b y' z')
      go true b k x y z x' y' z' e f = e
      go false true k x y z x' y' z' e f = f
      go false false k x y z x' y' z' e f = cc

  fork_there : (c : Term) (s : State) (left right left' right' : Going) → Quiet s → SameGoing left left' → SameGoing right right' → moved (fork c s left right) ≡ fork c (there s) left' right'
  fork_there c s left right left' right' q h k =
      go (is_known c s) (is_known (negate c) s) (Step (left s)) (Step (right s)) (Fork (left (with_branch c s)) (right (with_branch (negate c) s)))
      (Step (left' (there s))) (Step (right' (there s))) (Fork (left' (there (with_branch c s))) (right' (there (with_branch (negate c) s))))
      (ap Step (h s q)) (ap Step (k s q)) (ap₂ Fork (h (with_branch c s) q) (k (with_branch (negate c) s) q))
    where
      go : (a b : Bool) (x y z x' y' z' : Tree) → moved x ≡ x' → moved y ≡ y' → moved z ≡ z' → moved (cond a x (cond b y z)) ≡ cond a x' (cond b y' z')
      go true b x y z x' y' z' e f g = e
      go false true x y z x' y' z' e f g = f
      go false false x y z x' y' z' e f g = g

  short_there : (c : Connective) (t : Term) (s : State) (more more' : Going) (on other : Giving) → Quiet s → SameGoing more more' → SameGiving on other → moved (short c t s more on) ≡ short c t (there s) more' other
  short_there And t s more more' on other q h k = fork_there t s more (on false_term) more' (other false_term) q h (k false_term)
  short_there Or t s more more' on other q h k = fork_there t s (on true_term) more (other true_term) more' q (k true_term) h
  short_there Implies t s more more' on other q h k = fork_there t s more (on true_term) more' (other true_term) q h (k true_term)

  first_there : (wanted : Chunk → Term) (cs : List Candidate) (at : Place) (code : Code) (s : State) (on other : Candidate → Tree) (t u : Tree) → Quiet s → ((c : Candidate) → moved (on c) ≡ other c) → moved t ≡ u →
      moved (first_with wanted cs at code s on t) ≡ first_with wanted cs at code (there s) other u
  first_there wanted [] at code s on other t u q h e = e
  first_there wanted (c ∷ cs) at code s on other t u q h e =
      probe_there (wanted c.chunk) at code s (on c) (first_with wanted cs at code s on t) (other c) (first_with wanted cs at code (there s) other u) q (h c) (first_there wanted cs at code s on other t u q h e)

  taken_there : (key : Chunk) (a : Term) (sort : Sort) (at : Place) (code : Code) (s : State) (on other : Chunk → State → Tree) → Quiet s → ((c : Chunk) → SameGoing (on c) (other c)) →
      moved (take_chunk key a sort at code s on) ≡ take_chunk key a sort at code (there s) other
  taken_there key a sort at code s on other q h =
      unsummed_there key.is_field (is_quiet s) q _ _ _ _
      (first_there (holds_amount a key.arguments) (candidates key s.heap) at code s (λ c. on c.chunk (with_heap (reduced c a s.heap) s)) (λ c. other c.chunk (there (with_heap (reduced c a s.heap) s)))
      (take_fresh key a sort at code s on) (take_fresh key a sort at code (there s) other) q (λ c. h c.chunk (with_heap (reduced c a s.heap) s) q) (end_there (is_quiet s) q _ _))

  read_there : (f : Name) (r : Term) (sort : Sort) (at : Place) (s : State) (on other : Giving) → Quiet s → SameGiving on other → moved (read_field f r sort at s on) ≡ read_field f r sort at (there s) other
  read_there f r sort at s on other q h =
      quiet_there (is_quiet s) q _ _ _ _
      (first_there (holds_some (r ∷ [])) (candidates (field_key f r) s.heap) at PermissionCode s (λ c. on c.chunk.value s) (λ c. other c.chunk.value (there s)) (never at PermissionCode s) (never at PermissionCode (there s)) q
      (λ c. h c.chunk.value s q) (never_there at PermissionCode s q))

  -- The rules for the parts of others do so.
  module _ (p : Program) where
    pub record Opens (o : Outer) : Type 0 where
      pub eval : (e : Expr) (s : State) → Quiet s → (on other : Giving) → SameGiving on other → moved (o.eval e s on) ≡ o.eval e (there s) other
      pub evals : (es : Exprs) (s : State) → Quiet s → (on other : GivingAll) → SameGivingAll on other → moved (o.evals es s on) ≡ o.evals es (there s) other
      pub produce : (a : Assertion) (scale t : Term) (s : State) → Quiet s → (on other : Going) → SameGoing on other → moved (o.produce a scale (Some t) s on) ≡ o.produce a scale (Some t) (there s) other
      pub consume : (a : Assertion) (x : Context) (scale : Term) (heap : Heap) (s : State) → Quiet s → (on other : Giving) → SameGiving on other → moved (o.consume a x scale heap s on) ≡ o.consume a x scale heap (there s) other
      pub equations : (g : Function) (ts : List Term) (snapshot t : Term) (s : State) → Quiet s → Quiet (with_equations p o g ts snapshot t s)

    module _ (o : Outer) (opens : Opens o) where
      -- What an application tells

      gathered_there : (start : State) (said : Term → Term) (ls : List Left) → gathered (there start) said (map left_there ls) ≡ gathered start said ls
      gathered_there start said [] = refl
      gathered_there start said (l ∷ ls) = ap (λ (ts : List Term). gathered start said (l ∷ []) ++ ts) (gathered_there start said ls)

      sides_there : (g : Function) (e : Expr) (snapshot : Term) (start : State) → Quiet start → sides_of p o g e snapshot (there start) ≡ map left_there (sides_of p o g e snapshot start)
      sides_there g e snapshot start q =
          let t = o.produce (joined g.place g.requires) whole_amount (Some snapshot) start (λ s1. o.eval e s1 On) in
          sym (ap leaves (opens.produce (joined g.place g.requires) whole_amount snapshot start q (λ s1. o.eval e s1 On) (λ s1. o.eval e s1 On) (λ s1 q1. opens.eval e s1 q1 On On (λ u s2 q2. refl)))) ∙ leaves_there t

      above : (l : ℕ) → nat_lt 0 (l + 1) ≡ true
      above l = lt-ltb 0 (l + 1) (omega arith)

      body_there : (g : Function) (ts : List Term) (snapshot t : Term) (s : State) → with_body p o g ts snapshot t (there s) ≡ there (with_body p o g ts snapshot t s)
      body_there g ts snapshot t s =
          let start = quietly p o (rules.bind g.parameters ts) s in
          ap (λ (ls : List Left). with_facts (gathered (there start) (λ w. equals t w) ls) (there s)) (sides_there g g.body snapshot start (above s.level))
          ∙ ap (λ (us : List Term). with_facts us (there s)) (gathered_there start (λ w. equals t w) (sides_of p o g g.body snapshot start))
          ∙ facts_there (gathered start (λ w. equals t w) (sides_of p o g g.body snapshot start)) s

      promise_there : (g : Function) (ts : List Term) (snapshot t : Term) (s : State) → with_promise p o g ts snapshot t (there s) ≡ there (with_promise p o g ts snapshot t s)
      promise_there g ts snapshot t s =
          let start = quietly p o (rules.bind g.parameters ts ++ (result_name, t) ∷ []) s in
          ap (λ (ls : List Left). with_facts (gathered (there start) (λ w. w) ls) (there s)) (sides_there g (conjoined g.place g.ensures) snapshot start (above s.level))
          ∙ ap (λ (us : List Term). with_facts us (there s)) (gathered_there start (λ w. w) (sides_of p o g (conjoined g.place g.ensures) snapshot start))
          ∙ facts_there (gathered start (λ w. w) (sides_of p o g (conjoined g.place g.ensures) snapshot start)) s

      pub equations_there : (g : Function) (ts : List Term) (snapshot t : Term) (s : State) → with_equations p o g ts snapshot t (there s) ≡ there (with_equations p o g ts snapshot t s)
      equations_there g ts snapshot t s = go (nat_lt s.level 3)
        where
          go : (b : Bool) → cond b (with_promise p o g ts snapshot t (with_body p o g ts snapshot t (there s))) (there s) ≡ there (cond b (with_promise p o g ts snapshot t (with_body p o g ts snapshot t s)) s)
          go true = ap (with_promise p o g ts snapshot t) (body_there g ts snapshot t s) ∙ promise_there g ts snapshot t (with_body p o g ts snapshot t s)
          go false = refl

      measured_there : (f : Name) (g : Function) (x : Store) (at : Place) (s : State) (on other : Going) → Quiet s → SameGoing on other → moved (measured p o f g x at s on) ≡ measured p o f g x at (there s) other
      measured_there f g x at s on other q h = ap moved (unmeasured s on q s.own) ∙ ap Step (h s q) ∙ sym (unmeasured (there s) other q own)
        where
          by_own : State → Going → Option Own → Tree
          by_own s on None = Step (on s)
          by_own s on (Some own) = cond (is_quiet s) (Step (on s)) (cond (is_in_group p own.function f) (decreasing p o own g.decreases x at s on) (Step (on s)))

          quietly_so : (b : Bool) → b ≡ true → (x y : Tree) → cond b x y ≡ x
          quietly_so true e x y = refl
          quietly_so false e x y = cc

          unmeasured : (s : State) (on : Going) → Quiet s → (w : Option Own) → by_own s on w ≡ Step (on s)
          unmeasured s on q None = refl
          unmeasured s on q (Some own) = quietly_so (is_quiet s) q (Step (on s)) _

      applied_there : (at : Place) (f : Name) (ts : List Term) (s : State) (on other : Giving) → Quiet s → SameGiving on other → moved (applied p o at f ts s on) ≡ applied p o at f ts (there s) other
      applied_there at f ts s on other q h = go (function_named p f)
        where
          told : Giving → Function → Term → Going
          told on g named s3 =
              let t = application (function_number p f) (rules.sort_of_type g.of) named (terms ts) in
              Step (on t (with_equations p o g ts named t s3))

          taken : Giving → State → Function → Giving
          taken on s g snapshot s1 =
              let s2 = with_heap s.heap (back s s1) in
              measured p o f g (rules.bind g.parameters ts) at (after_name snapshot s2) (told on g (name_of snapshot s2))

          of_function : Giving → State → Option Function → Tree
          of_function on s None = never at FunctionCode s
          of_function on s (Some g) = Step (o.consume (joined g.place g.requires) (record { pure = FunctionCode; permission = FunctionCode; builds = true }) whole_amount s.heap (entered (rules.bind g.parameters ts) at s) (taken on s g))

          told_there : (g : Function) (named : Term) (s3 : State) → Quiet s3 → moved (told on g named s3) ≡ told other g named (there s3)
          told_there g named s3 q3 =
              let t = application (function_number p f) (rules.sort_of_type g.of) named (terms ts) in
              ap Step (h t (with_equations p o g ts named t s3) (opens.equations g ts named t s3 q3) ∙ ap (other t) (sym (equations_there g ts named t s3)))

          taken_so : (g : Function) (snapshot : Term) (s1 : State) → Quiet s1 → moved (taken on s g snapshot s1) ≡ taken other (there s) g snapshot (there s1)
          taken_so g snapshot s1 q1 =
              let s2 = with_heap s.heap (back s s1) in
              let named = name_of snapshot s2 in
              measured_there f g (rules.bind g.parameters ts) at (after_name snapshot s2) (told on g named) (told other g named) (still_quiet (name_still snapshot s2 q1) q1) (told_there g named)
              ∙ ap (λ (u : State). measured p o f g (rules.bind g.parameters ts) at u (told other g named)) (sym (name_there snapshot s2))

          go : (d : Option Function) → moved (of_function on s d) ≡ of_function other (there s) d
          go None = never_there at FunctionCode s q
          go (Some g) = ap Step (opens.consume (joined g.place g.requires) (record { pure = FunctionCode; permission = FunctionCode; builds = true }) whole_amount s.heap (entered (rules.bind g.parameters ts) at s) q (taken on s g) (taken other (there s) g) (taken_so g))

      unfolded_there : (at : Place) (i : Name) (ts : List Term) (a : Term) (s : State) (on other : Going) → Quiet s → SameGoing on other → moved (unfolded p o at i ts a s on) ≡ unfolded p o at i ts a (there s) other
      unfolded_there at i ts a s on other q h =
          taken_there (instance_key i ts) a SnapSort at UnfoldCode s (λ c s1. of_predicate on c s1 (predicate_named p i)) (λ c s1. of_predicate other c s1 (predicate_named p i)) q (λ c s1 q1. by_predicate c s1 q1 (predicate_named p i))
        where
          of_body : Going → Chunk → State → Predicate → Option Assertion → Tree
          of_body on c s1 d None = never at UnfoldCode s1
          of_body on c s1 d (Some body) = o.produce body a (Some c.value) (record (entered (rules.bind d.parameters ts) at s1) { inner = leads_inside c }) (λ s2. on (back s s2))

          of_predicate : Going → Chunk → State → Option Predicate → Tree
          of_predicate on c s1 None = never at UnfoldCode s1
          of_predicate on c s1 (Some d) = of_body on c s1 d d.body

          by_body : (c : Chunk) (s1 : State) → Quiet s1 → (d : Predicate) (b : Option Assertion) → moved (of_body on c s1 d b) ≡ of_body other c (there s1) d b
          by_body c s1 q1 d None = never_there at UnfoldCode s1 q1
          by_body c s1 q1 d (Some body) =
              opens.produce body a c.value (record (entered (rules.bind d.parameters ts) at s1) { inner = leads_inside c }) q1 (λ s2. on (back s s2)) (λ s2. other (back s s2)) (λ s2 q2. h (back s s2) q2)

          by_predicate : (c : Chunk) (s1 : State) → Quiet s1 → (d : Option Predicate) → moved (of_predicate on c s1 d) ≡ of_predicate other c (there s1) d
          by_predicate c s1 q1 None = never_there at UnfoldCode s1 q1
          by_predicate c s1 q1 (Some d) = by_body c s1 q1 d d.body

      mutual
        eval_there : (e : Expr) (s : State) → Quiet s → (on other : Giving) → SameGiving on other → moved (eval p o e s on) ≡ eval p o e (there s) other
        eval_there (Number at n) s q on other h = ap Step (h _ s q)
        eval_there (Truth at b) s q on other h = ap Step (h _ s q)
        eval_there (Null at) s q on other h = ap Step (h _ s q)
        eval_there (Part at n d) s q on other h = ap Step (h _ s q)
        eval_there (Variable at x) s q on other h = ap Step (h _ s q)
        eval_there (Not at e) s q on other h = ap Step (eval_there e s q _ _ (λ t s1 q1. ap Step (h (negate t) s1 q1)))
        eval_there (Operate at op a b) s q on other h =
            ap Step (eval_there a s q _ _ (λ t s1 q1. ap Step (eval_there b s1 q1 _ _ (λ u s2 q2. ap Step (h (operated op t u) s2 q2)))))
        eval_there (Divide at op a b) s q on other h =
            ap Step (eval_there a s q _ _ (λ t s1 q1. ap Step (eval_there b s1 q1 _ _ (λ u s2 q2.
            ask_there (negate (equals u (term.Number (pos 0)))) (placed s2 at) DivisorCode s2 (on (divided op t u)) (other (divided op t u)) q2 (h (divided op t u))))))
        eval_there (Connect at c a b) s q on other h = either_there (is_total b) _ _ _ _
            (ap Step (eval_there a s q _ _ (λ t s1 q1. ap Step (eval_there b s1 q1 _ _ (λ u s2 q2. ap Step (h (connected c t u) s2 q2))))))
            (ap Step (eval_there a s q _ _ (λ t s1 q1. short_there c t s1 (λ s2. eval p o b s2 on) (λ s2. eval p o b s2 other) on other q1 (λ s2 q2. eval_there b s2 q2 on other h) h)))
        eval_there (Choose at c a b) s q on other h = either_there (is_total a && is_total b) _ _ _ _
            (ap Step (eval_there c s q _ _ (λ t s1 q1. ap Step (eval_there a s1 q1 _ _ (λ u s2 q2. ap Step (eval_there b s2 q2 _ _ (λ w s3 q3. ap Step (h (ite t u w) s3 q3))))))))
            (ap Step (eval_there c s q _ _ (λ t s1 q1. fork_there t s1 (λ s2. eval p o a s2 on) (λ s2. eval p o b s2 on) (λ s2. eval p o a s2 other) (λ s2. eval p o b s2 other) q1 (λ s2 q2. eval_there a s2 q2 on other h) (λ s2 q2. eval_there b s2 q2 on other h))))
        eval_there (Read at e f) s q on other h =
            ap Step (eval_there e s q _ _ (λ r s1 q1. read_there f r (field_sort p f) (placed s1 at) s1 on other q1 h))
        eval_there (Old at e) s q on other h = ap Step (eval_there e (with_heap s.old s) q _ _ (λ t s1 q1. ap Step (h t (with_heap s.heap s1) q1)))
        eval_there (Apply at f es) s q on other h = ap Step (evals_there es s q _ _ (λ ts s1 q1. applied_there (placed s1 at) f ts s1 on other q1 h))
        eval_there (Unfolding at i es share e) s q on other h =
            let inside = λ (on : Giving) (s4 : State). eval p o e s4 (λ t s5. Step (on t (with_heap s.heap s5))) in
            let exchanged = λ (on : Giving) (a : Term) (ts : List Term) (s3 : State). unfolded p o (placed s3 at) i ts a s3 (inside on) in
            ap Step (eval_there share s q _ _ (λ a s1 q1.
            ask_there (less zero_amount a) (placed s1 at) AmountCode s1 (λ s2. evals p o es s2 (exchanged on a)) (λ s2. evals p o es s2 (exchanged other a)) q1 (λ s2 q2.
            evals_there es s2 q2 (exchanged on a) (exchanged other a) (λ ts s3 q3.
            unfolded_there (placed s3 at) i ts a s3 (inside on) (inside other) q3 (λ s4 q4.
            eval_there e s4 q4 (λ t s5. Step (on t (with_heap s.heap s5))) (λ t s5. Step (other t (with_heap s.heap s5))) (λ t s5 q5. ap Step (h t (with_heap s.heap s5) q5)))))))

        evals_there : (es : Exprs) (s : State) → Quiet s → (on other : GivingAll) → SameGivingAll on other → moved (evals p o es s on) ≡ evals p o es (there s) other
        evals_there NoMore s q on other h = ap Step (h [] s q)
        evals_there (More e es) s q on other h = ap Step (eval_there e s q _ _ (λ t s1 q1. evals_there es s1 q1 _ _ (λ ts s2 q2. ap Step (h (t ∷ ts) s2 q2))))

      -- an amount, by a scale
      amount_there : (at : Place) (share : Expr) (s : State) (scale : Term) (on other : Term → Going) → Quiet s → ((a : Term) → SameGoing (on a) (other a)) →
          moved (eval p o share s (λ a s1. ask (less_equal zero_amount (multiply scale a)) (placed s1 at) AmountCode s1 (on (multiply scale a))))
          ≡ eval p o share (there s) (λ a s1. ask (less_equal zero_amount (multiply scale a)) (placed s1 at) AmountCode s1 (other (multiply scale a)))
      amount_there at share s scale on other q h =
          eval_there share s q _ _ (λ a s1 q1. ask_there (less_equal zero_amount (multiply scale a)) (placed s1 at) AmountCode s1 (on (multiply scale a)) (other (multiply scale a)) q1 (h (multiply scale a)))

      produce_there : (a : Assertion) (scale t : Term) (s : State) → Quiet s → (on other : Going) → SameGoing on other → moved (produce p o a scale (Some t) s on) ≡ produce p o a scale (Some t) (there s) other
      produce_there (Pure e) scale t s q on other h =
          ap Step (eval_there e s q _ _ (λ u s1 q1.
          ap Step (h (with_unit (Some t) (with_fact u s1)) (still_quiet (unit_still t (with_fact u s1)) (still_quiet (fact_still u s1) q1))
          ∙ ap other (sym (ap (with_fact (equals t unit)) (fact_there u s1) ∙ fact_there (equals t unit) (with_fact u s1))))))
      produce_there (Points at e f share) scale t s q on other h =
          let new = λ (r a : Term) (s3 : State). record (field_key f r) { amount = a; value = produced_value (field_sort p f) (Some t) s3; inner = s.inner } in
          let put_on = λ (on : Going) (r a : Term) (s3 : State). Step (on (put (new r a s3) (after_value (field_sort p f) (Some t) s3))) in
          ap Step (eval_there e s q _ _ (λ r s1 q1.
          amount_there at share s1 scale (put_on on r) (put_on other r) q1 (λ a s3 q3.
          let s4 = after_value (field_sort p f) (Some t) s3 in
          ap Step (h (put (new r a s3) s4) (still_quiet (put_still (new r a s3) s4) (still_quiet (value_still (field_sort p f) t s3 q3) q3))
          ∙ ap other (sym (ap (put (new r a s3)) (value_there (field_sort p f) t s3) ∙ put_there (new r a s3) s4))))))
      produce_there (Instance at i es share) scale t s q on other h =
          let new = λ (ts : List Term) (a : Term) (s3 : State). record (instance_key i ts) { amount = a; value = produced_snapshot (Some t) s3; inner = s.inner } in
          let put_on = λ (on : Going) (ts : List Term) (a : Term) (s3 : State). Step (on (put (new ts a s3) (after_snapshot (Some t) s3))) in
          ap Step (evals_there es s q _ _ (λ ts s1 q1.
          amount_there at share s1 scale (put_on on ts) (put_on other ts) q1 (λ a s3 q3.
          let s4 = after_snapshot (Some t) s3 in
          ap Step (h (put (new ts a s3) s4) (still_quiet (put_still (new ts a s3) s4) (still_quiet (name_still t s3 q3) q3))
          ∙ ap other (sym (ap (put (new ts a s3)) (name_there t s3) ∙ put_there (new ts a s3) s4))))))
      produce_there (Both a b) scale t s q on other h =
          ap Step (produce_there a scale (first t) (with_split (Some t) s) (still_quiet (split_still t s) q) (λ s1. produce p o b scale (Some (second t)) s1 on) (λ s1. produce p o b scale (Some (second t)) s1 other)
          (λ s1 q1. produce_there b scale (second t) s1 q1 on other h)
          ∙ ap (λ (u : State). produce p o a scale (Some (first t)) u (λ s1. produce p o b scale (Some (second t)) s1 other)) (sym (fact_there (equals t (pair (first t) (second t))) s)))
      produce_there (Implied c a) scale t s q on other h =
          ap Step (eval_there c s q _ _ (λ u s1 q1.
          fork_there u s1 (λ s2. produce p o a scale (Some t) s2 on) (λ s2. on (with_unit (Some t) s2)) (λ s2. produce p o a scale (Some t) s2 other) (λ s2. other (with_unit (Some t) s2)) q1
          (λ s2 q2. produce_there a scale t s2 q2 on other h)
          (λ s2 q2. h (with_unit (Some t) s2) (still_quiet (unit_still t s2) q2) ∙ ap other (sym (fact_there (equals t unit) s2)))))
      produce_there (Chosen c a b) scale t s q on other h =
          ap Step (eval_there c s q _ _ (λ u s1 q1.
          fork_there u s1 (λ s2. produce p o a scale (Some t) s2 on) (λ s2. produce p o b scale (Some t) s2 on) (λ s2. produce p o a scale (Some t) s2 other) (λ s2. produce p o b scale (Some t) s2 other) q1
          (λ s2 q2. produce_there a scale t s2 q2 on other h) (λ s2 q2. produce_there b scale t s2 q2 on other h)))

      consume_there : (a : Assertion) (x : Context) (scale : Term) (heap : Heap) (s : State) → Quiet s → (on other : Giving) → SameGiving on other → moved (consume p o a x scale heap s on) ≡ consume p o a x scale heap (there s) other
      consume_there (Pure e) x scale heap s q on other h =
          ap Step (eval_there e (with_heap heap s) q _ _ (λ t s1 q1.
          ask_there t (placed s1 (place_of e)) x.pure s1 (λ s2. Step (on unit (with_heap s.heap s2))) (λ s2. Step (other unit (with_heap s.heap s2))) q1 (λ s2 q2. ap Step (h unit (with_heap s.heap s2) q2))))
      consume_there (Points at e f share) x scale heap s q on other h =
          let done = λ (on : Giving) (c : Chunk) (s4 : State). Step (on (wrap (field_sort p f) c.value) (with_built_wrap x (field_sort p f) c.value s4)) in
          let take_on = λ (on : Giving) (r a : Term) (s3 : State). take_chunk (field_key f r) a (field_sort p f) (placed s3 at) x.permission (with_heap s.heap s3) (done on) in
          ap Step (eval_there e (with_heap heap s) q _ _ (λ r s1 q1.
          amount_there at share s1 scale (take_on on r) (take_on other r) q1 (λ a s3 q3.
          taken_there (field_key f r) a (field_sort p f) (placed s3 at) x.permission (with_heap s.heap s3) (done on) (done other) q3 (λ c s4 q4.
          ap Step (h (wrap (field_sort p f) c.value) (with_built_wrap x (field_sort p f) c.value s4) (still_quiet (built_wrap_still x (field_sort p f) c.value s4) q4)
          ∙ ap (other (wrap (field_sort p f) c.value)) (sym (built_wrap_there x (field_sort p f) c.value s4)))))))
      consume_there (Instance at i es share) x scale heap s q on other h =
          let done = λ (on : Giving) (c : Chunk) (s4 : State). Step (on c.value s4) in
          let take_on = λ (on : Giving) (ts : List Term) (a : Term) (s3 : State). take_chunk (instance_key i ts) a SnapSort (placed s3 at) x.permission (with_heap s.heap s3) (done on) in
          ap Step (evals_there es (with_heap heap s) q _ _ (λ ts s1 q1.
          amount_there at share s1 scale (take_on on ts) (take_on other ts) q1 (λ a s3 q3.
          taken_there (instance_key i ts) a SnapSort (placed s3 at) x.permission (with_heap s.heap s3) (done on) (done other) q3 (λ c s4 q4. ap Step (h c.value s4 q4)))))
      consume_there (Both a b) x scale heap s q on other h =
          ap Step (consume_there a x scale heap s q _ _ (λ t s1 q1.
          consume_there b x scale heap s1 q1 _ _ (λ u s2 q2.
          ap Step (h (pair t u) (with_built_pair x t u s2) (still_quiet (built_pair_still x t u s2) q2) ∙ ap (other (pair t u)) (sym (built_pair_there x t u s2))))))
      consume_there (Implied c a) x scale heap s q on other h =
          ap Step (eval_there c (with_heap heap s) q _ _ (λ t s1 q1.
          fork_there t (with_heap s.heap s1) (λ s2. consume p o a x scale heap s2 on) (on unit) (λ s2. consume p o a x scale heap s2 other) (other unit) q1 (λ s2 q2. consume_there a x scale heap s2 q2 on other h) (h unit)))
      consume_there (Chosen c a b) x scale heap s q on other h =
          ap Step (eval_there c (with_heap heap s) q _ _ (λ t s1 q1.
          fork_there t (with_heap s.heap s1) (λ s2. consume p o a x scale heap s2 on) (λ s2. consume p o b x scale heap s2 on) (λ s2. consume p o a x scale heap s2 other) (λ s2. consume p o b x scale heap s2 other) q1
          (λ s2 q2. consume_there a x scale heap s2 q2 on other h) (λ s2 q2. consume_there b x scale heap s2 q2 on other h)))

    -- at every depth; past it nothing is allowed
    opens_at : (n : ℕ) → Opens (outer p n)
    opens_at zero = record {
      eval = λ e s q on other h. never_there nowhere AssertCode s q;
      evals = λ es s q on other h. never_there nowhere AssertCode s q;
      produce = λ a scale t s q on other h. never_there nowhere AssertCode s q;
      consume = λ a x scale heap s q on other h. never_there nowhere AssertCode s q;
      equations = λ g ts snapshot t s q. still_quiet (equations_still (λ u y. Unit {0}) p (outer p zero) (outer_left (λ u y. Unit {0}) p zero) g ts snapshot t s) q;
    }
    opens_at (suc n) =
        let below = opens_at n in
        record {
          eval = eval_there (outer p n) below;
          evals = evals_there (outer p n) below;
          produce = produce_there (outer p n) below;
          consume = consume_there (outer p n) below;
          equations = λ g ts snapshot t s q. still_quiet (equations_still (λ u y. Unit {0}) p (outer p (suc n)) (outer_left (λ u y. Unit {0}) p (suc n)) g ts snapshot t s) q;
        }

    -- What an application tells is the same whichever function's body is walked.
    pub told_there : (n : ℕ) (g : Function) (ts : List Term) (snapshot t : Term) (s : State) → with_equations p (outer p n) g ts snapshot t (there s) ≡ there (with_equations p (outer p n) g ts snapshot t s)
    told_there n g ts snapshot t s = equations_there (outer p n) (opens_at n) g ts snapshot t s
