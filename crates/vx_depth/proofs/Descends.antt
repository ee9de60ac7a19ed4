-- From enough depth on the rules of all depths are the same: level by level from the third down, and on each level by how many members are entered from one another.
use Rattle.std.proofs.Common.{◌≡◌, ℕ, zero, suc, ◌+◌, ◌*◌, ◌<◌, nat_lt, Bool, true, false, cond, List, [], ◌∷◌, ◌++◌, Option, Some, None, refl, sym, ap, ◌∙◌, subst, true≢false, arith, is_some}
use Rattle.std.proofs.lemmas.Bool.{ltb-true}
use Rattle.vx_ast.specs.Syntax.{Name, result_name, Program, Predicate, Function, predicate_named, function_named, joined, conjoined, Expr, Exprs, Assertion, Measure, ByNumber, ByInstance}
use Rattle.vx_ast.specs.Mentions.{mentioned, mentioned_in}
use Rattle.vx_terms.specs.Interpretations.{Each}
use Rattle.vx_terms.specs.Terms.{Term}
use Rattle.vx_terms.specs.Build.{equals, whole_amount}
use Rattle.vx_rules.specs.States.{State, bind, with_facts}
use Rattle.vx_rules.specs.Trees.{Left, On, leaves}
use Rattle.vx_rules.specs.Rules.{Outer, outer, gathered, quietly, sides_of, with_body, with_promise, with_equations}
use Rattle.vx_depth.specs.Entering.{entered_by_function, entered_by_predicate, IsWithin}
use Rattle.vx_ast.specs.Apart.{entered_by, entered_by_measure, entered_by_body}
use Rattle.vx_depth.specs.Depths.{EvalSame, EvalsSame, ProduceSame, ConsumeSame}
use Rattle.vx_depth.proofs.Levels.{facts_level}
use Rattle.vx_depth.proofs.Same.{each_left, each_right, Opens, eval_same, evals_same, produce_same, consume_same}

pub each_of_all : {A : Type 0} {P : A → Type 0} → ((x : A) → P x) → (xs : List A) → Each P xs
each_of_all h [] = tt
each_of_all h (x ∷ xs) = (h x, each_of_all h xs)

-- what enters no more than r members, one from another, is read alike on a level
pub record Agree (p : Program) (r l : ℕ) (o o' : Outer) : Type 0 where
  pub eval : (e : Expr) → Each (IsWithin p r) (mentioned e) → EvalSame l o.eval o'.eval e
  pub evals : (es : Exprs) → Each (IsWithin p r) (mentioned_in es) → EvalsSame l o.evals o'.evals es
  pub produce : (a : Assertion) → Each (IsWithin p r) (entered_by a) → ProduceSame l o.produce o'.produce a
  pub consume : (a : Assertion) → Each (IsWithin p r) (entered_by a) → ConsumeSame l o.consume o'.consume a

-- the rules one depth deeper
step : (p : Program) (r l d d' : ℕ) → Opens p (IsWithin p r) l (outer p d) (outer p d') → Agree p r l (outer p (suc d)) (outer p (suc d'))
step p r l d d' opens = record {
  eval = eval_same p (IsWithin p r) l (outer p d) (outer p d') opens;
  evals = evals_same p (IsWithin p r) l (outer p d) (outer p d') opens;
  produce = produce_same p (IsWithin p r) l (outer p d) (outer p d') opens;
  consume = consume_same p (IsWithin p r) l (outer p d) (outer p d') opens;
}

is_none : {A : Type 0} {B : Type 0} {a : A} {m : Option A} → m ≡ None → m ≡ Some a → B
is_none e f = absurd (true≢false (ap is_some (sym f ∙ e)))

-- nothing is entered from names of no function and no predicate
opens_none : (p : Program) (l : ℕ) (o o' : Outer) → Opens p (IsWithin p 0) l o o'
opens_none p l o o' = record {
  requires = λ f g k e. is_none k.0 e;
  number = λ f g n k e. is_none k.0 e;
  instance = λ f g at i es k e. is_none k.0 e;
  body = λ i d b k e. is_none k.1 e;
  equations = λ f g k e. is_none k.0 e;
}

if_when : {A : Type 0} (b : Bool) {x x' : A} (y : A) → (b ≡ true → x ≡ x') → cond b x y ≡ cond b x' y
if_when true y h = h refl
if_when false y h = refl

level_if : {l : ℕ} (b : Bool) (x y : State) → x.level ≡ l → y.level ≡ l → (cond b x y).level ≡ l
level_if true x y e f = e
level_if false x y e f = f

module _ (p : Program) (n : ℕ) (all : (x : Name) → IsWithin p n x) (l : ℕ) (o o' : Outer) (up : nat_lt l 3 ≡ true → Agree p n (l + 1) o o') where
  sides_same : nat_lt l 3 ≡ true → (g : Function) (e : Expr) (snapshot : Term) (start : State) → start.level ≡ l + 1 → sides_of p o g e snapshot start ≡ sides_of p o' g e snapshot start
  sides_same b g e snapshot start v =
      ap leaves ((up b).produce (joined g.place g.requires) (each_of_all all _) whole_amount (Some snapshot) start v _ _ (λ s1 v1.
      (up b).eval e (each_of_all all _) s1 v1 On On (λ t s w. refl)))

  body_same : nat_lt l 3 ≡ true → (g : Function) (ts : List Term) (snapshot t : Term) (s : State) → s.level ≡ l → with_body p o g ts snapshot t s ≡ with_body p o' g ts snapshot t s
  body_same b g ts snapshot t s v =
      let start = quietly p o (bind g.parameters ts) s in
      ap (λ (ls : List Left). with_facts (gathered start (λ w. equals t w) ls) s) (sides_same b g g.body snapshot start (ap (λ k. k + 1) v))

  promise_same : nat_lt l 3 ≡ true → (g : Function) (ts : List Term) (snapshot t : Term) (s : State) → s.level ≡ l → with_promise p o g ts snapshot t s ≡ with_promise p o' g ts snapshot t s
  promise_same b g ts snapshot t s v =
      let start = quietly p o (bind g.parameters ts ++ (result_name, t) ∷ []) s in
      ap (λ (ls : List Left). with_facts (gathered start (λ w. w) ls) s) (sides_same b g (conjoined g.place g.ensures) snapshot start (ap (λ k. k + 1) v))

  body_level : (o : Outer) (g : Function) (ts : List Term) (snapshot t : Term) (s : State) → s.level ≡ l → (with_body p o g ts snapshot t s).level ≡ l
  body_level o g ts snapshot t s v =
      let start = quietly p o (bind g.parameters ts) s in
      facts_level (gathered start (λ w. equals t w) (sides_of p o g g.body snapshot start)) s v

  promise_level : (o : Outer) (g : Function) (ts : List Term) (snapshot t : Term) (s : State) → s.level ≡ l → (with_promise p o g ts snapshot t s).level ≡ l
  promise_level o g ts snapshot t s v =
      let start = quietly p o (bind g.parameters ts ++ (result_name, t) ∷ []) s in
      facts_level (gathered start (λ w. w) (sides_of p o g (conjoined g.place g.ensures) snapshot start)) s v

  equations_level : (g : Function) (ts : List Term) (snapshot t : Term) (s : State) → s.level ≡ l → (with_equations p o' g ts snapshot t s).level ≡ l
  equations_level g ts snapshot t s v =
      let told = with_body p o' g ts snapshot t s in
      level_if (nat_lt s.level 3) (with_promise p o' g ts snapshot t told) s (promise_level o' g ts snapshot t told (body_level o' g ts snapshot t s v)) v

  equations_same : (g : Function) (ts : List Term) (snapshot t : Term) (s : State) → s.level ≡ l → with_equations p o g ts snapshot t s ≡ with_equations p o' g ts snapshot t s
  equations_same g ts snapshot t s v = if_when (nat_lt s.level 3) s (λ b.
      let c = ap (λ k. nat_lt k 3) (sym v) ∙ b in
      promise_same c g ts snapshot t (with_body p o g ts snapshot t s) (body_level o g ts snapshot t s v) ∙ ap (λ s1. with_promise p o' g ts snapshot t s1) (body_same c g ts snapshot t s v))

  of_function : (r : ℕ) (f : Name) (g : Function) → IsWithin p (suc r) f → function_named p f ≡ Some g → Each (IsWithin p r) (entered_by (joined g.place g.requires) ++ entered_by_measure g.decreases)
  of_function r f g k e = subst (λ o. Each (IsWithin p r) (entered_by_function o)) e (each_left (IsWithin p r) (entered_by_function (function_named p f)) (entered_by_predicate (predicate_named p f)) k)

  of_measure : (r : ℕ) (f : Name) (g : Function) (m : Option Measure) → IsWithin p (suc r) f → function_named p f ≡ Some g → g.decreases ≡ m → Each (IsWithin p r) (entered_by_measure m)
  of_measure r f g m k e q = subst (λ o. Each (IsWithin p r) (entered_by_measure o)) q (each_right (IsWithin p r) (entered_by (joined g.place g.requires)) (entered_by_measure g.decreases) (of_function r f g k e))

  of_body : (r : ℕ) (i : Name) (d : Predicate) (b : Assertion) → IsWithin p (suc r) i → predicate_named p i ≡ Some d → d.body ≡ Some b → Each (IsWithin p r) (entered_by b)
  of_body r i d b k e q =
      subst (λ o. Each (IsWithin p r) (entered_by_body o)) q (subst (λ o. Each (IsWithin p r) (entered_by_predicate o)) e (each_right (IsWithin p r) (entered_by_function (function_named p i)) (entered_by_predicate (predicate_named p i)) k))

  opens_more : (r : ℕ) → Agree p r l o o' → Opens p (IsWithin p (suc r)) l o o'
  opens_more r h = record {
    requires = λ f g k e. h.consume (joined g.place g.requires) (each_left (IsWithin p r) (entered_by (joined g.place g.requires)) (entered_by_measure g.decreases) (of_function r f g k e));
    number = λ f g n k e q. h.eval n (of_measure r f g (Some (ByNumber n)) k e q);
    instance = λ f g at i es k e q. h.evals es (of_measure r f g (Some (ByInstance at i es)) k e q);
    body = λ i d b k e q. h.produce b (of_body r i d b k e q);
    equations = λ f g k e ts snapshot t s v. (equations_same g ts snapshot t s v, equations_level g ts snapshot t s v);
  }

module _ (p : Program) (n : ℕ) (all : (x : Name) → IsWithin p n x) where
  -- on a level, over b depths that suffice for the next
  on_level : (l b : ℕ) → ((d d' : ℕ) → b < d → b < d' → nat_lt l 3 ≡ true → Agree p n (l + 1) (outer p d) (outer p d')) →
      (r d d' : ℕ) → b + r < d → b + r < d' → Agree p r l (outer p d) (outer p d')
  on_level l b up r zero d' m m' = absurd (omega (arith, m))
  on_level l b up r (suc d) zero m m' = absurd (omega (arith, m'))
  on_level l b up zero (suc d) (suc d') m m' = step p zero l d d' (opens_none p l (outer p d) (outer p d'))
  on_level l b up (suc r) (suc d) (suc d') m m' =
      step p (suc r) l d d' (opens_more p n all l (outer p d) (outer p d') (up d d' (omega (arith, m)) (omega (arith, m'))) r (on_level l b up r d d' (omega (arith, m)) (omega (arith, m'))))

  third : (r d d' : ℕ) → 0 + r < d → 0 + r < d' → Agree p r 3 (outer p d) (outer p d')
  third r d d' m m' = on_level 3 0 (λ d d' m m' q. absurd (true≢false (sym q))) r d d' m m'

  second : (r d d' : ℕ) → n + r < d → n + r < d' → Agree p r 2 (outer p d) (outer p d')
  second r d d' m m' = on_level 2 n (λ d d' m m' q. third n d d' (omega (arith, m)) (omega (arith, m'))) r d d' m m'

  first_level : (r d d' : ℕ) → 2 * n + r < d → 2 * n + r < d' → Agree p r 1 (outer p d) (outer p d')
  first_level r d d' m m' = on_level 1 (2 * n) (λ d d' m m' q. second n d d' (omega (arith, m)) (omega (arith, m'))) r d d' m m'

  pub ground_level : (r d d' : ℕ) → 3 * n + r < d → 3 * n + r < d' → Agree p r 0 (outer p d) (outer p d')
  ground_level r d d' m m' = on_level 0 (3 * n) (λ d d' m m' q. first_level n d d' (omega (arith, m)) (omega (arith, m'))) r d d' m m'

  -- on every level: from the third on nothing is entered on a further one
  pub any_level : (l r d d' : ℕ) → 3 * n + r < d → 3 * n + r < d' → Agree p r l (outer p d) (outer p d')
  any_level zero r d d' m m' = ground_level r d d' m m'
  any_level (suc zero) r d d' m m' = first_level r d d' (omega (arith, m)) (omega (arith, m'))
  any_level (suc (suc zero)) r d d' m m' = second r d d' (omega (arith, m)) (omega (arith, m'))
  any_level (suc (suc (suc k))) r d d' m m' =
      on_level (suc (suc (suc k))) 0 (λ d d' m m' q. let e = ltb-true (suc (suc (suc k))) 3 q in absurd (omega (arith, e))) r d d' (omega (arith, m)) (omega (arith, m'))

  opens_by : (o o' : Outer) → (nat_lt 0 3 ≡ true → Agree p n 1 o o') → (r : ℕ) → ((k : ℕ) → r ≡ suc k → Agree p k 0 o o') → Opens p (IsWithin p r) 0 o o'
  opens_by o o' up zero h = opens_none p 0 o o'
  opens_by o o' up (suc k) h = opens_more p n all 0 o o' up k (h k refl)

  pub ground_opens : (c d : ℕ) → 4 * n < c → 4 * n < d → Opens p (IsWithin p n) 0 (outer p c) (outer p d)
  ground_opens c d m m' =
      opens_by (outer p c) (outer p d) (λ q. first_level n c d (omega (arith, m)) (omega (arith, m'))) n (λ k e. ground_level k c d (omega (arith, m, e)) (omega (arith, m', e)))
