-- The functions that a member leads to keep what they promise, where the walk of each gives it at an application, if all applications
-- below that one keep their promises.
use Rattle.std.proofs.Common.{◌≡◌, ◌⊎◌, inl, inr, ℕ, zero, suc, ◌<◌, Bool, true, false, ◌||◌, List, [], ◌∷◌, ◌++◌, length, Option, Some, None, refl, sym, ◌∙◌, ap, subst, arith, true≢false}
use Rattle.std.specs.Prelude.{Contains, flat_map}
use Rattle.std.proofs.lemmas.Bool.{or_cases, and_parts}
use Rattle.std.proofs.lemmas.Option.{same_Some}
use Rattle.vx_ast.specs.declared.ValueType.{ValueType}
use Rattle.vx_ast.specs.declared.ValueType.TheVariants as type
use Rattle.vx_ast.specs.Syntax.{Name, same_name, Declaration, Program, Function, Measure, Connective, function_named, Expr, Number, Truth, Null, Part, Variable, Not, Operate, Divide, Connect, Choose, Read, Old, Apply, Unfolding, Exprs, NoMore, More, conjoined}
use Rattle.vx_ast.specs.Mentions.{mentioned, mentioned_in, mentioned_by, mentioned_by_function, mentions_of}
use Rattle.vx_ast.specs.Apart.{Stands}
use Rattle.vx_meaning.specs.Values.{Value, BoolValue, IntValue, RefValue, PermValue, needs_right}
use Rattle.vx_meaning.specs.States as run
use Rattle.vx_meaning.specs.States.{State, Heap, bind, at_old}
use Rattle.vx_meaning.specs.Evaluate.{applications, values, value_by}
use Rattle.vx_meaning.specs.Fits.{Fits}
use Rattle.vx_meaning.specs.Fails.{Application, applied_to, of_right, chosen, evaluated, evaluated_in, Evaluates, LowersMeasure, FunctionStarts, with_result}
use Rattle.vx_meaning.specs.Group.{Reaches, ReachesBy, InGroup}
use Rattle.vx_rules.specs.Groups.{leads_to, reaches_by, is_in_group}
use Rattle.vx_rules.proofs.Names.{same_name_is}
use Rattle.vx_types.specs.Typing.{Scope, HasType, number, truth, nulls, part, variable, nots, operates, scales, divides, connects, chooses, reads, olds, applies, unfoldings, HaveTypes, no_more, more}
use Rattle.vx_types.specs.Premises.{IsTypedProgram}
use Rattle.vx_types.specs.Closure.{InClosure}
use Rattle.vx_sound_preds.proofs.Typed.{on_left, on_right}
use Rattle.vx_sound_funcs.specs.Firm.{GoodFunctions}
use Rattle.vx_sound.proofs.Conjoined.{conjoined_typed}
use Rattle.vx_sound_preds.proofs.FunctionWalks.{conjoined_mentions}
use Rattle.vx_law.specs.Walks.{FunctionsKeep, Keeps, KeepsAt}
use Rattle.vx_law.specs.Allowed.{LowerKeep, TakenIsAllowed}
use Rattle.vx_law.specs.Measures.{IsBelow, lower_group, lesser_measure}
use Rattle.vx_law.proofs.Measures.{measures_induce, groups_induce}
use Rattle.vx_sound_preds.proofs.TypedValues.{have_types, applications_typed}
use Rattle.vx_law.proofs.Evaluated.{In}
use Rattle.vx_law.proofs.Firmly.{AreTyped}
use Rattle.vx_law.proofs.Lower.{leads_on, reaches_one, keep_on}
use Rattle.vx_law.proofs.Starting.{start_known}
use Rattle.vx_law.proofs.Promised.{EvaluatedKeep, result_of, store_typed, result_typed, keeps_where_fits}

-- Lists

pub in_contained : (xs : List Application) (a : Application) → Contains xs a → In xs a
in_contained [] a (k, l, e) = absurd (none_below k l)
  where
    none_below : (k : ℕ) → k < 0 → ⊥
    none_below k l = omega (arith, l)
in_contained (x ∷ xs) a (zero, l, e) = inl e
in_contained (x ∷ xs) a (suc k, l, e) = inr (in_contained xs a (k, omega (arith, l), e))

pub contains_name : (xs : List Name) (y : Name) → Stands y xs → Contains xs y
contains_name [] y s = absurd s
contains_name (x ∷ xs) y (inl e) = (0, omega arith, sym e)
contains_name (x ∷ xs) y (inr s) = let k = contains_name xs y s in (suc k.0, omega (arith, k.1), k.2)

of_either : {R : Type 0} (xs ys : List Application) (a : Application) → (In xs a → R) → (In ys a → R) → In (xs ++ ys) a → R
of_either [] ys a f g h = g h
of_either (x ∷ xs) ys a f g (inl e) = f (inl e)
of_either (x ∷ xs) ys a f g (inr h) = of_either xs ys a (λ k. f (inr k)) g h

of_right_in : (c : Connective) (o : Option Value) (xs : List Application) (a : Application) → In (of_right c o xs) a → In xs a
of_right_in c None xs a h = absurd h
of_right_in c (Some (BoolValue b)) xs a h = go (needs_right c b) h
  where
    go : (n : Bool) → In (elim n as (λ b. List Application) [ true ↦ xs | false ↦ [] ]) a → In xs a
    go true h = h
    go false h = absurd h
of_right_in c (Some (IntValue z)) xs a h = absurd h
of_right_in c (Some (RefValue z)) xs a h = absurd h
of_right_in c (Some (PermValue z)) xs a h = absurd h

of_chosen : {R : Type 0} (o : Option Value) (xs ys : List Application) (a : Application) → (In xs a → R) → (In ys a → R) → In (chosen o xs ys) a → R
of_chosen None xs ys a f g h = absurd h
of_chosen (Some (BoolValue true)) xs ys a f g h = f h
of_chosen (Some (BoolValue false)) xs ys a f g h = g h
of_chosen (Some (IntValue z)) xs ys a f g h = absurd h
of_chosen (Some (RefValue z)) xs ys a f g h = absurd h
of_chosen (Some (PermValue z)) xs ys a f g h = absurd h

of_applied_to : {R : Type 0} (f : Name) (o : Option (List Value)) (a : Application) → ((vs : List Value) → o ≡ Some vs → (f, vs) ≡ a → R) → In (applied_to f o) a → R
of_applied_to f None a k h = absurd h
of_applied_to f (Some vs) a k (inl e) = k vs refl e
of_applied_to f (Some vs) a k (inr h) = absurd h

-- What is evaluated is mentioned

module _ (p : Program) (n : ℕ) where
  mutual
    pub evaluated_mentioned : (s : State) (e : Expr) (a : Application) → In (evaluated p n s e) a → Stands a.0 (mentioned e)
    evaluated_mentioned s (Number at z) a h = absurd h
    evaluated_mentioned s (Truth at b) a h = absurd h
    evaluated_mentioned s (Null at) a h = absurd h
    evaluated_mentioned s (Part at m q) a h = absurd h
    evaluated_mentioned s (Variable at x) a h = absurd h
    evaluated_mentioned s (Not at e) a h = evaluated_mentioned s e a h
    evaluated_mentioned s (Operate at op b c) a h =
        of_either (evaluated p n s b) (evaluated p n s c) a (λ k. on_left a.0 (mentioned b) (mentioned c) (evaluated_mentioned s b a k)) (λ k. on_right a.0 (mentioned b) (mentioned c) (evaluated_mentioned s c a k)) h
    evaluated_mentioned s (Divide at op b c) a h =
        of_either (evaluated p n s b) (evaluated p n s c) a (λ k. on_left a.0 (mentioned b) (mentioned c) (evaluated_mentioned s b a k)) (λ k. on_right a.0 (mentioned b) (mentioned c) (evaluated_mentioned s c a k)) h
    evaluated_mentioned s (Connect at op b c) a h =
        of_either (evaluated p n s b) (of_right op (value_by p n s b) (evaluated p n s c)) a (λ k. on_left a.0 (mentioned b) (mentioned c) (evaluated_mentioned s b a k))
        (λ k. on_right a.0 (mentioned b) (mentioned c) (evaluated_mentioned s c a (of_right_in op (value_by p n s b) (evaluated p n s c) a k))) h
    evaluated_mentioned s (Choose at b c d) a h =
        of_either (evaluated p n s b) (chosen (value_by p n s b) (evaluated p n s c) (evaluated p n s d)) a (λ k. on_left a.0 (mentioned b ++ mentioned c) (mentioned d) (on_left a.0 (mentioned b) (mentioned c) (evaluated_mentioned s b a k)))
        (λ k. of_chosen (value_by p n s b) (evaluated p n s c) (evaluated p n s d) a (λ k. on_left a.0 (mentioned b ++ mentioned c) (mentioned d) (on_right a.0 (mentioned b) (mentioned c) (evaluated_mentioned s c a k)))
        (λ k. on_right a.0 (mentioned b ++ mentioned c) (mentioned d) (evaluated_mentioned s d a k)) k) h
    evaluated_mentioned s (Read at e f) a h = evaluated_mentioned s e a h
    evaluated_mentioned s (Old at e) a h = evaluated_mentioned (at_old s) e a h
    evaluated_mentioned s (Apply at f es) a h =
        of_either (evaluated_in p n s es) (applied_to f (values p (applications p n) s es)) a (λ k. inr (all_mentioned s es a k)) (λ k. of_applied_to f (values p (applications p n) s es) a (λ vs is e. inl (ap (λ (a : Application). a.0) (sym e))) k) h
    evaluated_mentioned s (Unfolding at i es share e) a h =
        of_either (evaluated p n s share ++ evaluated_in p n s es) (evaluated p n s e) a
        (λ k. of_either (evaluated p n s share) (evaluated_in p n s es) a
        (λ k. inr (on_left a.0 (mentioned_in es ++ mentioned share) (mentioned e) (on_right a.0 (mentioned_in es) (mentioned share) (evaluated_mentioned s share a k))))
        (λ k. inr (on_left a.0 (mentioned_in es ++ mentioned share) (mentioned e) (on_left a.0 (mentioned_in es) (mentioned share) (all_mentioned s es a k)))) k)
        (λ k. inr (on_right a.0 (mentioned_in es ++ mentioned share) (mentioned e) (evaluated_mentioned s e a k))) h

    pub all_mentioned : (s : State) (es : Exprs) (a : Application) → In (evaluated_in p n s es) a → Stands a.0 (mentioned_in es)
    all_mentioned s NoMore a h = absurd h
    all_mentioned s (More e es) a h =
        of_either (evaluated p n s e) (evaluated_in p n s es) a (λ k. on_left a.0 (mentioned e) (mentioned_in es) (evaluated_mentioned s e a k)) (λ k. on_right a.0 (mentioned e) (mentioned_in es) (all_mentioned s es a k)) h

-- What is evaluated has arguments of their types

module _ (p : Program) (typed : IsTypedProgram p) (n : ℕ) where
  -- its arguments have the types of its function's parameters
  abbrev HasArguments : Application → Type 0
  HasArguments a = (g : Function) → function_named p a.0 ≡ Some g → run.HaveTypes g.parameters a.1

  mutual
    pub evaluated_typed : (s : State) {scope : Scope} → AreTyped scope s.store → {e : Expr} {t : ValueType} → HasType p scope e t → (a : Application) → In (evaluated p n s e) a → HasArguments a
    evaluated_typed s ty (number at z) a h = absurd h
    evaluated_typed s ty (truth) a h = absurd h
    evaluated_typed s ty (nulls at) a h = absurd h
    evaluated_typed s ty (part at m q l) a h = absurd h
    evaluated_typed s ty (variable at y is) a h = absurd h
    evaluated_typed s ty (nots k) a h = evaluated_typed s ty k a h
    evaluated_typed s ty (operates {a = b} {b = c} o kb kc) a h = of_either (evaluated p n s b) (evaluated p n s c) a (evaluated_typed s ty kb a) (evaluated_typed s ty kc a) h
    evaluated_typed s ty (scales place m k) a h = evaluated_typed s ty k a h
    evaluated_typed s ty (divides {a = b} {b = c} kb kc) a h = of_either (evaluated p n s b) (evaluated p n s c) a (evaluated_typed s ty kb a) (evaluated_typed s ty kc a) h
    evaluated_typed s ty (connects {c = op} {a = b} {b = c} kb kc) a h =
        of_either (evaluated p n s b) (of_right op (value_by p n s b) (evaluated p n s c)) a (evaluated_typed s ty kb a) (λ k. evaluated_typed s ty kc a (of_right_in op (value_by p n s b) (evaluated p n s c) a k)) h
    evaluated_typed s ty (chooses {c = b} {a = c} {b = d} kb kc kd) a h =
        of_either (evaluated p n s b) (chosen (value_by p n s b) (evaluated p n s c) (evaluated p n s d)) a (evaluated_typed s ty kb a)
        (of_chosen (value_by p n s b) (evaluated p n s c) (evaluated p n s d) a (evaluated_typed s ty kc a) (evaluated_typed s ty kd a)) h
    evaluated_typed s ty (reads f is k) a h = evaluated_typed s ty k a h
    evaluated_typed s ty (olds k) a h = evaluated_typed (at_old s) ty k a h
    evaluated_typed s ty (applies f {es = es} g is ks) a h =
        of_either (evaluated_in p n s es) (applied_to f (values p (applications p n) s es)) a (all_typed s ty ks a)
        (of_applied_to f (values p (applications p n) s es) a (λ vs at e.
        subst HasArguments e (λ d named. subst (λ (d : Function). run.HaveTypes d.parameters vs) (same_Some g d (sym is ∙ named)) (have_types p typed.functions n (applications_typed p typed.functions n) s ty ks vs at)))) h
    evaluated_typed s ty (unfoldings i {es = es} {share = share} {e = e} d is ks kq k) a h =
        of_either (evaluated p n s share ++ evaluated_in p n s es) (evaluated p n s e) a (of_either (evaluated p n s share) (evaluated_in p n s es) a (evaluated_typed s ty kq a) (all_typed s ty ks a)) (evaluated_typed s ty k a) h

    pub all_typed : (s : State) {scope : Scope} → AreTyped scope s.store → {es : Exprs} {ds : List Declaration} → HaveTypes p scope es ds → (a : Application) → In (evaluated_in p n s es) a → HasArguments a
    all_typed s ty no_more a h = absurd h
    all_typed s ty (more {e = e} {es = es} k ks) a h = of_either (evaluated p n s e) (evaluated_in p n s es) a (evaluated_typed s ty k a) (all_typed s ty ks a) h

-- Groups

abbrev LedBy : (Name → Bool) → Name → List Name → Type 0
LedBy reaches g xs = (x : Name) × Stands x xs × ((g ≡ x) ⊎ (reaches x ≡ true))

one_more : (reaches : Name → Bool) (g y : Name) (xs : List Name) → LedBy reaches g xs → LedBy reaches g (y ∷ xs)
one_more reaches g y xs k = (k.0, inr k.1, k.2)

led_by : (reaches : Name → Bool) (g : Name) (xs : List Name) → leads_to reaches g xs ≡ true → LedBy reaches g xs
led_by reaches g [] e = cc
led_by reaches g (x ∷ xs) e = go (or_cases (same_name g x || reaches x) (leads_to reaches g xs) e) (led_by reaches g xs)
  where
    here : (same_name g x ≡ true) ⊎ (reaches x ≡ true) → LedBy reaches g (x ∷ xs)
    here (inl s) = (x, inl refl, inl (same_name_is g x s))
    here (inr r) = (x, inl refl, inr r)

    go : ((same_name g x || reaches x) ≡ true) ⊎ (leads_to reaches g xs ≡ true) → (leads_to reaches g xs ≡ true → LedBy reaches g xs) → LedBy reaches g (x ∷ xs)
    go (inl s) f = here (or_cases (same_name g x) (reaches x) s)
    go (inr l) f = one_more reaches g x xs (f l)

reached_by : (p : Program) (n : ℕ) (f g : Name) → reaches_by p n f g ≡ true → ReachesBy p n f g
reached_by p zero f g e = cc
reached_by p (suc n) f g e = go (function_named p f) refl e (λ x. reached_by p n x g)
  where
    nothing : leads_to (λ x. reaches_by p n x g) g [] ≡ true → ReachesBy p (suc n) f g
    nothing e = cc

    go : (o : Option Function) → function_named p f ≡ o → leads_to (λ x. reaches_by p n x g) g (mentions_of o) ≡ true → ((x : Name) → reaches_by p n x g ≡ true → ReachesBy p n x g) → ReachesBy p (suc n) f g
    go None is e below = nothing e
    go (Some d) is e below =
        let k = led_by (λ x. reaches_by p n x g) g (mentioned_by_function d) e in
        by_case k.0 (contains_name (mentioned_by_function d) k.0 k.1) k.2
      where
        by_case : (x : Name) → Contains (mentioned_by_function d) x → (g ≡ x) ⊎ (reaches_by p n x g ≡ true) → ReachesBy p (suc n) f g
        by_case x c (inl s) = inl (d, is, subst (Contains (mentioned_by_function d)) (sym s) c)
        by_case x c (inr r) = inr (x, (d, is, c), below x r)

pub grouped : (p : Program) (f g : Name) → is_in_group p f g ≡ true → InGroup p f g
grouped p f g e =
    let k = and_parts (reaches_by p (length p) f g) (reaches_by p (length p) g f) e in
    ((length p, reached_by p (length p) f g k.0), (length p, reached_by p (length p) g f k.1))

-- The group of each function is told as it is decided.
abbrev pub GroupsTold : Program → Type 0
GroupsTold p = (f g : Name) → InGroup p f g → is_in_group p f g ≡ true

-- an application of f's group has a lesser measure than the one that g has where it starts
abbrev pub Lowers : Program → Name → Function → State → Application → Type 0
Lowers p f g s a = InGroup p f a.0 → (e : Measure) × (g.decreases ≡ Some e) × LowersMeasure p e s a.0 a.1

-- what the walk of f is to give where it starts: its body and its postcondition fit, and what is evaluated with them is measured
pub record Gives (p : Program) (f : Name) (g : Function) (s : State) : Type 0 where
  pub value : Value
  pub fits : Fits p s g.body value
  pub promise : Fits p (with_result value s) (conjoined g.place g.ensures) (BoolValue true)
  pub body_lowers : (a : Application) → Evaluates p s g.body a → Lowers p f g s a
  pub promise_lowers : (a : Application) → Evaluates p (with_result value s) (conjoined g.place g.ensures) a → Lowers p f g s a

-- the applications below one keep their promises
abbrev pub BelowKeep : Program → Name → Heap → Name → List Value → Type 0
BelowKeep p x h f vs = (f' : Name) (g' : Function) (vs' : List Value) → InClosure p x f' → function_named p f' ≡ Some g' → run.HaveTypes g'.parameters vs' → IsBelow p h f vs f' vs' → KeepsAt p f' g' vs' h

-- so the walks of the functions that x leads to give it, where those of lower groups keep their promises
abbrev pub WalksGive : Program → Name → Type 0
WalksGive p x =
    (f : Name) (g : Function) → InClosure p x f → function_named p f ≡ Some g → LowerKeep p x f → (vs : List Value) → run.HaveTypes g.parameters vs → (s : State) → FunctionStarts p g s → s.store ≡ bind g.parameters vs → BelowKeep p x s.heap f vs → Gives p f g s

module _ (p : Program) (x : Name) (typed : IsTypedProgram p) (functions : GoodFunctions p) (groups : GroupsTold p) (taken : TakenIsAllowed p x) where
  module _ (f : Name) (g : Function) (leads : InClosure p x f) (named : function_named p f ≡ Some g) (lower : LowerKeep p x f) (vs : List Value) (s : State) (starts : FunctionStarts p g s) (store : s.store ≡ bind g.parameters vs) where
    -- an application that f mentions
    is_below : (a : Application) → Stands a.0 (mentioned_by_function g) → Lowers p f g s a → IsBelow p s.heap f vs a.0 a.1
    is_below a seen lowers = go (is_in_group p f a.0) refl
      where
        reaches : Reaches p f a.0
        reaches = reaches_one p x f g named a.0 seen

        go : (b : Bool) → is_in_group p f a.0 ≡ b → IsBelow p s.heap f vs a.0 a.1
        go true e =
            let group = grouped p f a.0 e in
            let l = lowers group in
            lesser_measure group record { caller = g; named = named; start = record { state = s; starts = starts; store = store; heap = refl }; measure = l.0; has_measure = l.1; lowers = l.2 }
        go false e = lower_group reaches (λ back. absurd (true≢false (sym (groups f a.0 (reaches, back)) ∙ e)))

    -- what is evaluated keeps its promise, where all below does
    evaluated_keeps : BelowKeep p x s.heap f vs → (u : State) → u.heap ≡ s.heap → (scope : Scope) → AreTyped scope u.store → (e : Expr) (t : ValueType) → HasType p scope e t → ((y : Name) → Stands y (mentioned e) → Stands y (mentioned_by_function g)) →
        ((a : Application) → Evaluates p u e a → Lowers p f g s a) → EvaluatedKeep p x typed functions u e
    evaluated_keeps below u heap scope ty e t k seen lowers a (n, c) g' named' =
        let there = in_contained (evaluated p n u e) a c in
        let stands = seen a.0 (evaluated_mentioned p n u e a there) in
        let leads' = leads_on p x f g leads named a.0 stands in (
          subst (λ (h : Heap). KeepsAt p a.0 g' a.1 h) (sym heap) (below a.0 g' a.1 leads' named' (evaluated_typed p typed n u ty k a there g' named') (is_below a stands (lowers a (n, c)))),
          taken a.0 g' leads' named' (keep_on p x f a.0 (reaches_one p x f g named a.0 stands) lower),
        )

    keeps_from_below : BelowKeep p x s.heap f vs → Gives p f g s → Keeps p g s
    keeps_from_below below gives =
        let t = typed.functions f g named in
        let scope = g.parameters ++ result_of g ∷ [] in
        keeps_where_fits p x typed functions f g leads named s starts gives.value gives.fits
        (evaluated_keeps below s refl g.parameters (store_typed p x typed functions f g leads named s starts gives.value gives.fits) g.body g.of t.body
        (λ y h. on_left y (mentioned g.body ++ flat_map mentioned_by g.requires) (flat_map mentioned g.ensures) (on_left y (mentioned g.body) (flat_map mentioned_by g.requires) h)) gives.body_lowers)
        gives.promise
        (evaluated_keeps below (with_result gives.value s) refl scope (result_typed p x typed functions f g leads named s starts gives.value gives.fits) (conjoined g.place g.ensures) type.Bool (conjoined_typed p scope g.place g.ensures t.ensures)
        (λ y h. on_right y (mentioned g.body ++ flat_map mentioned_by g.requires) (flat_map mentioned g.ensures) (conjoined_mentions y g.place g.ensures h)) gives.promise_lowers)

  -- By induction over groups, and within a group, in the heap of a start, over applications.
  abbrev ClosureKeeps : Heap → Name → Function → List Value → Type 0
  ClosureKeeps h f g vs = InClosure p x f → LowerKeep p x f → KeepsAt p f g vs h

  below_reached : (h : Heap) (f : Name) (vs : List Value) (f' : Name) (vs' : List Value) → IsBelow p h f vs f' vs' → Reaches p f f'
  below_reached h f vs f' vs' (lower_group r apart) = r
  below_reached h f vs f' vs' (lesser_measure w l) = w.0

  abbrev GroupKeeps : Name → Function → Type 0
  GroupKeeps f g = InClosure p x f → (s : State) → FunctionStarts p g s → Keeps p g s

  pub functions_keep : WalksGive p x → FunctionsKeep p x
  functions_keep walks f g leads named s starts = groups_induce p GroupKeeps group f g named leads s starts
    where
      step : (h : Heap) (f : Name) (g : Function) (vs : List Value) → function_named p f ≡ Some g → run.HaveTypes g.parameters vs →
          ((f' : Name) (g' : Function) (vs' : List Value) → function_named p f' ≡ Some g' → run.HaveTypes g'.parameters vs' → IsBelow p h f vs f' vs' → ClosureKeeps h f' g' vs') → ClosureKeeps h f g vs
      step h f g vs named types below leads lower is s starts store heap =
          let here : BelowKeep p x s.heap f vs = subst (λ (h : Heap). BelowKeep p x h f vs) (sym heap) (λ f' g' vs' leads' named' types' b. below f' g' vs' named' types' b leads' (keep_on p x f f' (below_reached h f vs f' vs' b) lower)) in
          keeps_from_below f g leads named lower vs s starts store here (walks f g leads named lower vs types s starts store here)

      group : (f : Name) (g : Function) → function_named p f ≡ Some g → ((f' : Name) (g' : Function) → function_named p f' ≡ Some g' → Reaches p f f' → (Reaches p f' f → ⊥) → GroupKeeps f' g') → GroupKeeps f g
      group f g named of_lower leads s starts =
          let k = start_known p x typed functions f g leads named s starts in
          measures_induce p typed s.heap (ClosureKeeps s.heap) (step s.heap) f g k.arguments named k.types leads (λ f' g' leads' named' r apart. of_lower f' g' named' r apart leads') named s starts k.store refl
