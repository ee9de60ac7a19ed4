-- The applications that are evaluated with an expression: by more fuel they are more, and they look at no holdings.
use Rattle.std.proofs.Common.{◌≡◌, ℕ, suc, ◌+◌, ◌⊎◌, inl, inr, Bool, true, false, List, [], ◌∷◌, ◌++◌, Option, Some, None, refl, arith, subst, sym}
use Rattle.std.specs.Prelude.{Contains}
use Rattle.vx_ast.specs.Syntax.{Name, Program, Connective, Expr, Number, Truth, Null, Part, Variable, Not, Operate, Divide, Connect, Choose, Read, Old, Apply, Unfolding, Exprs, NoMore, More}
use Rattle.vx_meaning.specs.Values.{Value, IntValue, BoolValue, RefValue, PermValue, needs_right}
use Rattle.vx_meaning.specs.States.{State, Holdings, at_old, with_holdings}
use Rattle.vx_meaning.specs.Evaluate.{applications, values, value_by}
use Rattle.vx_meaning.specs.Fails.{Application, applied_to, of_right, chosen, evaluated, evaluated_in}
use Rattle.vx_sound.proofs.Fuel.{value_more, values_more, applications_later}
use Rattle.vx_law.proofs.Deeper.{value_held, values_held}

-- a stands in the list
abbrev pub In : List Application → Application → Type 0
In [] a = ⊥
In (x ∷ xs) a = (x ≡ a) ⊎ In xs a

pub contained : (xs : List Application) (a : Application) → In xs a → Contains xs a
contained [] a h = absurd h
contained (x ∷ xs) a (inl e) = (0, omega arith, e)
contained (x ∷ xs) a (inr h) = let k = contained xs a h in (suc k.0, omega (arith, k.1), k.2)

pub in_left : (xs ys : List Application) (a : Application) → In xs a → In (xs ++ ys) a
in_left [] ys a h = absurd h
in_left (x ∷ xs) ys a (inl e) = inl e
in_left (x ∷ xs) ys a (inr h) = inr (in_left xs ys a h)

pub in_right : (xs ys : List Application) (a : Application) → In ys a → In (xs ++ ys) a
in_right [] ys a h = h
in_right (x ∷ xs) ys a h = inr (in_right xs ys a h)

in_both : (xs ys xs' ys' : List Application) (a : Application) → (In xs a → In xs' a) → (In ys a → In ys' a) → In (xs ++ ys) a → In (xs' ++ ys') a
in_both [] ys xs' ys' a f g h = in_right xs' ys' a (g h)
in_both (x ∷ xs) ys xs' ys' a f g (inl e) = in_left xs' ys' a (f (inl e))
in_both (x ∷ xs) ys xs' ys' a f g (inr h) = in_both xs ys xs' ys' a (λ k. f (inr k)) g h

-- the right part of a connective, where it is needed, and a side
pub of_needed : (c : Connective) (o : Option Value) (b : Bool) (xs : List Application) (a : Application) → o ≡ Some (BoolValue b) → needs_right c b ≡ true → In xs a → In (of_right c o xs) a
of_needed c o b xs a e n h = subst (λ (o : Option Value). In (of_right c o xs) a) (sym e) (go (needs_right c b) n)
  where
    go : (n : Bool) → n ≡ true → In (elim n as (λ b. List Application) [ true ↦ xs | false ↦ [] ]) a
    go true n = h
    go false n = cc

pub of_first : (o : Option Value) (xs ys : List Application) (a : Application) → o ≡ Some (BoolValue true) → In xs a → In (chosen o xs ys) a
of_first o xs ys a e h = subst (λ (o : Option Value). In (chosen o xs ys) a) (sym e) h

pub of_second : (o : Option Value) (xs ys : List Application) (a : Application) → o ≡ Some (BoolValue false) → In ys a → In (chosen o xs ys) a
of_second o xs ys a e h = subst (λ (o : Option Value). In (chosen o xs ys) a) (sym e) h

right_more : (c : Connective) (o m : Option Value) (xs ys : List Application) (a : Application) → ((v : Value) → o ≡ Some v → m ≡ Some v) → (In xs a → In ys a) → In (of_right c o xs) a → In (of_right c m ys) a
right_more c None m xs ys a f g h = absurd h
right_more c (Some (BoolValue b)) m xs ys a f g h = subst (λ (o : Option Value). In (of_right c o ys) a) (sym (f (BoolValue b) refl)) (go (needs_right c b) h)
  where
    go : (n : Bool) → In (elim n as (λ b. List Application) [ true ↦ xs | false ↦ [] ]) a → In (elim n as (λ b. List Application) [ true ↦ ys | false ↦ [] ]) a
    go true h = g h
    go false h = h
right_more c (Some (IntValue z)) m xs ys a f g h = absurd h
right_more c (Some (RefValue z)) m xs ys a f g h = absurd h
right_more c (Some (PermValue z)) m xs ys a f g h = absurd h

chosen_more : (o m : Option Value) (xs ys xs' ys' : List Application) (a : Application) → ((v : Value) → o ≡ Some v → m ≡ Some v) → (In xs a → In xs' a) → (In ys a → In ys' a) → In (chosen o xs ys) a → In (chosen m xs' ys') a
chosen_more None m xs ys xs' ys' a f g k h = absurd h
chosen_more (Some (BoolValue true)) m xs ys xs' ys' a f g k h = of_first m xs' ys' a (f (BoolValue true) refl) (g h)
chosen_more (Some (BoolValue false)) m xs ys xs' ys' a f g k h = of_second m xs' ys' a (f (BoolValue false) refl) (k h)
chosen_more (Some (IntValue z)) m xs ys xs' ys' a f g k h = absurd h
chosen_more (Some (RefValue z)) m xs ys xs' ys' a f g k h = absurd h
chosen_more (Some (PermValue z)) m xs ys xs' ys' a f g k h = absurd h

pub of_applied : (f : Name) (o : Option (List Value)) (vs : List Value) → o ≡ Some vs → In (applied_to f o) (f, vs)
of_applied f o vs e = subst (λ (o : Option (List Value)). In (applied_to f o) (f, vs)) (sym e) (inl refl)

applied_more : (f : Name) (o m : Option (List Value)) (a : Application) → ((vs : List Value) → o ≡ Some vs → m ≡ Some vs) → In (applied_to f o) a → In (applied_to f m) a
applied_more f None m a g h = absurd h
applied_more f (Some vs) m a g h = subst (λ (o : Option (List Value)). In (applied_to f o) a) (sym (g vs refl)) h

module _ (p : Program) (k n : ℕ) where
  mutual
    pub evaluated_more : (s : State) (e : Expr) (a : Application) → In (evaluated p n s e) a → In (evaluated p (k + n) s e) a
    evaluated_more s (Number at z) a h = h
    evaluated_more s (Truth at b) a h = h
    evaluated_more s (Null at) a h = h
    evaluated_more s (Part at m q) a h = h
    evaluated_more s (Variable at x) a h = h
    evaluated_more s (Not at e) a h = evaluated_more s e a h
    evaluated_more s (Operate at op b c) a h = in_both (evaluated p n s b) (evaluated p n s c) (evaluated p (k + n) s b) (evaluated p (k + n) s c) a (evaluated_more s b a) (evaluated_more s c a) h
    evaluated_more s (Divide at op b c) a h = in_both (evaluated p n s b) (evaluated p n s c) (evaluated p (k + n) s b) (evaluated p (k + n) s c) a (evaluated_more s b a) (evaluated_more s c a) h
    evaluated_more s (Connect at op b c) a h =
        in_both (evaluated p n s b) (of_right op (value_by p n s b) (evaluated p n s c)) (evaluated p (k + n) s b) (of_right op (value_by p (k + n) s b) (evaluated p (k + n) s c)) a (evaluated_more s b a)
        (right_more op (value_by p n s b) (value_by p (k + n) s b) (evaluated p n s c) (evaluated p (k + n) s c) a (value_more p (applications p n) (applications p (k + n)) (applications_later p k n) s b) (evaluated_more s c a)) h
    evaluated_more s (Choose at b c d) a h =
        in_both (evaluated p n s b) (chosen (value_by p n s b) (evaluated p n s c) (evaluated p n s d)) (evaluated p (k + n) s b) (chosen (value_by p (k + n) s b) (evaluated p (k + n) s c) (evaluated p (k + n) s d)) a (evaluated_more s b a)
        (chosen_more (value_by p n s b) (value_by p (k + n) s b) (evaluated p n s c) (evaluated p n s d) (evaluated p (k + n) s c) (evaluated p (k + n) s d) a
        (value_more p (applications p n) (applications p (k + n)) (applications_later p k n) s b) (evaluated_more s c a) (evaluated_more s d a)) h
    evaluated_more s (Read at e f) a h = evaluated_more s e a h
    evaluated_more s (Old at e) a h = evaluated_more (at_old s) e a h
    evaluated_more s (Apply at f es) a h =
        in_both (evaluated_in p n s es) (applied_to f (values p (applications p n) s es)) (evaluated_in p (k + n) s es) (applied_to f (values p (applications p (k + n)) s es)) a (all_more s es a)
        (applied_more f (values p (applications p n) s es) (values p (applications p (k + n)) s es) a (values_more p (applications p n) (applications p (k + n)) (applications_later p k n) s es)) h
    evaluated_more s (Unfolding at i es share e) a h =
        in_both (evaluated p n s share ++ evaluated_in p n s es) (evaluated p n s e) (evaluated p (k + n) s share ++ evaluated_in p (k + n) s es) (evaluated p (k + n) s e) a
        (in_both (evaluated p n s share) (evaluated_in p n s es) (evaluated p (k + n) s share) (evaluated_in p (k + n) s es) a (evaluated_more s share a) (all_more s es a)) (evaluated_more s e a) h

    pub all_more : (s : State) (es : Exprs) (a : Application) → In (evaluated_in p n s es) a → In (evaluated_in p (k + n) s es) a
    all_more s NoMore a h = h
    all_more s (More e es) a h = in_both (evaluated p n s e) (evaluated_in p n s es) (evaluated p (k + n) s e) (evaluated_in p (k + n) s es) a (evaluated_more s e a) (all_more s es a) h

module _ (p : Program) (n : ℕ) (hs : Holdings) where
  mutual
    pub evaluated_held : (s : State) (e : Expr) → evaluated p n (with_holdings hs s) e ≡ evaluated p n s e
    evaluated_held s (Number at z) = refl
    evaluated_held s (Truth at b) = refl
    evaluated_held s (Null at) = refl
    evaluated_held s (Part at m q) = refl
    evaluated_held s (Variable at x) = refl
    evaluated_held s (Not at e) = evaluated_held s e
    evaluated_held s (Operate at op a b) = λ i. evaluated_held s a i ++ evaluated_held s b i
    evaluated_held s (Divide at op a b) = λ i. evaluated_held s a i ++ evaluated_held s b i
    evaluated_held s (Connect at c a b) = λ i. evaluated_held s a i ++ of_right c (value_held p n hs s a i) (evaluated_held s b i)
    evaluated_held s (Choose at c a b) = λ i. evaluated_held s c i ++ chosen (value_held p n hs s c i) (evaluated_held s a i) (evaluated_held s b i)
    evaluated_held s (Read at e f) = evaluated_held s e
    evaluated_held s (Old at e) = refl
    evaluated_held s (Apply at f es) = λ i. all_held s es i ++ applied_to f (values_held p n hs s es i)
    evaluated_held s (Unfolding at j es share e) = λ i. (evaluated_held s share i ++ all_held s es i) ++ evaluated_held s e i

    pub all_held : (s : State) (es : Exprs) → evaluated_in p n (with_holdings hs s) es ≡ evaluated_in p n s es
    all_held s NoMore = refl
    all_held s (More e es) = λ i. evaluated_held s e i ++ all_held s es i
