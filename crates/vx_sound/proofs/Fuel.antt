-- More fuel leaves each value as it is, so there is one at most.
use Rattle.std.proofs.Common.{◌≡◌, ℕ, zero, suc, ◌+◌, Bool, true, false, cond, List, ◌∷◌, Option, Some, None, refl, sym, ◌∙◌, ap, subst, arith}
use Rattle.std.specs.Prelude.{option_and_then}
use Rattle.std.proofs.lemmas.Option.{same_Some}
use Rattle.vx_ast.specs.Syntax.{Name, Program, function_named, Connective, Expr, Number, Truth, Null, Part, Variable, Not, Operate, Divide, Connect, Choose, Read, Old, Apply, Unfolding, Exprs, NoMore, More}
use Rattle.vx_meaning.specs.Values.{Value, IntValue, BoolValue, RefValue, PermValue, negated, operated, divided, needs_right, without_right}
use Rattle.vx_meaning.specs.States.{State, at_old, bind, with_store}
use Rattle.vx_meaning.specs.Evaluate.{Applications, choose, connected, read, value, values, applications, HasValue}

-- undoing options
record Came {A B : Type 0} (o : Option A) (f : A → Option B) (b : B) : Type 0 where
  it : A
  is : o ≡ Some it
  then : f it ≡ Some b

nothing : {A : Type 0} (a : A) → ◌≡◌ {A = Option A} None (Some a) → ⊥
nothing a e = cc

came : {A B : Type 0} (o : Option A) (f : A → Option B) (b : B) → option_and_then f o ≡ Some b → Came o f b
came (Some a) f b e = record { it = a; is = refl; then = e }
came None f b e = absurd (nothing b e)

step : {A B : Type 0} (f : A → Option B) {o : Option A} (a : A) → o ≡ Some a → option_and_then f o ≡ f a
step f a e = ap (option_and_then f) e

-- where the first has a value, the second has it too
abbrev pub Covers : Applications → Applications → Type 0
Covers a b = (f : Name) (vs : List Value) (s : State) (v : Value) → a f vs s ≡ Some v → b f vs s ≡ Some v

connected_more : (c : Connective) (v : Value) (x y : Option Value) (w : Value) → (x ≡ Some w → y ≡ Some w) → connected c v x ≡ Some w → connected c v y ≡ Some w
connected_more c (BoolValue b) x y w h e = go (needs_right c b) e
  where
    go : (n : Bool) → cond n x (Some (BoolValue (without_right c))) ≡ Some w → cond n y (Some (BoolValue (without_right c))) ≡ Some w
    go true e = h e
    go false e = e
connected_more c (IntValue z) x y w h e = e
connected_more c (RefValue z) x y w h e = e
connected_more c (PermValue z) x y w h e = e

chosen_more : (v : Value) (x y x' y' : Option Value) (w : Value) → (x ≡ Some w → x' ≡ Some w) → (y ≡ Some w → y' ≡ Some w) → choose v x y ≡ Some w → choose v x' y' ≡ Some w
chosen_more (BoolValue true) x y x' y' w h k e = h e
chosen_more (BoolValue false) x y x' y' w h k e = k e
chosen_more (IntValue z) x y x' y' w h k e = e
chosen_more (RefValue z) x y x' y' w h k e = e
chosen_more (PermValue z) x y x' y' w h k e = e

module _ (p : Program) (ap' more : Applications) (covers : Covers ap' more) where
  mutual
    pub value_more : (s : State) (e : Expr) (v : Value) → value p ap' s e ≡ Some v → value p more s e ≡ Some v
    value_more s (Number at n) v e = e
    value_more s (Truth at b) v e = e
    value_more s (Null at) v e = e
    value_more s (Part at n d) v e = e
    value_more s (Variable at x) v e = e
    value_more s (Not at a) v e =
        let x = came (value p ap' s a) negated v e in
        step negated x.it (value_more s a x.it x.is) ∙ x.then
    value_more s (Operate at op a b) v e =
        let x = came (value p ap' s a) (λ v. option_and_then (λ w. operated op v w) (value p ap' s b)) v e in
        let y = came (value p ap' s b) (λ w. operated op x.it w) v x.then in
        step (λ v. option_and_then (λ w. operated op v w) (value p more s b)) x.it (value_more s a x.it x.is) ∙ step (λ w. operated op x.it w) y.it (value_more s b y.it y.is) ∙ y.then
    value_more s (Divide at op a b) v e =
        let x = came (value p ap' s a) (λ v. option_and_then (λ w. divided op v w) (value p ap' s b)) v e in
        let y = came (value p ap' s b) (λ w. divided op x.it w) v x.then in
        step (λ v. option_and_then (λ w. divided op v w) (value p more s b)) x.it (value_more s a x.it x.is) ∙ step (λ w. divided op x.it w) y.it (value_more s b y.it y.is) ∙ y.then
    value_more s (Connect at c a b) v e =
        let x = came (value p ap' s a) (λ v. connected c v (value p ap' s b)) v e in
        step (λ v. connected c v (value p more s b)) x.it (value_more s a x.it x.is) ∙ connected_more c x.it (value p ap' s b) (value p more s b) v (value_more s b v) x.then
    value_more s (Choose at c a b) v e =
        let x = came (value p ap' s c) (λ v. choose v (value p ap' s a) (value p ap' s b)) v e in
        step (λ v. choose v (value p more s a) (value p more s b)) x.it (value_more s c x.it x.is)
        ∙ chosen_more x.it (value p ap' s a) (value p ap' s b) (value p more s a) (value p more s b) v (value_more s a v) (value_more s b v) x.then
    value_more s (Read at a f) v e =
        let x = came (value p ap' s a) (read p s f) v e in
        step (read p s f) x.it (value_more s a x.it x.is) ∙ x.then
    value_more s (Old at a) v e = value_more (at_old s) a v e
    value_more s (Apply at f es) v e =
        let x = came (values p ap' s es) (λ vs. ap' f vs s) v e in
        step (λ vs. more f vs s) x.it (values_more s es x.it x.is) ∙ covers f x.it s v x.then
    value_more s (Unfolding at i es share a) v e = value_more s a v e

    pub values_more : (s : State) (es : Exprs) (vs : List Value) → values p ap' s es ≡ Some vs → values p more s es ≡ Some vs
    values_more s NoMore vs e = e
    values_more s (More a es) vs e =
        let x = came (value p ap' s a) (λ v. option_and_then (λ vs. Some (v ∷ vs)) (values p ap' s es)) vs e in
        let y = came (values p ap' s es) (λ vs. Some (x.it ∷ vs)) vs x.then in
        step (λ v. option_and_then (λ vs. Some (v ∷ vs)) (values p more s es)) x.it (value_more s a x.it x.is) ∙ step (λ vs. Some (x.it ∷ vs)) y.it (values_more s es y.it y.is) ∙ y.then

module _ (p : Program) where
  applications_more : (n : ℕ) → Covers (applications p n) (applications p (suc n))
  applications_more zero f vs s v e = nothing e
    where
      nothing : None ≡ Some v → applications p 1 f vs s ≡ Some v
      nothing e = cc
  applications_more (suc n) f vs s v e =
      let g = came (function_named p f) (λ g. value p (applications p n) (with_store (bind g.parameters vs) s) g.body) v e in
      step (λ g. value p (applications p (suc n)) (with_store (bind g.parameters vs) s) g.body) g.it g.is
      ∙ value_more p (applications p n) (applications p (suc n)) (applications_more n) (with_store (bind g.it.parameters vs) s) g.it.body v g.then

  pub applications_later : (k n : ℕ) → Covers (applications p n) (applications p (k + n))
  applications_later zero n f vs s v e = let z : n ≡ zero + n = omega arith in subst (λ (m : ℕ). applications p m f vs s ≡ Some v) z e
  applications_later (suc k) n f vs s v e = let z : suc (k + n) ≡ suc k + n = omega arith in subst (λ (m : ℕ). applications p m f vs s ≡ Some v) z (applications_more (k + n) f vs s v (applications_later k n f vs s v e))

  pub one_value : (s : State) (e : Expr) (v w : Value) → HasValue p s e v → HasValue p s e w → v ≡ w
  one_value s e v w a b =
      let z : b.0 + a.0 ≡ a.0 + b.0 = omega arith in
      same_Some v w (sym (value_more p (applications p a.0) (applications p (b.0 + a.0)) (applications_later b.0 a.0) s e v a.1) ∙ ap (λ (k : ℕ). value p (applications p k) s e) z
      ∙ value_more p (applications p b.0) (applications p (a.0 + b.0)) (applications_later a.0 b.0) s e w b.1)

  pub all_one_value : (s : State) (es : Exprs) (vs ws : List Value) (n m : ℕ) → values p (applications p n) s es ≡ Some vs → values p (applications p m) s es ≡ Some ws → vs ≡ ws
  all_one_value s es vs ws n m e f =
      let z : m + n ≡ n + m = omega arith in
      same_Some vs ws (sym (values_more p (applications p n) (applications p (m + n)) (applications_later m n) s es vs e) ∙ ap (λ (k : ℕ). values p (applications p k) s es) z
      ∙ values_more p (applications p m) (applications p (n + m)) (applications_later n m) s es ws f)
