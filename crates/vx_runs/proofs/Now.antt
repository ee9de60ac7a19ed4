-- What has no `old` has one value in all states with the same variables and the same heap.
use Rattle.std.proofs.Common.{◌≡◌, ℕ, zero, suc, List, ◌∷◌, Option, Some, None, refl, sym, ◌∙◌, ap, ap₂}
use Rattle.std.specs.Prelude.{option_and_then}
use Rattle.vx_ast.specs.Syntax.{Name, Program, Function, function_named, Expr, Number, Truth, Null, Part, Variable, Not, Operate, Divide, Connect, Choose, Read, Old, Apply, Unfolding, Exprs, NoMore, More}
use Rattle.vx_meaning.specs.Values.{Value, IntValue, BoolValue, RefValue, PermValue, negated, operated, divided}
use Rattle.vx_meaning.specs.States.{State, Heap, lookup, bind, value_at, with_store}
use Rattle.vx_meaning.specs.Evaluate.{choose, connected, read, applications, value, values}
use Rattle.vx_types.specs.Now.{IsOfNow, AreOfNow}

pub record IsSameNow (s t : State) : Type 0 where
  pub store : t.store ≡ s.store
  pub heap : t.heap ≡ s.heap

read_same : (p : Program) (s t : State) (f : Name) → s.heap ≡ t.heap → (v : Value) → read p s f v ≡ read p t f v
read_same p s t f e (RefValue r) = ap (λ (h : Heap). Some (value_at p h record { receiver = r; field = f })) e
read_same p s t f e (IntValue z) = refl
read_same p s t f e (BoolValue b) = refl
read_same p s t f e (PermValue q) = refl

module _ (p : Program) (now : (f : Name) (g : Function) → function_named p f ≡ Some g → IsOfNow g.body) where
  abbrev AppliesNow : ℕ → Type 0
  AppliesNow n = (f : Name) (vs : List Value) (s t : State) → IsSameNow s t → applications p n f vs s ≡ applications p n f vs t

  module _ (n : ℕ) (below : AppliesNow n) where
    abbrev worth : State → Expr → Option Value
    worth s e = value p (applications p n) s e

    mutual
      value_same : (s t : State) → IsSameNow s t → (e : Expr) → IsOfNow e → value p (applications p n) s e ≡ value p (applications p n) t e
      value_same s t k (Number at z) w = refl
      value_same s t k (Truth at b) w = refl
      value_same s t k (Null at) w = refl
      value_same s t k (Part at a b) w = refl
      value_same s t k (Variable at x) w = ap (lookup x) (sym k.store)
      value_same s t k (Not at e) w = ap (option_and_then negated) (value_same s t k e w)
      value_same s t k (Operate at op a b) w = ap₂ (λ (o m : Option Value). option_and_then (λ v. option_and_then (λ w. operated op v w) m) o) (value_same s t k a w.0) (value_same s t k b w.1)
      value_same s t k (Divide at op a b) w = ap₂ (λ (o m : Option Value). option_and_then (λ v. option_and_then (λ w. divided op v w) m) o) (value_same s t k a w.0) (value_same s t k b w.1)
      value_same s t k (Connect at c a b) w = ap₂ (λ (o m : Option Value). option_and_then (λ v. connected c v m) o) (value_same s t k a w.0) (value_same s t k b w.1)
      value_same s t k (Choose at c a b) w =
          ap₂ (λ (o m : Option Value). option_and_then (λ v. choose v m (worth s b)) o) (value_same s t k c w.0) (value_same s t k a w.1)
          ∙ ap (λ (m : Option Value). option_and_then (λ v. choose v (worth t a) m) (worth t c)) (value_same s t k b w.2)
      value_same s t k (Read at e f) w =
          ap (option_and_then (read p s f)) (value_same s t k e w)
          ∙ ap (λ (r : Value → Option Value). option_and_then r (value p (applications p n) t e)) (λ i v. read_same p s t f (sym k.heap) v i)
      value_same s t k (Old at e) w = absurd w
      value_same s t k (Apply at f es) w =
          ap (option_and_then (λ vs. applications p n f vs s)) (values_same s t k es w)
          ∙ ap (λ (r : List Value → Option Value). option_and_then r (values p (applications p n) t es)) (λ i vs. below f vs s t k i)
      value_same s t k (Unfolding at i es share e) w = value_same s t k e w.2

      values_same : (s t : State) → IsSameNow s t → (es : Exprs) → AreOfNow es → values p (applications p n) s es ≡ values p (applications p n) t es
      values_same s t k NoMore w = refl
      values_same s t k (More e es) w = ap₂ (λ (o : Option Value) (m : Option (List Value)). option_and_then (λ v. option_and_then (λ vs. Some (v ∷ vs)) m) o) (value_same s t k e w.0) (values_same s t k es w.1)

  pub applies_now : (n : ℕ) → AppliesNow n
  applies_now zero f vs s t k = refl
  applies_now (suc n) f vs s t k = go (applies_now n) (function_named p f) refl
    where
      go : AppliesNow n → (o : Option Function) → function_named p f ≡ o → option_and_then (λ g. value p (applications p n) (with_store (bind g.parameters vs) s) g.body) o ≡ option_and_then (λ g. value p (applications p n) (with_store (bind g.parameters vs) t) g.body) o
      go below None e = refl
      go below (Some g) e = value_same n below (with_store (bind g.parameters vs) s) (with_store (bind g.parameters vs) t) (record { store = refl; heap = k.heap }) g.body (now f g e)

  pub value_now : (n : ℕ) (s t : State) → IsSameNow s t → (e : Expr) → IsOfNow e → value p (applications p n) s e ≡ value p (applications p n) t e
  value_now n = value_same n (applies_now n)

  pub values_now : (n : ℕ) (s t : State) → IsSameNow s t → (es : Exprs) → AreOfNow es → values p (applications p n) s es ≡ values p (applications p n) t es
  values_now n = values_same n (applies_now n)
