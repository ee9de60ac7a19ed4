-- Values, entries and trees look at the variables and the heap alone, not at what is held.
use Rattle.std.proofs.Common.{◌≡◌, List, ◌∷◌, Option, Some, None, refl, ◌∙◌, ap, ap₂}
use Rattle.std.specs.Prelude.{option_and_then}
use Rattle.vx_ast.specs.Syntax.{Name, Program, Expr, Number, Truth, Null, Part, Variable, Not, Operate, Divide, Connect, Choose, Read, Old, Apply, Unfolding, Exprs, NoMore, More}
use Rattle.vx_meaning.specs.Values.{Value, IntValue, BoolValue, RefValue, PermValue, negated, operated, divided}
use Rattle.vx_meaning.specs.States.{State, Heap, lookup, value_at}
use Rattle.vx_meaning.specs.Evaluate.{Applications, value, values, read, choose, connected}
use Rattle.vx_meaning.specs.Flatten.{no_applications}
use Rattle.vx_sound_preds.specs.Bodies.{IsPlain, ArePlain}

pub record Sees (s t : State) : Type 0 where
  pub store : t.store ≡ s.store
  pub heap : t.heap ≡ s.heap

read_seen : (p : Program) (s t : State) (f : Name) → Sees s t → (o : Option Value) → option_and_then (read p t f) o ≡ option_and_then (read p s f) o
read_seen p s t f k None = refl
read_seen p s t f k (Some (RefValue r)) = ap (λ (h : Heap). Some (value_at p h record { receiver = r; field = f })) k.heap
read_seen p s t f k (Some (IntValue z)) = refl
read_seen p s t f k (Some (BoolValue z)) = refl
read_seen p s t f k (Some (PermValue z)) = refl

-- what applies nothing has its value whatever applications have
module _ (p : Program) (there here : Applications) (s t : State) (k : Sees s t) where
  mutual
    pub plain_value : (e : Expr) → IsPlain e → value p there t e ≡ value p here s e
    plain_value (Number at n) h = refl
    plain_value (Truth at b) h = refl
    plain_value (Null at) h = refl
    plain_value (Part at n m) h = refl
    plain_value (Variable at x) h = ap (lookup x) k.store
    plain_value (Not at e) h = ap (option_and_then negated) (plain_value e h)
    plain_value (Operate at op a b) h = ap₂ (λ (o m : Option Value). option_and_then (λ v. option_and_then (λ w. operated op v w) m) o) (plain_value a h.0) (plain_value b h.1)
    plain_value (Divide at op a b) h = ap₂ (λ (o m : Option Value). option_and_then (λ v. option_and_then (λ w. divided op v w) m) o) (plain_value a h.0) (plain_value b h.1)
    plain_value (Connect at c a b) h = ap₂ (λ (o m : Option Value). option_and_then (λ v. connected c v m) o) (plain_value a h.0) (plain_value b h.1)
    plain_value (Choose at c a b) h =
        ap₂ (λ (o m : Option Value). option_and_then (λ v. choose v m (value p there t b)) o) (plain_value c h.0) (plain_value a h.1)
        ∙ ap (λ (m : Option Value). option_and_then (λ v. choose v (value p here s a) m) (value p here s c)) (plain_value b h.2)
    plain_value (Read at e f) h = read_seen p s t f k (value p there t e) ∙ ap (option_and_then (read p s f)) (plain_value e h)
    plain_value (Old at e) h = absurd h
    plain_value (Apply at f es) h = absurd h
    plain_value (Unfolding at i es share e) h = plain_value e h.2

    pub plain_values : (es : Exprs) → ArePlain es → values p there t es ≡ values p here s es
    plain_values NoMore h = refl
    plain_values (More e es) h = ap₂ (λ (o : Option Value) (m : Option (List Value)). option_and_then (λ v. option_and_then (λ vs. Some (v ∷ vs)) m) o) (plain_value e h.0) (plain_values es h.1)

module _ (p : Program) (s t : State) (k : Sees s t) where
  pub value_seen : (e : Expr) → IsPlain e → value p no_applications t e ≡ value p no_applications s e
  value_seen e h = plain_value p no_applications no_applications s t k e h

  pub values_seen : (es : Exprs) → ArePlain es → values p no_applications t es ≡ values p no_applications s es
  values_seen es h = plain_values p no_applications no_applications s t k es h
