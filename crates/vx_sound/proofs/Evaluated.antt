-- What holds of each application that is evaluated with the parts of an expression, holds of each that is evaluated with it.
use Rattle.std.proofs.Common.{◌≡◌, ℕ, zero, suc, ◌≤◌, length, arith, inl, inr, Bool, true, false, cond, List, [], ◌∷◌, Option, Some, None, refl, sym, ◌∙◌, ap, subst, le_refl, true≢false}
use Rattle.std.specs.Prelude.{Ok, Contains}
use Rattle.vx_ast.specs.Syntax.{Name, Program, Connective, And, Or, Implies, as_assertion, Expr, Exprs, Number, Truth, Null, Part, Variable, Not, Operate, Divide, Connect, Choose, Read, Old, Apply, Unfolding, Assertion, Pure, Both}
use Rattle.vx_meaning.specs.Values.{Value, IntValue, BoolValue, RefValue, PermValue, needs_right}
use Rattle.vx_meaning.specs.States as run
use Rattle.vx_meaning.specs.Evaluate.{value_by, values, applications}
use Rattle.vx_meaning.specs.Fits.{Eventually, Fits, fit_all, deeper}
use Rattle.vx_meaning.specs.Fails.{Application, evaluated, applied_to, of_right, chosen}
use Rattle.vx_terms.specs.Interpretations.{Each, as_bool}
use Rattle.vx_elements.proofs.Elements.{element}
use Rattle.vx_elements.proofs.Lists.{each_map, each_append}
use Rattle.vx_sound.proofs.World.{World, IsMeasured, AllMeasured}
use Rattle.vx_sound.proofs.Fuel.{one_value, all_one_value}
use Rattle.vx_sound.proofs.Stripped.{fit_worth, all_fit_worth, evaluated_held}

-- what fits has no other value, by any fuel
pub known : (p : Program) (c : run.State) (e : Expr) (v : Value) → Fits p c e v → (n : ℕ) (w : Value) → value_by p n c e ≡ Some w → w ≡ v
known p c e v f n w h = one_value p c e w v (n, h) (f.0, fit_worth p f.0 c e v (f.1 f.0 (le_refl _)))

pub all_known : (p : Program) (c : run.State) (es : Exprs) (vs : List Value) → Eventually (λ n. fit_all p (deeper p n) c es ≡ Ok vs) → (n : ℕ) (ws : List Value) → values p (applications p n) c es ≡ Some ws → ws ≡ vs
all_known p c es vs f n ws h = all_one_value p c es ws vs n f.0 h (all_fit_worth p f.0 c es vs (f.1 f.0 (le_refl _)))

module _ (P : Application → Type 0) where
  pub right_each : (k : Connective) (o : Option Value) (xs : List Application) → Each P xs → Each P (of_right k o xs)
  right_each k None xs h = tt
  right_each k (Some (BoolValue a)) xs h = go (needs_right k a)
    where
      go : (b : Bool) → Each P (elim b as (λ b. List Application) [ true ↦ xs | false ↦ [] ])
      go true = h
      go false = tt
  right_each k (Some (IntValue z)) xs h = tt
  right_each k (Some (RefValue r)) xs h = tt
  right_each k (Some (PermValue q)) xs h = tt

  -- a right part that isn't needed isn't evaluated
  pub not_needed : (k : Connective) (o : Option Value) (xs : List Application) (left : Value) → ((v : Value) → o ≡ Some v → v ≡ left) → needs_right k (as_bool (element left)) ≡ false → Each P (of_right k o xs)
  not_needed k None xs left h e = tt
  not_needed k (Some (BoolValue a)) xs left h e = go (needs_right k a) (ap (λ (v : Value). needs_right k (as_bool (element v))) (h (BoolValue a) refl) ∙ e)
    where
      go : (b : Bool) → b ≡ false → Each P (elim b as (λ b. List Application) [ true ↦ xs | false ↦ [] ])
      go true e = absurd (true≢false e)
      go false e = tt
  not_needed k (Some (IntValue z)) xs left h e = tt
  not_needed k (Some (RefValue r)) xs left h e = tt
  not_needed k (Some (PermValue q)) xs left h e = tt

  pub either_each : (o : Option Value) (xs ys : List Application) → Each P xs → Each P ys → Each P (chosen o xs ys)
  either_each None xs ys h k = tt
  either_each (Some (BoolValue true)) xs ys h k = h
  either_each (Some (BoolValue false)) xs ys h k = k
  either_each (Some (IntValue z)) xs ys h k = tt
  either_each (Some (RefValue r)) xs ys h k = tt
  either_each (Some (PermValue q)) xs ys h k = tt

  -- only the side that the test picks is evaluated
  pub picked_each : (o : Option Value) (xs ys : List Application) (test : Value) → ((v : Value) → o ≡ Some v → v ≡ test) → (b : Bool) → as_bool (element test) ≡ b → Each P (cond b xs ys) → Each P (chosen o xs ys)
  picked_each None xs ys test h b e k = tt
  picked_each (Some (BoolValue true)) xs ys test h b e k = subst (λ (b : Bool). Each P (cond b xs ys)) (sym e ∙ sym (ap (λ (v : Value). as_bool (element v)) (h (BoolValue true) refl))) k
  picked_each (Some (BoolValue false)) xs ys test h b e k = subst (λ (b : Bool). Each P (cond b xs ys)) (sym e ∙ sym (ap (λ (v : Value). as_bool (element v)) (h (BoolValue false) refl))) k
  picked_each (Some (IntValue z)) xs ys test h b e k = tt
  picked_each (Some (RefValue r)) xs ys test h b e k = tt
  picked_each (Some (PermValue q)) xs ys test h b e k = tt

  pub applied_each : (f : Name) (o : Option (List Value)) (vs : List Value) → ((ws : List Value) → o ≡ Some ws → ws ≡ vs) → P (f, vs) → Each P (applied_to f o)
  applied_each f None vs h k = tt
  applied_each f (Some ws) vs h k = (subst (λ (ws : List Value). P (f, ws)) (sym (h ws refl)) k, tt)

-- so of any one of them
pub of_each : {A : Type 0} (P : A → Type 0) (xs : List A) (a : A) → Each P xs → Contains xs a → P a
of_each P [] a h (n, le, is) = absurd (none le)
  where
    none : suc n ≤ 0 → ⊥
    none le = omega arith
of_each P (x ∷ xs) a h (zero, le, is) = subst P is h.0
of_each P (x ∷ xs) a h (suc n, le, is) = of_each P xs a h.1 (n, less le, is)
  where
    less : suc (suc n) ≤ suc (length xs) → suc n ≤ length xs
    less le = omega arith

-- what is evaluated in the old part of a state
pub old_measured : (w : World) (c : run.State) (xs : List Application) → AllMeasured w (run.at_old c) xs → AllMeasured w c xs
old_measured w c xs h = each_map (IsMeasured w (run.at_old c)) (IsMeasured w c) (λ a k. both a k) xs h
  where
    both : (a : Application) → IsMeasured w (run.at_old c) a → IsMeasured w c a
    both a (inl m) = inr m
    both a (inr m) = inr m

-- where other amounts are held
pub held_measured : (w : World) (hs : run.Holdings) (c : run.State) (n : ℕ) (e : Expr) → AllMeasured w (run.with_holdings hs c) (evaluated w.program n (run.with_holdings hs c) e) → AllMeasured w c (evaluated w.program n c e)
held_measured w hs c n e h = subst (AllMeasured w c) (evaluated_held w.program n hs c e) h

-- of the pure parts of an assertion, and so of an expression that is taken apart at its `&&`
abbrev pub PartsMeasured : World → run.State → Assertion → Type 0
PartsMeasured w c (Pure e) = (n : ℕ) → AllMeasured w c (evaluated w.program n c e)
PartsMeasured w c (Both a b) = PartsMeasured w c a × PartsMeasured w c b
PartsMeasured w c _ = Unit {0}

pub parts_measured : (w : World) (c : run.State) (e : Expr) → PartsMeasured w c (as_assertion e) → (n : ℕ) → AllMeasured w c (evaluated w.program n c e)
parts_measured w c (Connect at And a b) h n =
    each_append (IsMeasured w c) (evaluated w.program n c a) (of_right And (value_by w.program n c a) (evaluated w.program n c b)) (parts_measured w c a h.0 n)
    (right_each (IsMeasured w c) And (value_by w.program n c a) (evaluated w.program n c b) (parts_measured w c b h.1 n))
parts_measured w c (Connect at Or a b) h n = h n
parts_measured w c (Connect at Implies a b) h n = h n
parts_measured w c (Number at z) h n = h n
parts_measured w c (Truth at b) h n = h n
parts_measured w c (Null at) h n = h n
parts_measured w c (Part at a b) h n = h n
parts_measured w c (Variable at x) h n = h n
parts_measured w c (Not at e) h n = h n
parts_measured w c (Operate at op a b) h n = h n
parts_measured w c (Divide at op a b) h n = h n
parts_measured w c (Choose at d a b) h n = h n
parts_measured w c (Read at e f) h n = h n
parts_measured w c (Old at e) h n = h n
parts_measured w c (Apply at f es) h n = h n
parts_measured w c (Unfolding at i es share e) h n = h n
