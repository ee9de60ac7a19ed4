-- The values of amounts, and what amounts are made of, as their first fault tells.
use Rattle.std.proofs.Common.{◌≡◌, ℕ, suc, ◌<◌, Bool, true, false, ◌&&◌, refl, ap, ◌∙◌, subst, Ok, arith}
use Rattle.std.specs.Prelude.{⊤, nat_lt, if◌then◌else◌}
use Rattle.std.proofs.lemmas.Bool.{ltb-true, lt-ltb, false≢true}
use Rattle.vx_ast.specs.declared.Place.{Place}
use Rattle.vx_ast.specs.declared.BinaryOperator.TheVariants as binary
use Rattle.vx_frac.specs.Fractions as number
use Rattle.vx_frac.specs.Fractions.{Fraction}
use Rattle.vx_ast.specs.Written.{Expr, Number, Whole, Nothing, Variable, Binary}
use Rattle.vx_expressions.specs.Places.{place_of}
use Rattle.vx_expressions.specs.Amounts as made
use Rattle.vx_expressions.specs.Amounts.{IsAmount}
use Rattle.vx_expressions.specs.AmountValues as value
use Rattle.vx_expressions.specs.AmountValues.{HasAmount, IsConstantAmount}
use Rattle.vx_expressions.specs.Faults.{◌>>=◌, AmountNotConstant, unless, where_fits, numeral_fits, ratio_of, sum_of, difference_of, product_of, amount_value, constant_amount, amount_made}
use Rattle.vx_expressions.proofs.Passed.{ok_is, not_ok, bound, chosen, tested, and_parts, and_true}

-- what an amount is made of
pub to_made : (e : Expr) (u : ⊤) → amount_made e ≡ Ok u → IsAmount e
to_made (Whole at) u h = made.whole at
to_made (Nothing at) u h = made.nothing at
to_made (Variable at x) u h = made.variable at x
to_made (Binary at binary.Divide (Number p n) (Number q d)) u h = made.fraction at p q n d
to_made (Binary at binary.Divide (Number p n) b) u h = not_ok h
to_made (Binary at binary.Divide a b) u h = not_ok h
to_made (Binary at binary.Add a b) u h = let x = bound (amount_made a) _ u h in made.sum at (to_made a x.0 x.1) (to_made b u x.2)
to_made (Binary at binary.Subtract a b) u h = let x = bound (amount_made a) _ u h in made.difference at (to_made a x.0 x.1) (to_made b u x.2)
to_made (Binary at binary.Multiply (Number p n) b) u h = made.multiple at p n (to_made b u h)
to_made (Binary at binary.Multiply a b) u h = not_ok h
to_made e u h = not_ok h

pub from_made : {e : Expr} → IsAmount e → amount_made e ≡ Ok tt
from_made (made.whole at) = refl
from_made (made.nothing at) = refl
from_made (made.fraction at p q n d) = refl
from_made (made.variable at x) = refl
from_made (made.sum at {b = b} h k) = ap (λ x. x >>= λ u. amount_made b) (from_made h) ∙ from_made k
from_made (made.difference at {b = b} h k) = ap (λ x. x >>= λ u. amount_made b) (from_made h) ∙ from_made k
from_made (made.multiple at p n h) = from_made h

-- its value
ratio_to : (at : Place) (n d : ℕ) (f : Fraction) → ratio_of at n d ≡ Ok f →
    (numeral_fits n ≡ true) × (numeral_fits d ≡ true) × (0 < d) × (number.lowest (number.over n d) ≡ f)
ratio_to at n d f h =
    let c = chosen (numeral_fits n && (numeral_fits d && nat_lt 0 d)) (number.lowest (number.over n d)) f _ h in
    let p = and_parts (numeral_fits n) (numeral_fits d && nat_lt 0 d) c.0 in
    let q = and_parts (numeral_fits d) (nat_lt 0 d) p.1 in
    (p.0, q.0, ltb-true 0 d q.1, c.1)

fitting : (at : Place) (b : Bool) (f : Fraction) → b ≡ true → where_fits at b f ≡ Ok f
fitting at b f e = ap (λ b. where_fits at b f) e

ratio_from : (at : Place) (n d : ℕ) → numeral_fits n ≡ true → numeral_fits d ≡ true → 0 < d → ratio_of at n d ≡ Ok (number.lowest (number.over n d))
ratio_from at n d e f l = fitting at _ _ (and_true _ _ e (and_true _ _ f (lt-ltb 0 d l)))

pub to_value : (e : Expr) (f : Fraction) → amount_value e ≡ Ok f → HasAmount e f
to_value (Whole at) f h = subst (HasAmount (Whole at)) (ok_is h) (value.whole at)
to_value (Nothing at) f h = subst (HasAmount (Nothing at)) (ok_is h) (value.nothing at)
to_value (Binary at binary.Divide (Number p n) (Number q d)) f h =
    let r = ratio_to at n d f h in subst (HasAmount (Binary at binary.Divide (Number p n) (Number q d))) r.3 (value.fraction at p q n d r.0 r.1 r.2)
to_value (Binary at binary.Divide (Number p n) b) f h = not_ok h
to_value (Binary at binary.Divide a b) f h = not_ok h
to_value (Binary at binary.Add a b) f h =
    let x = bound (amount_value a) _ f h in
    let y = bound (amount_value b) _ f x.2 in
    let c = chosen (number.sum_fits x.0 y.0) _ f _ y.2 in
    subst (HasAmount (Binary at binary.Add a b)) c.1 (value.sum at (to_value a x.0 x.1) (to_value b y.0 y.1) c.0)
to_value (Binary at binary.Subtract a b) f h =
    let x = bound (amount_value a) _ f h in
    let y = bound (amount_value b) _ f x.2 in
    let c = chosen (number.difference_fits x.0 y.0) _ f _ y.2 in
    subst (HasAmount (Binary at binary.Subtract a b)) c.1 (value.difference at (to_value a x.0 x.1) (to_value b y.0 y.1) c.0)
to_value (Binary at binary.Multiply (Number p n) b) f h =
    let x = bound (ratio_of at n 1) _ f h in
    let r = ratio_to at n 1 x.0 x.1 in
    let y = bound (amount_value b) _ f x.2 in
    let c = chosen (number.product_fits x.0 y.0) _ f _ y.2 in
    let fits : number.product_fits (number.lowest (number.over n 1)) y.0 ≡ true = ap (λ g. number.product_fits g y.0) r.3 ∙ c.0 in
    subst (HasAmount (Binary at binary.Multiply (Number p n) b)) (ap (λ g. number.lowest (number.product g y.0)) r.3 ∙ c.1)
    (value.multiple at p n (to_value b y.0 y.1) r.0 fits)
to_value (Binary at binary.Multiply a b) f h = not_ok h
to_value e f h = not_ok h

pub from_value : {e : Expr} {f : Fraction} → HasAmount e f → amount_value e ≡ Ok f
from_value (value.whole at) = refl
from_value (value.nothing at) = refl
from_value (value.fraction at p q n d e f l) = ratio_from at n d e f l
from_value (value.sum at {b = b} {f = f} {g = g} h k e) =
    ap (λ x. x >>= λ f. amount_value b >>= λ g. sum_of at f g) (from_value h) ∙ ap (λ x. x >>= λ g. sum_of at f g) (from_value k) ∙ fitting at _ _ e
from_value (value.difference at {b = b} {f = f} {g = g} h k e) =
    ap (λ x. x >>= λ f. amount_value b >>= λ g. difference_of at f g) (from_value h) ∙ ap (λ x. x >>= λ g. difference_of at f g) (from_value k) ∙ fitting at _ _ e
from_value (value.multiple at p n {b = b} {g = g} k e l) =
    ap (λ x. x >>= λ f. amount_value b >>= λ g. product_of at f g) (ratio_from at n 1 e refl (lt-suc 0))
    ∙ ap (λ x. x >>= λ g. product_of at (number.lowest (number.over n 1)) g) (from_value k) ∙ fitting at _ _ l
  where
    lt-suc : (n : ℕ) → n < suc n
    lt-suc n = omega arith

pub to_constant : (e : Expr) (u : ⊤) → constant_amount e ≡ Ok u → IsConstantAmount e
to_constant e u h = let x = bound (amount_value e) _ u h in (x.0, to_value e x.0 x.1, tested (number.is_positive x.0) _ u x.2)

pub from_constant : (e : Expr) → IsConstantAmount e → constant_amount e ≡ Ok tt
from_constant e (f, h, p) =
    ap (λ x. x >>= λ f. unless (number.is_positive f) (AmountNotConstant (place_of e))) (from_value h) ∙ ap (λ b. unless b (AmountNotConstant (place_of e))) p

-- what has a value is made as an amount
made_of : {e : Expr} {f : Fraction} → HasAmount e f → IsAmount e
made_of (value.whole at) = made.whole at
made_of (value.nothing at) = made.nothing at
made_of (value.fraction at p q n d e f l) = made.fraction at p q n d
made_of (value.sum at h k e) = made.sum at (made_of h) (made_of k)
made_of (value.difference at h k e) = made.difference at (made_of h) (made_of k)
made_of (value.multiple at p n k e l) = made.multiple at p n (made_of k)

-- both, as the setting wants them
pub to_amount : (constant : Bool) (e : Expr) (u : ⊤) → (if constant then constant_amount e else amount_made e) ≡ Ok u →
    IsAmount e × (constant ≡ true → IsConstantAmount e)
to_amount true e u h = let k = to_constant e u h in (made_of k.1, λ c. k)
to_amount false e u h = (to_made e u h, λ c. absurd (false≢true c))

pub from_amount : (constant : Bool) (e : Expr) → IsAmount e → (constant ≡ true → IsConstantAmount e) → (if constant then constant_amount e else amount_made e) ≡ Ok tt
from_amount true e h k = from_constant e (k refl)
from_amount false e h k = from_made h
