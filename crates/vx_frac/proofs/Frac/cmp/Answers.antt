use Rattle.std.proofs.Common.{◌≡◌, ◌∙◌, ℤ, ◌*ℤ◌, to_z, of_z, int_cmp, Option, None, Some, SomeIff, FitsSigned, refl, sym, ap₂, subst, rules}
use Rattle.std.proofs.lemmas.Int.{to_z-of_z}
use Rattle.std.specs.Int.{w128}
use Rattle.vx_frac.specs.Fraction.{fraction}
use Rattle.vx_frac.specs.Fractions.{denominator}
use Rattle.vx_frac.proofs.Fits.{cross_does}
use Rattle.vx_frac.proofs.Frac.cmp.Goals as goal

held : (o : Option ℤ) (P : Type 0) (v x : ℤ) → SomeIff o P v → o ≡ Some x → P
held None P v x h e = absurd (cc)
held (Some y) P v x h e = h.0

-- a product that fits is that of the numbers
product_of : (o : Option ℤ) (n d p x y : ℤ) → SomeIff o (FitsSigned w128 (to_z w128 (of_z w128 n) *ℤ to_z w128 (of_z w128 d))) (to_z w128 (of_z w128 n) *ℤ to_z w128 (of_z w128 d)) → o ≡ Some p →
    FitsSigned w128 n → FitsSigned w128 d → n ≡ x → d ≡ y → to_z w128 (of_z w128 p) ≡ x *ℤ y
product_of None n d p x y h is f g en ed = absurd (cc)
product_of (Some z) n d p x y h is f g en ed =
    let same : p ≡ z = cc in
    let e : p ≡ to_z w128 (of_z w128 n) *ℤ to_z w128 (of_z w128 d) = same ∙ h.1 in
    to_z-of_z w128 p (subst (λ (v : ℤ). FitsSigned w128 v) (sym e) h.0) ∙ e ∙ ap₂ (λ (v w : ℤ). v *ℤ w) (to_z-of_z w128 n f ∙ en) (to_z-of_z w128 d g ∙ ed)

pub returns-clause-value : goal.returns-clause-value
returns-clause-value c =
    let l = product_of c.checked_mul.result c.num.result c.den.result c.in_ok-left.left (fraction c.args.self).numerator (denominator (fraction c.args.other)) c.checked_mul.ensures c.in_ok-left.ensures.ok_part
    record { sfits = c.num.type_inv } record { sfits = c.den.type_inv } c.num.ensures c.den.ensures.value in
    let r = product_of c.checked_mul-2.result c.num-2.result c.den-2.result c.in_ok-right.right (fraction c.args.other).numerator (denominator (fraction c.args.self)) c.checked_mul-2.ensures c.in_ok-right.ensures.ok_part
    record { sfits = c.num-2.type_inv } record { sfits = c.den-2.type_inv } c.num-2.ensures c.den-2.ensures.value in
    c.cmp.ensures ∙ ap₂ int_cmp l r

pub returns-clause-fits : goal.returns-clause-fits
returns-clause-fits c =
    let fl : FitsSigned w128 c.num.result = record { sfits = c.num.type_inv } in
    let fe : FitsSigned w128 c.den.result = record { sfits = c.den.type_inv } in
    let fr : FitsSigned w128 c.num-2.result = record { sfits = c.num-2.type_inv } in
    let fd : FitsSigned w128 c.den-2.result = record { sfits = c.den-2.type_inv } in (
      λ e.
          cross_does (fraction c.args.self) (fraction c.args.other) c.num.result c.den.result c.num-2.result c.den-2.result fl fe fr fd
          (held _ _ _ _ c.checked_mul.ensures c.in_ok-left.ensures.ok_part) (held _ _ _ _ c.checked_mul-2.ensures c.in_ok-right.ensures.ok_part)
          c.num.ensures c.den.ensures.value c.num-2.ensures c.den-2.ensures.value,
      λ h. refl,
    )

pub returns-in_err-left-clause-fits : goal.returns-in_err-left-clause-fits
returns-in_err-left-clause-fits c = search rules

pub returns-in_err-right-clause-fits : goal.returns-in_err-right-clause-fits
returns-in_err-right-clause-fits c = search rules
