-- What a satisfied clause leaves of its last literal.
use Rattle.std.proofs.Common.{◌≡◌, Bool, true, false, not, ◌||◌, [], ◌∷◌, ◌++◌, refl, sym, ◌∙◌, ap}
use Rattle.std.specs.Prelude.{◌↔◌}
use Rattle.vx_terms.specs.Terms.{Term, same_bool}
use Rattle.vx_terms.proofs.Same.{bool_is}
use Rattle.vx_terms.proofs.Values.{bool_same}
use Rattle.cs_certificate.specs.Certificate.{Yes, Clause}
use Rattle.cs_classes.specs.Elements.{Assignment}
use Rattle.cs_classes.specs.Agreement.{holds, satisfies}
use Rattle.cs_classes.proofs.Rows.{true_is}

-- ---- a clause of three literals, and of two
-- two denied literals whose terms are true leave the third
pub third_is : (p q r : Bool) → not p || (not q || (r || false)) ≡ true → p ≡ true → q ≡ true → r ≡ true
third_is true true r e f g = true_is r e
third_is true false r e f g = cc
third_is false q r e f g = cc

-- a denied term that is true leaves the other literal
pub where_true : (p r : Bool) → not p || (r || false) ≡ true → p ≡ true → r ≡ true
where_true true r e f = true_is r e
where_true false r e f = cc

-- a term that is false leaves the other literal
pub where_false : (p r : Bool) → p || (r || false) ≡ true → p ≡ false → r ≡ true
where_false true r e f = cc
where_false false r e f = true_is r e

-- ---- a clause with one literal more
-- neither part of a false `||` is true
first_false : (a b : Bool) → a || b ≡ false → a ≡ false
first_false true b e = cc
first_false false b e = refl

rest_false : (a b : Bool) → a || b ≡ false → b ≡ false
rest_false true b e = cc
rest_false false b e = e

-- where the first is false, the rest is true
rest_true : (a b : Bool) → a ≡ false → a || b ≡ true → b ≡ true
rest_true true b e f = cc
rest_true false b e f = f

-- where the others are false, the last one is true
pub last_true : (v : Assignment) (c : Clause) (e : Term) → satisfies v c ≡ false → satisfies v (c ++ Yes e ∷ []) ≡ true → v.truth e ≡ true
last_true v [] e none h = true_is (v.truth e) h
last_true v (l ∷ c) e none h =
    last_true v c e (rest_false (holds v l) (satisfies v c) none) (rest_true (holds v l) (satisfies v (c ++ Yes e ∷ [])) (first_false (holds v l) (satisfies v c) none) h)

-- a denial more is false where its term is true
pub denial_false : (p b : Bool) → p ≡ true → b ≡ false → not p || b ≡ false
denial_false true b e f = f
denial_false false b e f = cc

-- ---- the equality of two truths
-- what is true exactly where two truths are the same
pub same_truths : (p q r : Bool) → same_bool p q ≡ r → (p ≡ q) ↔ (r ≡ true)
same_truths p q r e = (λ f. sym e ∙ ap (same_bool p) (sym f) ∙ bool_same p, λ f. bool_is p q (e ∙ f))
