-- What a taking took, with signs turned, and small facts about checks.
use Rattle.std.proofs.Common.{◌≡◌, zero, suc, ℤ, pos, negsuc, neg_ℤ, [], ◌∷◌, ◌++◌, refl, ◌∙◌, ap}
use Rattle.std.specs.Prelude.{Ok, Err}
use Rattle.vx_ast.specs.declared.Place.{Place}
use Rattle.vx_frac.specs.Fractions.{Fraction, minus}
use Rattle.vx_meaning.specs.States.{Holdings, Resource}
use Rattle.vx_meaning.specs.Fits.{Checked}
use Rattle.vx_runs.specs.Whole.{given_back}

pub err_ok : {A : Type 0} (at : Place) (b : A) → ◌≡◌ {A = Checked A} (Err at) (Ok b) → ⊥
err_ok at b e = cc

pub ok_is : {A : Type 0} (a b : A) → ◌≡◌ {A = Checked A} (Ok a) (Ok b) → a ≡ b
ok_is a b e = cc

-- the entries as taking puts them in front
abbrev pub mirrored : Holdings → Holdings
mirrored [] = []
mirrored (e ∷ rest) = (e.0, minus e.1) ∷ mirrored rest

pub assoc : (xs ys zs : Holdings) → (xs ++ ys) ++ zs ≡ xs ++ (ys ++ zs)
assoc [] ys zs = refl
assoc (x ∷ xs) ys zs = ap (λ (z : Holdings). x ∷ z) (assoc xs ys zs)

pub mirrored_both : (xs ys : Holdings) → mirrored (xs ++ ys) ≡ mirrored xs ++ mirrored ys
mirrored_both [] ys = refl
mirrored_both (x ∷ xs) ys = ap (λ (z : Holdings). (x.0, minus x.1) ∷ z) (mirrored_both xs ys)

neg_neg : (z : ℤ) → neg_ℤ (neg_ℤ z) ≡ z
neg_neg (pos zero) = refl
neg_neg (pos (suc n)) = refl
neg_neg (negsuc n) = refl

minus_minus : (a : Fraction) → minus (minus a) ≡ a
minus_minus a = ap (λ (z : ℤ). (let b : Fraction = record { numerator = z; below = a.below } in b)) (neg_neg a.numerator)

pub back_again : (xs : Holdings) → given_back (mirrored xs) ≡ xs
back_again [] = refl
back_again (x ∷ xs) = ap (λ (q : Fraction). (let e : Resource × Fraction = (x.0, q) in e) ∷ given_back (mirrored xs)) (minus_minus x.1) ∙ ap (λ (z : Holdings). x ∷ z) (back_again xs)
