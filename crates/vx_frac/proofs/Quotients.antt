-- The order of two quotients, by their whole parts and what is left.
use Rattle.std.proofs.Common.{◌≡◌, ℕ, ◌+◌, ◌*◌, ◌/◌, ◌%◌, ◌<◌, ◌≤◌, ◌↔◌, refl, subst, sym, arith}
use Rattle.std.proofs.Math.Nat.{mul-le-mul_left, mul-le-mul_right, mul-lt-mul_of_pos_right, lt-mul-div-succ}
use Rattle.std.specs.Prelude.{Bool, true, false, nat_lt}
use Rattle.std.proofs.lemmas.Bool.{ltb-true, ltb-false}

-- a wider whole part
wider : (a b c d : ℕ) → 0 < b → 0 < d → a / b < c / d → a * d < c * b
wider a b c d h k lt =
    let up : a < b * (a / b + 1) = lt-mul-div-succ a h in
    let down : d * (c / d) ≤ c = omega arith in
    let steps : a / b + 1 ≤ c / d = omega arith in
    let first : a * d < b * (a / b + 1) * d = mul-lt-mul_of_pos_right up k in
    let second : b * (a / b + 1) * d ≤ b * (c / d) * d = mul-le-mul_right d (mul-le-mul_left b steps) in
    let third : b * (d * (c / d)) ≤ b * c = mul-le-mul_left b down in
    omega arith

pub by_whole : (a b c d : ℕ) → 0 < b → 0 < d → (a / b ≡ c / d → ⊥) → (a / b < c / d) ↔ (a * d < c * b)
by_whole a b c d h k ne = (wider a b c d h k, λ lt. back lt (nat_lt (a / b) (c / d)) refl)
  where
    back : a * d < c * b → (t : Bool) → nat_lt (a / b) (c / d) ≡ t → a / b < c / d
    back lt true e = ltb-true _ _ e
    back lt false e =
        let y : c / d ≤ a / b = ltb-false _ _ e in
        let x : c / d < a / b = omega arith in
        let z : c * b < a * d = wider c d a b k h x in
        absurd (omega arith)

widths : (q r s b d : ℕ) → ((b * q + r) * d < (d * q + s) * b) ↔ (r * d < s * b)
widths q r s b d = (λ h. omega arith, λ h. omega arith)

pub by_rest : (a b c d : ℕ) → 0 < b → 0 < d → a / b ≡ c / d → (a * d < c * b) ↔ ((a % b) * d < (c % d) * b)
by_rest a b c d h k e =
    let x : b * (a / b) + a % b ≡ a = omega arith in
    let y : d * (a / b) + c % d ≡ c = subst (λ (n : ℕ). d * n + c % d ≡ c) (sym e) (omega arith) in
    subst (λ (n : ℕ). (n * d < c * b) ↔ ((a % b) * d < (c % d) * b)) x
    (subst (λ (n : ℕ). ((b * (a / b) + a % b) * d < n * b) ↔ ((a % b) * d < (c % d) * b)) y (widths (a / b) (a % b) (c % d) b d))
