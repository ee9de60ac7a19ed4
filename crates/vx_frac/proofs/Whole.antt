-- A whole number over 1 is in lowest terms.
use Rattle.std.proofs.Common.{◌≡◌, ℕ, suc, ◌*◌, ◌/◌, ℤ, pos, negsuc, neg_ℤ, nat_abs, ap, arith}
use Rattle.vx_frac.specs.Fractions.{lowest, whole, with_sign}
use Rattle.vx_frac.specs.Fraction.{ratio}

with_size : (z : ℤ) → with_sign z ((nat_abs z * 1) / 1) ≡ z
with_size (pos n) = ap pos (omega arith)
with_size (negsuc n) = ap (λ (m : ℕ). neg_ℤ (pos m)) with_one where
  with_one : (suc n * 1) / 1 ≡ suc n
  with_one = omega arith

pub lowest_whole : (z : ℤ) → lowest (ratio z (pos 1)) ≡ whole z
unfolding lowest
lowest_whole z = ap whole (with_size z)
