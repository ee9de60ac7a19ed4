-- A step of a supply.
use Rattle.std.proofs.Common.{◌≡◌, ◌≢◌, ℕ, zero, suc, ◌-◌, Ok, Err, refl, ap, arith}
use Rattle.vx_run.specs.Going.{Running, step}

pub no_step : (s n : ℕ) → n ≡ 0 → Err Running ≡ step record { source = s; steps = n }
no_step s zero e = refl
no_step s (suc n) e = absurd (omega (arith, e))

pub one_step : (s n : ℕ) → n ≢ 0 → Ok (tt, record { source = s; steps = n - 1 }) ≡ step record { source = s; steps = n }
one_step s zero h = absurd (h refl)
one_step s (suc n) h = ap (λ (k : ℕ). Ok (tt, record { source = s; steps = k })) (omega arith)
