-- What wraps may be wrapped before it is mixed.
use Rattle.std.proofs.Common.{◌≡◌, ℕ, ◌+◌, ◌*◌, ◌%◌, ◌^◌, ap}
use Rattle.std.proofs.Math.Nat.{add-mod-mod}
use Rattle.cs_index.specs.Keys.{mixed}

pub mixed_wrapped : (a n : ℕ) → mixed a (n % 2 ^ 64) ≡ mixed a n
unfolding mixed
mixed_wrapped a n = ap (λ x. x * ((x * 2 % 2 ^ 64 + 1) % 2 ^ 64) % 2 ^ 64) (add-mod-mod (a * 11400714819323198485 % 2 ^ 64) n (2 ^ 64))
