-- Numbers of 32 bits are small.
use Rattle.std.proofs.Common.{ℕ, suc, List, [], ◌∷◌, get_or, Fits, w32, arith}
use Rattle.vx_terms.specs.Interpretations.{Each}
use Rattle.cs_writable.specs.Writable.{IsSmall}

pub all_small : (ns : List ℕ) → ((i : ℕ) → Fits w32 (get_or ns i 0)) → Each IsSmall ns
all_small [] h = tt
all_small (n ∷ ns) h = (let first = h 0 in omega arith, all_small ns (λ i. h (suc i)))
