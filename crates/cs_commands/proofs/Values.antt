-- The value of an option.
use Rattle.std.proofs.Common.{◌≡◌, ℕ, zero, suc, ◌<◌, List, ◌∷◌, refl, arith}
use Rattle.vx_sexp.specs.declared.token.Token.{Token}
use Rattle.vx_sexp.specs.First.{after}
use Rattle.cs_commands.specs.Commands.{behind_lists}

-- a token within lists
pub within_lists : (n : ℕ) (t : Token) (ts : List Token) → 0 < n → behind_lists n (t ∷ ts) ≡ behind_lists (after n t) ts
within_lists zero t ts h = absurd (omega arith)
within_lists (suc n) t ts h = refl
