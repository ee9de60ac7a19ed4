-- Which bytes are text.
use Rattle.std.proofs.Common.{◌≡◌, ℕ, Bool, true, false, List, refl}
use Rattle.std.specs.Str.{is_utf8, IsUtf8}
use Rattle.std.proofs.lemmas.Str.{IsUtf8-from_is_utf8, is_utf8-from_IsUtf8}

pub not_utf8 : (bytes : List ℕ) → (IsUtf8 bytes → ⊥) → is_utf8 bytes ≡ false
not_utf8 bytes refuted = go (is_utf8 bytes) refl
  where
    go : (b : Bool) → is_utf8 bytes ≡ b → is_utf8 bytes ≡ false
    go true e = absurd (refuted (IsUtf8-from_is_utf8 bytes e))
    go false e = e

pub in_utf8 : (bytes : List ℕ) → IsUtf8 bytes → is_utf8 bytes ≡ true
in_utf8 bytes is = is_utf8-from_IsUtf8 bytes is
