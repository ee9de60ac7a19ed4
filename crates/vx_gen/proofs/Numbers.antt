-- The digits of a number below the limit.
use Rattle.std.proofs.Common.{◌≡◌, ◌∙◌, ℕ, ◌+◌, ◌-◌, ◌*◌, ◌^◌, ◌≤◌, ◌<◌, List, [], ◌∷◌, length, true, false, ltb, refl, arith}
use Rattle.std.specs.Fmt.{decimal}
use Rattle.std.specs.Char.{digit_value}
use Rattle.std.specs.Str.Parse.{AllDigits, digits_value_after}
use Rattle.std.specs.Str.{IsAscii}
use Rattle.std.proofs.lemmas.Fmt.{decimal_is_IsNumeral_wide, length-decimal-le_wide, IsAscii-decimal_wide}
use Rattle.vx_tokens.specs.Text.{is_digit, value_of, value_from, max_numeral, IsNumeral, AreAll}

is_decimal_digit : (c : ℕ) → digit_value c < 10 → (is_digit c ≡ true) × (digit_value c ≡ c - 48)
is_decimal_digit c h = grind arith

all_digits : (ds : List ℕ) → AllDigits 10 ds → AreAll is_digit ds
all_digits [] h = tt
all_digits (d ∷ ds) h = ((is_decimal_digit d h.0).0, all_digits ds h.1)

same_value : (n : ℕ) (ds : List ℕ) → AllDigits 10 ds → value_from n ds ≡ digits_value_after 10 n ds
same_value n [] h = refl
same_value n (d ∷ ds) h =
    let e : 10 * n + (d - 48) ≡ n * 10 + digit_value d = let v = (is_decimal_digit d h.0).1 in rw v (omega arith) in
    rw e (same_value (n * 10 + digit_value d) ds h.1)

some_digits : (ds : List ℕ) → 0 < length ds → AreAll is_digit ds → IsNumeral ds
some_digits [] some h = absurd (omega (arith, some))
some_digits (d ∷ ds) some h = h

below : (n : ℕ) → n ≤ 2000 → n < 10 ^ 64
below n h = omega (arith, h)

pub decimal_digits : (n : ℕ) → n ≤ 2000 → AreAll is_digit (decimal n)
decimal_digits n h = let d = decimal_is_IsNumeral_wide n (below n h) in all_digits (decimal n) d.0.1

pub numeral_is : (n : ℕ) → n ≤ 2000 → IsNumeral (decimal n) × (value_of (decimal n) ≡ n)
numeral_is n h =
    let d = decimal_is_IsNumeral_wide n (below n h) in
    (some_digits (decimal n) d.0.0 (all_digits (decimal n) d.0.1), same_value 0 (decimal n) d.0.1 ∙ d.1)

pub numeral_long : (x : List ℕ) → IsNumeral x → 1 ≤ length x
numeral_long [] w = absurd w
numeral_long (c ∷ cs) w = omega arith

pub not_wide : (n : ℕ) → n ≤ 2000 → ltb max_numeral n ≡ false
not_wide n h = grind (arith, h)

pub four_digits : (n : ℕ) → n ≤ 2000 → length (decimal n) ≤ 4
four_digits n h = length-decimal-le_wide 4 n (omega arith) (omega (arith, h)) (below n h)

pub decimal_ascii : (n : ℕ) → n ≤ 2000 → IsAscii (decimal n)
decimal_ascii n h = IsAscii-decimal_wide n (below n h)
