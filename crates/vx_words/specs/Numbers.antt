-- The number that a word writes: digits alone.
use Rattle.std.specs.Prelude.{ℕ, Bool, ◌&&◌, List, length, Option, Some, None, nat_le, if◌then◌else◌}
use Rattle.std.specs.Str.{all_ascii_digits}
use Rattle.std.specs.Str.Parse.{digits_value}

-- there is a digit, and nothing else
abbrev pub is_numeral : List ℕ → Bool
is_numeral text = nat_le 1 (length text) && all_ascii_digits text

-- the number, if it is at least `least` and at most `most`
abbrev pub number_in : (least most : ℕ) → List ℕ → Option ℕ
number_in least most text =
    let number = digits_value 10 text in
    if is_numeral text && (nat_le least number && nat_le number most) then Some number else None
