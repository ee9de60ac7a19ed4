-- What a parse as a number tells of a word without a plus in front.
use Rattle.std.proofs.Common.{◌≡◌, ℕ, ◌≤◌, ◌<◌, ◌^◌, Bool, true, false, nat_eq, ◌&&◌, List, length, get_or, Some, None, Result, Ok, Err, refl, ap, ap₂, arith, eq-eqb}
use Rattle.std.specs.Prelude.{nat_le, if◌then◌else◌}
use Rattle.std.specs.Str.{all_ascii_digits}
use Rattle.std.specs.Str.Parse.{digits_value, ParsesUnsigned}
use Rattle.std.specs.declared.num.ParseIntError.{ParseIntError}
use Rattle.std.proofs.lemmas.Bool.{leb-true, le-leb}
use Rattle.std.proofs.lemmas.Str.Parse.{IsNumeralModel, numerals_by_value, tells_all_ascii_digits, parse_plain}
use Rattle.vx_words.specs.Numbers.{is_numeral, number_in}

abbrev IsDigits : List ℕ → Type 0
IsDigits text = all_ascii_digits text ≡ true

own : IsNumeralModel IsDigits (digits_value 10)
own = numerals_by_value IsDigits tells_all_ascii_digits

-- the parts of a test of two
both : (a b : Bool) → (a && b) ≡ true → (a ≡ true) × (b ≡ true)
both true b e = (refl, e)
both false b e = cc

when_not : (b : Bool) (n : ℕ) → (b ≡ true → ⊥) → None ≡ (if b then Some n else None)
when_not true n h = absurd (h refl)
when_not false n h = refl

no_plus : (text : List ℕ) → nat_eq (get_or text 0 0) 43 ≡ false → get_or text 0 0 ≡ 43 → ⊥
no_plus text plain e = let plus = eq-eqb (get_or text 0 0) 43 e in cc

module _ (least most : ℕ) (text : List ℕ) (plain : nat_eq (get_or text 0 0) 43 ≡ false) where
  abbrev Asks : Bool
  Asks = is_numeral text && (nat_le least (digits_value 10 text) && nat_le (digits_value 10 text) most)

  pub read : (n : ℕ) → (let r : Result ℕ ParseIntError = Ok n in ParsesUnsigned 64 10 text r) → least ≤ n → n ≤ most → Some n ≡ number_in least most text
  read n h many few =
      let r : Result ℕ ParseIntError = Ok n in
      let told = parse_plain own 64 text r h (no_plus text plain) in
      let within = ap₂ ◌&&◌ (le-leb least (digits_value 10 text) (omega (arith, told.1))) (le-leb (digits_value 10 text) most (omega (arith, told.1))) in
      let asks : Asks ≡ true = ap₂ ◌&&◌ (ap₂ ◌&&◌ (le-leb 1 (length text) told.0.1) told.0.0) within in
      rw (asks) (ap Some told.1)

  pub unread : most < 2 ^ 64 → (e : ParseIntError) → (let r : Result ℕ ParseIntError = Err e in ParsesUnsigned 64 10 text r) → None ≡ number_in least most text
  unread fits e h =
      let r : Result ℕ ParseIntError = Err e in
      let told = parse_plain own 64 text r h (no_plus text plain) in
      when_not Asks (digits_value 10 text) (λ asks.
      let parts = both (is_numeral text) _ asks in
      let digits = both (nat_le 1 (length text)) _ parts.0 in
      let within = both (nat_le least (digits_value 10 text)) _ parts.1 in
      told (digits.1, leb-true 1 (length text) digits.0, omega (arith, fits, leb-true (digits_value 10 text) most within.1)))
