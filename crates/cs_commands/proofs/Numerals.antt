-- Numerals are read back.
use Rattle.std.proofs.Common.{◌≡◌, ℕ, zero, suc, ◌≤◌, ◌<◌, ◌+◌, ◌-◌, ◌*◌, ◌/◌, ◌%◌, ◌++◌, ◌==◌, ◌&&◌, nat_eq, nat_lt, Bool, true, false, List, [], ◌∷◌, Option, Some, None, length, refl, arith, ap, ap₂, ◌∙◌, sym, eqb-true, true≢false, append_assoc, append-nil}
use Rattle.std.specs.Prelude.{if◌then◌else◌}
use Rattle.std.specs.Option.{option_and_then}
use Rattle.std.proofs.lemmas.Grind.{common_steps}
use Rattle.std.proofs.lemmas.Bool.{lt-ltb}
use Rattle.vx_sexp.specs.Characters.{is_digit}
use Rattle.vx_sexp.specs.Tokens.{is_numeral}
use Rattle.vx_smt_meaning.specs.Words as written
use Rattle.vx_smt_text.proofs.Digits.{digits_none, digits_more}
use Rattle.vx_smt_text.proofs.Words.{numeral_is}
use Rattle.cs_commands.specs.Names.{with_digit, digits, number_below}

-- ---- a number's numeral is read as that number

digit_of : (d : ℕ) → d < 10 → is_digit (48 + d) ≡ true
unfolding is_digit
digit_of d h = grind (arith, common_steps)

digit_step : (limit m d : ℕ) → d < 10 → m * 10 + d < limit → with_digit limit m (48 + d) ≡ Some (m * 10 + d)
digit_step limit m d small below =
    let less : 48 + d - 48 ≡ d = omega arith in
    rw (digit_of d small, less, lt-ltb (m * 10 + d) limit below) refl

digits_last : (limit a : ℕ) (xs : List ℕ) (d : ℕ) → digits limit a (xs ++ d ∷ []) ≡ option_and_then (λ m. with_digit limit m d) (digits limit a xs)
digits_last limit a [] d = alone (with_digit limit a d)
  where
    alone : (o : Option ℕ) → option_and_then (λ m. Some m) o ≡ o
    alone None = refl
    alone (Some m) = refl
digits_last limit a (x ∷ xs) d = more (with_digit limit a x) (λ m. digits_last limit m xs d)
  where
    more : (o : Option ℕ) → ((m : ℕ) → digits limit m (xs ++ d ∷ []) ≡ option_and_then (λ n. with_digit limit n d) (digits limit m xs)) →
        option_and_then (λ m. digits limit m (xs ++ d ∷ [])) o ≡ option_and_then (λ n. with_digit limit n d) (option_and_then (λ m. digits limit m xs) o)
    more None f = refl
    more (Some m) f = f m

digits_by : (limit k n : ℕ) → n ≤ k → n < limit → digits limit 0 (written.digits n) ≡ Some n
digits_by limit k zero e h = ap (digits limit 0) (digits_none 0 refl)
digits_by limit zero (suc n) e h = absurd (omega arith)
digits_by limit (suc k) (suc n) e h =
    let before : digits limit 0 (written.digits (suc n / 10)) ≡ Some (suc n / 10) = digits_by limit k (suc n / 10) (omega arith) (omega arith) in
    let whole : suc n / 10 * 10 + suc n % 10 ≡ suc n = omega arith in
    ap (digits limit 0) (digits_more (suc n) (omega arith))
    ∙ digits_last limit 0 (written.digits (suc n / 10)) (48 + suc n % 10)
    ∙ ap (option_and_then (λ m. with_digit limit m (48 + suc n % 10))) before
    ∙ digit_step limit (suc n / 10) (suc n % 10) (omega arith) (omega arith)
    ∙ ap Some whole

digits_back : (limit n : ℕ) → n < limit → digits limit 0 (written.numeral n) ≡ Some n
unfolding written.numeral
digits_back limit zero h = ap (option_and_then (λ m. Some m)) (digit_step limit 0 0 (omega arith) h)
digits_back limit (suc n) h =
    let some : (suc n == 0) ≡ false = grind (arith, common_steps) in
    rw some (digits_by limit (suc n) (suc n) (omega arith) h)

as_digits : (limit : ℕ) (xs : List ℕ) → is_numeral xs ≡ true → number_below limit xs ≡ digits limit 0 xs
as_digits limit [] e = absurd (cc)
as_digits limit (b ∷ []) e = none (nat_eq b 48)
  where
    none : (c : Bool) → (if (c && false) then None else digits limit 0 (b ∷ [])) ≡ digits limit 0 (b ∷ [])
    none true = refl
    none false = refl
as_digits limit (b ∷ c ∷ cs) e = let other : nat_eq b 48 ≡ false = grind (arith, common_steps) in rw other refl

pub number_back : (limit n : ℕ) → n < limit → number_below limit (written.numeral n) ≡ Some n
number_back limit n h = as_digits limit (written.numeral n) (numeral_is n).0 ∙ digits_back limit n h

-- ---- what is read as a number is its numeral

digit_least : (d : ℕ) → is_digit d ≡ true → (48 ≤ d) × (d < 58)
unfolding is_digit
digit_least d e = (grind (arith, common_steps), grind (arith, common_steps))

more_digits : (a d : ℕ) → 0 < a → is_digit d ≡ true → written.digits (a * 10 + (d - 48)) ≡ written.digits a ++ d ∷ []
more_digits a d some e =
    let small = digit_least d e in
    let front : (a * 10 + (d - 48)) / 10 ≡ a = omega (arith, small.0, small.1) in
    let last : 48 + (a * 10 + (d - 48)) % 10 ≡ d = omega (arith, small.0, small.1) in
    digits_more (a * 10 + (d - 48)) (omega arith) ∙ rw (front, last) refl

read_digit : (limit a d m : ℕ) → with_digit limit a d ≡ Some m → (is_digit d ≡ true) × (m ≡ a * 10 + (d - 48))
read_digit limit a d m e = go (is_digit d) refl (nat_lt (a * 10 + (d - 48)) limit) e
  where
    go : (b : Bool) → is_digit d ≡ b → (c : Bool) → (if b && c then Some (a * 10 + (d - 48)) else None) ≡ Some m → (is_digit d ≡ true) × (m ≡ a * 10 + (d - 48))
    go true f true g = (f, cc)
    go true f false g = absurd (cc)
    go false f c g = absurd (cc)

bound : {A B : Type 0} (o : Option A) (f : A → Option B) (y : B) → option_and_then f o ≡ Some y → (x : A) × (o ≡ Some x) × (f x ≡ Some y)
bound None f y e = absurd (cc)
bound (Some x) f y e = (x, refl, e)

digits_are : (limit a : ℕ) (ds : List ℕ) (n : ℕ) → 0 < a → digits limit a ds ≡ Some n → written.digits n ≡ written.digits a ++ ds
digits_are limit a [] n some e = let is : a ≡ n = cc in ap written.digits (sym is) ∙ sym (append-nil (written.digits a))
digits_are limit a (d ∷ ds) n some e =
    let x = bound (with_digit limit a d) (λ m. digits limit m ds) n e in
    let y = read_digit limit a d x.0 x.1 in
    let small = y.1 in
    digits_are limit x.0 ds n (omega arith) x.2
    ∙ ap (λ z. written.digits z ++ ds) y.1
    ∙ ap (λ zs. zs ++ ds) (more_digits a d some y.0)
    ∙ append_assoc (written.digits a) (d ∷ []) ds

one_digit : (m : ℕ) → 0 < m → m < 10 → written.digits m ≡ (48 + m) ∷ []
one_digit m some small =
    let none : written.digits (m / 10) ≡ [] = digits_none (m / 10) (omega arith) in
    let same : m % 10 ≡ m = omega arith in
    digits_more m some ∙ rw (none, same) refl

as_numeral : (n d : ℕ) (ds : List ℕ) → written.digits n ≡ d ∷ ds → d ∷ ds ≡ written.numeral n
unfolding written.numeral
as_numeral zero d ds e = let none = digits_none 0 refl in absurd (cc)
as_numeral (suc n) d ds e = let some : (suc n == 0) ≡ false = grind (arith, common_steps) in rw some (sym e)

zero_written : 48 ∷ [] ≡ written.numeral 0
unfolding written.numeral
zero_written = refl

numeral_of : (limit d : ℕ) (ds : List ℕ) (n : ℕ) → digits limit 0 (d ∷ ds) ≡ Some n → (d ≡ 48 → ds ≡ []) → d ∷ ds ≡ written.numeral n
numeral_of limit d ds n e lone =
    let x = bound (with_digit limit 0 d) (λ m. digits limit m ds) n e in
    let y = read_digit limit 0 d x.0 x.1 in
    by_first (nat_eq d 48) refl x.0 y.1 x.2 (digit_least d y.0)
  where
    zero_alone : d ≡ 48 → ds ≡ [] → (m : ℕ) → m ≡ 0 * 10 + (d - 48) → digits limit m ds ≡ Some n → d ∷ ds ≡ written.numeral n
    zero_alone is none m g h =
        let value : Some m ≡ Some n = sym (ap (digits limit m) none) ∙ h in
        let m_is : m ≡ n = cc in
        let n_is : 0 ≡ n = omega (arith, is, g, m_is) in
        ap₂ (λ z zs. z ∷ zs) is none ∙ zero_written ∙ ap written.numeral n_is

    by_first : (b : Bool) → nat_eq d 48 ≡ b → (m : ℕ) → m ≡ 0 * 10 + (d - 48) → digits limit m ds ≡ Some n → (48 ≤ d) × (d < 58) → d ∷ ds ≡ written.numeral n
    by_first true f m g h small = let is = eqb-true d 48 f in zero_alone is (lone is) m g h
    by_first false f m g h small =
        let above : 48 < d = grind (arith, common_steps) in
        let some : 0 < m = omega (arith, g, above) in
        let back : 48 + m ≡ d = omega (arith, g, above) in
        let one : written.digits m ≡ d ∷ [] = one_digit m some (omega (arith, g, small.1)) ∙ ap (λ z. z ∷ []) back in
        as_numeral n d ds (digits_are limit m ds n some h ∙ ap (λ zs. zs ++ ds) one)

pub number_is : (limit : ℕ) (xs : List ℕ) (n : ℕ) → number_below limit xs ≡ Some n → xs ≡ written.numeral n
number_is limit [] n e = absurd (cc)
number_is limit (d ∷ ds) n e = go (nat_eq d 48 && nat_lt 0 (length ds)) refl e
  where
    go : (b : Bool) → (nat_eq d 48 && nat_lt 0 (length ds)) ≡ b → (if b then None else digits limit 0 (d ∷ ds)) ≡ Some n → d ∷ ds ≡ written.numeral n
    go true f g = absurd (cc)
    go false f g = numeral_of limit d ds n g (λ is. empty ds (ap (λ z. nat_eq z 48 && nat_lt 0 (length ds)) (sym is) ∙ f))
      where
        empty : (xs : List ℕ) → (nat_eq 48 48 && nat_lt 0 (length xs)) ≡ false → xs ≡ []
        empty [] h = refl
        empty (x ∷ xs) h = let yes : nat_lt 0 (suc (length xs)) ≡ true = lt-ltb 0 (suc (length xs)) (omega arith) in absurd (true≢false (sym yes ∙ h))
