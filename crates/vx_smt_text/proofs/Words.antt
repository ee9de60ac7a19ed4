-- The words of a command's text are tokens.
use Rattle.std.proofs.Common.{◌≡◌, ℕ, zero, suc, ◌≤◌, ◌<◌, ◌+◌, ◌/◌, ◌%◌, ◌++◌, ◌==◌, ◌&&◌, not, Bool, true, false, List, [], ◌∷◌, refl, arith, ap, sym}
use Rattle.std.proofs.lemmas.Grind.{common_steps}
use Rattle.std.specs.List.{list_all}
use Rattle.vx_sexp.specs.Characters.{is_digit, is_symbol_byte}
use Rattle.vx_sexp.specs.Tokens.{is_numeral, is_decimal, is_symbol, before_point, behind_point}
use Rattle.vx_smt_meaning.specs.Words.{digits, numeral, decimal, sort_word, symbol_word, operator_word}
use Rattle.vx_terms.specs.Sorts.{Sort, IntSort, BoolSort, RealSort, RefSort, SnapSort, OtherSort, Symbol, Standard, Function, Variable, Named, Operator, And, Or, Implies, Equal, Less, LessEqual, Add, Subtract, Multiply, Div, Mod}
use Rattle.vx_smt_meaning.specs.Names.{IsName, IsSortName}
use Rattle.vx_smt_text.proofs.Digits.{digits_none, digits_more}

-- digits that don't begin with 0
abbrev is_high : List ℕ → Bool
is_high [] = false
is_high (b ∷ bs) = is_digit b && not (b == 48) && list_all is_digit bs

all_more : (xs : List ℕ) (d : ℕ) → list_all is_digit xs ≡ true → is_digit d ≡ true → list_all is_digit (xs ++ d ∷ []) ≡ true
all_more [] d e f = grind (arith, common_steps)
all_more (x ∷ xs) d e f = grind (arith, common_steps, all_more xs d)

high_more : (xs : List ℕ) (d : ℕ) → is_high xs ≡ true → is_digit d ≡ true → is_high (xs ++ d ∷ []) ≡ true
high_more [] d e f = absurd (cc)
high_more (x ∷ xs) d e f = grind (arith, common_steps, all_more xs d)

digit_is : (d : ℕ) → d < 10 → is_digit (48 + d) ≡ true
unfolding is_digit
digit_is d h = grind (arith, common_steps)

high_one : (n : ℕ) → 0 < n → n < 10 → is_high ((48 + n) ∷ []) ≡ true
high_one n e f = let d = digit_is n f in let z : ((48 + n) == 48) ≡ false = grind (arith, common_steps) in grind (arith, common_steps)

by_tens : (n q : ℕ) → q ≡ n / 10 → 0 < n → (0 < n / 10 → is_high (digits (n / 10)) ≡ true) → is_high (digits n) ≡ true
by_tens n zero h f ih =
    let none : digits (n / 10) ≡ [] = digits_none (n / 10) (sym h) in
    let small : n < 10 = omega arith in
    let same : n % 10 ≡ n = omega arith in
    rw (digits_more n f, none, same) (high_one n f small)
by_tens n (suc q) h f ih =
    rw (digits_more n f) (high_more (digits (n / 10)) (48 + n % 10) (ih (omega arith)) (digit_is (n % 10) (omega arith)))

high_by : (k n : ℕ) → n ≤ k → 0 < n → is_high (digits n) ≡ true
high_by zero n e f = absurd (omega arith)
high_by (suc k) n e f = by_tens n (n / 10) refl f (λ g. high_by k (n / 10) (omega arith) g)

high_numeral : (xs : List ℕ) → is_high xs ≡ true → (is_numeral xs ≡ true) × (list_all is_digit xs ≡ true)
high_numeral [] e = absurd (cc)
high_numeral (x ∷ xs) e = (grind (arith, common_steps), grind (arith, common_steps))

zero_digit : is_digit 48 ≡ true
unfolding is_digit
zero_digit = refl

pub numeral_is : (n : ℕ) → (is_numeral (numeral n) ≡ true) × (list_all is_digit (numeral n) ≡ true)
unfolding numeral
numeral_is zero = (rw zero_digit refl, rw zero_digit refl)
numeral_is (suc n) =
    let z : (suc n == 0) ≡ false = grind (arith, common_steps) in
    rw z (high_numeral (digits (suc n)) (high_by (suc n) (suc n) (omega arith) (omega arith)))

-- ---- decimals

pub point_before : (xs ys : List ℕ) → list_all is_digit xs ≡ true → is_digit 46 ≡ false → (before_point (xs ++ 46 ∷ ys) ≡ xs) × (behind_point (xs ++ 46 ∷ ys) ≡ ys)
point_before [] ys e f = (refl, refl)
point_before (x ∷ xs) ys e f =
    let d : is_digit x ≡ true = grind (arith, common_steps) in
    let all : list_all is_digit xs ≡ true = grind (arith, common_steps) in
    let no : (x == 46) ≡ false = grind (arith, common_steps) in
    let more = point_before xs ys all f in
    (rw no (ap (λ l. x ∷ l) more.0), rw no more.1)

pub no_digit : is_digit 46 ≡ false
unfolding is_digit
no_digit = refl

pub decimal_is : (n : ℕ) → is_decimal (decimal n) ≡ true
unfolding decimal
decimal_is n =
    let parts = point_before (numeral n) (48 ∷ []) (numeral_is n).1 no_digit in
    rw (parts.0, parts.1, (numeral_is n).0, zero_digit) refl

-- ---- symbols

digit_symbol : (b : ℕ) → is_digit b ≡ true → is_symbol_byte b ≡ true
unfolding is_digit is_symbol_byte
digit_symbol b e = grind (arith, common_steps)

digits_symbol : (xs : List ℕ) → list_all is_digit xs ≡ true → list_all is_symbol_byte xs ≡ true
digits_symbol [] e = refl
digits_symbol (x ∷ xs) e = grind (arith, common_steps, digits_symbol xs, digit_symbol x)

pub lettered : (b n : ℕ) → is_digit b ≡ false → is_symbol_byte b ≡ true → is_symbol (b ∷ numeral n) ≡ true
lettered b n e f = let all = digits_symbol (numeral n) (numeral_is n).1 in grind (arith, common_steps)

pub symbol_is : (f : Symbol) → IsName f → is_symbol (symbol_word f) ≡ true
unfolding is_digit is_symbol_byte
symbol_is (Standard n) e = lettered 115 n refl refl
symbol_is (Function n) e = lettered 102 n refl refl
symbol_is (Variable n) e = lettered 118 n refl refl
symbol_is (Named x) e = e.0

pub sort_is : (a : Sort) → IsSortName a → is_symbol (sort_word a) ≡ true
unfolding is_digit is_symbol_byte
sort_is IntSort e = refl
sort_is BoolSort e = refl
sort_is RealSort e = refl
sort_is RefSort e = refl
sort_is SnapSort e = refl
sort_is (OtherSort x) e = e.0

pub operator_is : (o : Operator) → is_symbol (operator_word o) ≡ true
unfolding is_digit is_symbol_byte
operator_is And = refl
operator_is Or = refl
operator_is Implies = refl
operator_is Equal = refl
operator_is Less = refl
operator_is LessEqual = refl
operator_is Add = refl
operator_is Subtract = refl
operator_is Multiply = refl
operator_is Div = refl
operator_is Mod = refl
