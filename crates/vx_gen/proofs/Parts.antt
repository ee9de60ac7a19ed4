-- Names and numbers in a line are scanned as tokens, and digits move what stands behind them.
use Rattle.std.proofs.Common.{◌≡◌, ◌∙◌, ℕ, zero, suc, ◌+◌, ◌≤◌, List, [], ◌∷◌, ◌++◌, take, drop, length, Bool, true, false, refl, sym, ap, ap₂, arith}
use Rattle.std.specs.Prelude.{◌==◌}
use Rattle.std.specs.List.{prefix_len}
use Rattle.std.specs.Fmt.{decimal}
use Rattle.vx_ast.specs.declared.Place.{Place}
use Rattle.vx_tokens.specs.Tokens.{Kind, name, number}
use Rattle.vx_tokens.specs.Text.{step, after, one_token, is_continuation, is_digit, is_word, word_kind, IsWord, AreAll}
use Rattle.vx_tokens.specs.Scanning.{next, found, word_next, numeral_next, with_token, scan}
use Rattle.vx_tokens.proofs.Pieces.{word_reached, numeral_reached, word_all, numeral_all}
use Rattle.vx_tokens.proofs.Scan.{scan_found}
use Rattle.vx_gen.specs.Programs.{line, digits}
use Rattle.vx_gen.proofs.Numbers.{decimal_digits, numeral_is, numeral_long, not_wide}

-- so many columns on
abbrev pub right_of : Place → ℕ → Place
right_of p zero = p
right_of p (suc k) = right_of (line p.line (p.column + 1)) k

pub column_of : (l c k : ℕ) → right_of (line l c) k ≡ line l (k + c)
column_of l c zero = ap (line l) (let e : c ≡ 0 + c = omega arith in e)
column_of l c (suc k) = column_of l (c + 1) k ∙ ap (line l) (let e : k + (c + 1) ≡ suc k + c = omega arith in e)

-- ---- a token in front

prefix_exact : (test : ℕ → Bool) (xs : List ℕ) (b : ℕ) (rest : List ℕ) → AreAll test xs → test b ≡ false → prefix_len test (xs ++ b ∷ rest) ≡ length xs
prefix_exact test [] b rest all no_b = rw no_b refl
prefix_exact test (x ∷ xs) b rest all no_b = rw (all.0, prefix_exact test xs b rest all.1 no_b) (let e : 1 + length xs ≡ suc (length xs) = omega arith in e)

take_front : (xs ys : List ℕ) → take (length xs) (xs ++ ys) ≡ xs
take_front [] ys = refl
take_front (x ∷ xs) ys = ap (λ l. x ∷ l) (take_front xs ys)

drop_front : (xs ys : List ℕ) → drop (length xs) (xs ++ ys) ≡ ys
drop_front [] ys = refl
drop_front (x ∷ xs) ys = drop_front xs ys

next_word : (x : List ℕ) (b : ℕ) (rest : List ℕ) → IsWord x → is_word b ≡ false → next (x ++ b ∷ rest) ≡ found (word_kind x) (length x)
unfolding word_next
next_word x b rest w off =
    let len = prefix_exact is_word x b rest (word_all x w) off in
    word_reached x (b ∷ rest) w ∙ rw len (rw (take_front x (b ∷ rest)) refl)

next_numeral : (n b : ℕ) (rest : List ℕ) → n ≤ 2000 → is_digit b ≡ false → next (decimal n ++ b ∷ rest) ≡ found (number n) (length (decimal n))
unfolding numeral_next
next_numeral n b rest le off =
    let is = numeral_is n le in
    let len = prefix_exact is_digit (decimal n) b rest (numeral_all (decimal n) is.0) off in
    numeral_reached (decimal n) (b ∷ rest) is.0 ∙ rw len (rw (take_front (decimal n) (b ∷ rest)) (rw is.1 (rw (not_wide n le) refl)))

scan_front : (p : Place) (x rest : List ℕ) (k : Kind) → 1 ≤ length x → next (x ++ rest) ≡ found k (length x) → scan 0 p (x ++ rest) ≡ with_token (one_token k p) (scan 0 (after p x) rest)
scan_front p [] rest k some e = absurd (omega (arith, some))
scan_front p (c ∷ cs) rest k some e =
    scan_found p (c ∷ cs ++ rest) k (length cs) e
    ∙ ap₂ (λ f l. with_token (one_token k p) (scan 0 (after p f) l)) (take_front (c ∷ cs) rest) (drop_front (c ∷ cs) rest)

word_long : (x : List ℕ) → IsWord x → 1 ≤ length x
word_long [] w = absurd w
word_long (c ∷ cs) w = omega arith

-- ---- places behind digits

digit_step : (l c d : ℕ) → is_digit d ≡ true → step (line l c) d ≡ line l (c + 1)
digit_step l c d h = let feed : (d == 10) ≡ false = grind (arith, h) in let on : is_continuation d ≡ false = grind (arith, h) in rw feed (rw on refl)

after_digits : (l c : ℕ) (ds : List ℕ) → AreAll is_digit ds → after (line l c) ds ≡ line l (c + length ds)
after_digits l c [] h = ap (line l) (let e : c ≡ c + 0 = omega arith in e)
after_digits l c (d ∷ ds) h =
    ap (λ p. after p ds) (digit_step l c d h.0) ∙ after_digits l (c + 1) ds h.1 ∙ ap (line l) (let e : c + 1 + length ds ≡ c + suc (length ds) = omega arith in e)

-- behind the digits of a number all stands as many columns further on
shifted : (l d c i : ℕ) → i ≤ 2000 → after (right_of (line l d) c) (decimal i) ≡ right_of (line l (d + digits i)) c
shifted l d c i le =
    ap (λ p. after p (decimal i)) (column_of l d c) ∙ after_digits l (c + d) (decimal i) (decimal_digits i le)
    ∙ ap (line l) (let e : c + d + digits i ≡ c + (d + digits i) = omega arith in e) ∙ sym (column_of l (d + digits i) c)

-- ---- a number in a line, and a name with a number

pub number_part : (l d c i b : ℕ) (rest : List ℕ) → i ≤ 2000 → is_digit b ≡ false → scan 0 (right_of (line l d) c) (decimal i ++ b ∷ rest) ≡ with_token (one_token (number i) (right_of (line l d) c)) (scan 0 (right_of (line l (d + digits i)) c) (b ∷ rest))
number_part l d c i b rest le off =
    let p = right_of (line l d) c in
    scan_front p (decimal i) (b ∷ rest) (number i) (numeral_long (decimal i) (numeral_is i le).0) (next_numeral i b rest le off) ∙ ap (λ q. with_token (one_token (number i) p) (scan 0 q (b ∷ rest))) (shifted l d c i le)

digit_is_word : (b : ℕ) → is_digit b ≡ true → is_word b ≡ true
digit_is_word b h = grind (arith, h)

digits_are_word : (ds : List ℕ) → AreAll is_digit ds → AreAll is_word ds
digits_are_word [] h = tt
digits_are_word (d ∷ ds) h = (digit_is_word d h.0, digits_are_word ds h.1)

all_joined : (xs ys : List ℕ) → AreAll is_word xs → AreAll is_word ys → AreAll is_word (xs ++ ys)
all_joined [] ys h k = k
all_joined (x ∷ xs) ys h k = (h.0, all_joined xs ys h.1 k)

word_joined : (xs ys : List ℕ) → IsWord xs → AreAll is_word ys → IsWord (xs ++ ys)
word_joined [] ys h k = absurd h
word_joined (x ∷ xs) ys h k = (h.0, all_joined xs ys h.1 k)

after_both : (p : Place) (xs ys : List ℕ) → after p (xs ++ ys) ≡ after (after p xs) ys
after_both p [] ys = refl
after_both p (x ∷ xs) ys = after_both (step p x) xs ys

-- `x` and the digits are a name in column 8, behind which a parenthesis stands
pub name_part : (l c i : ℕ) (x rest : List ℕ) → i ≤ 2000 → IsWord x → word_kind (x ++ decimal i) ≡ name (x ++ decimal i) → after (line l 8) x ≡ line l c → scan 0 (line l 8) ((x ++ decimal i) ++ 40 ∷ rest) ≡ with_token (one_token (name (x ++ decimal i)) (line l 8)) (scan 0 (right_of (line l (digits i)) c) (40 ∷ rest))
name_part l c i x rest le w is behind =
    let y = x ++ decimal i in
    let ds = decimal_digits i le in
    let place : after (line l 8) y ≡ right_of (line l (digits i)) c =
    after_both (line l 8) x (decimal i) ∙ ap (λ p. after p (decimal i)) behind ∙ after_digits l c (decimal i) ds ∙ sym (column_of l (digits i) c) in
    let word : IsWord y = word_joined x (decimal i) w (digits_are_word (decimal i) ds) in
    scan_front (line l 8) y (40 ∷ rest) (word_kind y) (word_long y word) (next_word y 40 rest word refl)
    ∙ ap₂ (λ k q. with_token (one_token k (line l 8)) (scan 0 q (40 ∷ rest))) is place
