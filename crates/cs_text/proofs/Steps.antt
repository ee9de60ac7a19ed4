-- The tokens of steps are read as these steps.
use Rattle.std.proofs.Common.{◌≡◌, ℕ, zero, suc, ◌<◌, ◌≤◌, ◌+◌, ◌-◌, ◌^◌, Bool, true, false, ℤ, pos, negsuc, List, [], ◌∷◌, ◌++◌, map, length, take, drop, Option, Some, None, codes, refl, ap, ap₂, ◌∙◌, append_assoc, add-one, length-append, arith}
use Rattle.std.specs.Prelude.{nat_abs, neg_ℤ}
use Rattle.std.specs.Option.{option_map}
use Rattle.vx_frac.specs.Fractions.{Fraction, lowest}
use Rattle.vx_sexp.specs.Characters.{is_digit}
use Rattle.vx_sexp.specs.declared.token.Token.{Token}
use Rattle.vx_sexp.specs.declared.token.Token.TheVariants.{Open, Close}
use Rattle.vx_terms.specs.Interpretations.{Each}
use Rattle.vx_terms.specs.Terms.{Term}
use Rattle.vx_smt_meaning.specs.Words.{numeral, signed_tokens, term_tokens}
use Rattle.cs_certificate.specs.Certificate.{Sign, Plain, Negated, NumberedLiteral}
use Rattle.cs_certificate.specs.Certificate as certificates
use Rattle.cs_reader.specs.declared.step.Literal.{Literal}
use Rattle.cs_reader.specs.declared.mark.Mark.TheVariants as marked
use Rattle.cs_reader.specs.declared.mark.Name.{Name}
use Rattle.cs_reader.specs.Marks as marks
use Rattle.cs_reader.specs.Items.{◌>>=◌, with_front, with_item, items_for}
use Rattle.cs_reader.specs.Spelling.{any, spelled}
use Rattle.cs_reader.specs.Steps.{Step, Input, NewTerm, Define, Pick, Chain, Congruence, Farkas, Split, Trichotomy, Divide, Propagate}
use Rattle.cs_reader.specs.Reading.{if_number, opened_at, closed_at, number_at, name_at, one_at, two_at, three_at, number_or_close, numbers_at, literal_or_close, literals_at, minus_at, slash_at, integer_by, integer_at, signed, quotient, quotient_at, amount_by, amount_at, more_by, more_at, multipliers_at, tokens_from, input_at, term_at, pair_of, chain_of, chain_at, farkas_at, split_at, divide_at, propagate_at}
use Rattle.cs_commands.proofs.Literals.{frac}
use Rattle.cs_commands.proofs.Spellings.{not_lettered, other}
use Rattle.cs_writable.specs.Writable.{IsSmall, IsSmallLiteral, IsMultiplier}
use Rattle.cs_text.specs.Text.{letter, literal_text}
use Rattle.cs_text.proofs.Words.{numeral_back}
use Rattle.cs_text.proofs.Lexed.{num, literal_token, ratio_tokens, multiplier_tokens, multipliers_tokens}

-- ---- what was read

abbrev is_plain : Sign → Bool
is_plain Plain = true
is_plain Negated = false

abbrev pub literal_of : NumberedLiteral → Literal
literal_of l = record { positive = is_plain l.sign; number = l.number }

abbrev pub read_step : certificates.Step → Step
read_step (certificates.Input n) = Input n
read_step (certificates.NewTerm t) = NewTerm (term_tokens t)
read_step (certificates.Define t k) = Define t k
read_step (certificates.Pick t k) = Pick t k
read_step (certificates.Chain ts) = Chain ts
read_step (certificates.Congruence s t) = Congruence s t
read_step (certificates.Farkas ls ms) = Farkas (map literal_of ls) ms
read_step (certificates.Split t z) = Split t z
read_step (certificates.Trichotomy a b) = Trichotomy a b
read_step (certificates.Divide a d k) = Divide a d k
read_step (certificates.Propagate ls hs) = Propagate (map literal_of ls) hs

-- ---- numbers

number_read : (n : ℕ) (ts : List Token) → n < 2 ^ 127 → number_at (num n ∷ ts) ≡ Some (n, ts)
unfolding number_at
number_read n ts h = ap (λ o. if_number (marks.by_number o) ts) (numeral_back n h)

one_read : (n : ℕ) (ts : List Token) → n < 2 ^ 127 → one_at (num n ∷ Close ∷ ts) ≡ Some (n, ts)
unfolding one_at closed_at
one_read n ts h = ap (λ o. o >>= behind) (number_read n (Close ∷ ts) h)
  where
    behind : ℕ × List Token → Option (ℕ × List Token)
    behind a = closed_at a.1 >>= λ rest. Some (a.0, rest)

two_read : (m n : ℕ) (ts : List Token) → m < 2 ^ 127 → n < 2 ^ 127 → two_at (num m ∷ num n ∷ Close ∷ ts) ≡ Some ((m, n), ts)
unfolding two_at
two_read m n ts h k = ap (λ o. o >>= second) (number_read m (num n ∷ Close ∷ ts) h) ∙ ap (λ o. o >>= λ b. Some ((m, b.0), b.1)) (one_read n ts k)
  where
    second : ℕ × List Token → Option ((ℕ × ℕ) × List Token)
    second a = one_at a.1 >>= λ b. Some ((a.0, b.0), b.1)

three_read : (l m n : ℕ) (ts : List Token) → l < 2 ^ 127 → m < 2 ^ 127 → n < 2 ^ 127 → three_at (num l ∷ num m ∷ num n ∷ Close ∷ ts) ≡ Some ((l, m, n), ts)
unfolding three_at
three_read l m n ts g h k = ap (λ o. o >>= others) (number_read l (num m ∷ num n ∷ Close ∷ ts) g) ∙ ap (λ o. o >>= λ b. Some ((l, b.0.0, b.0.1), b.1)) (two_read m n ts h k)
  where
    others : ℕ × List Token → Option ((ℕ × ℕ × ℕ) × List Token)
    others a = two_at a.1 >>= λ b. Some ((a.0, b.0.0, b.0.1), b.1)

numbers_read : (ns : List ℕ) (ts : List Token) → Each IsSmall ns → numbers_at (map num ns ++ Close ∷ ts) ≡ Some (ns, ts)
numbers_read [] ts h = refl
numbers_read (n ∷ ns) ts h =
    ap (λ o. number_or_close (marks.by_number o) (map num ns ++ Close ∷ ts) (numbers_at (map num ns ++ Close ∷ ts))) (numeral_back n h.0)
    ∙ ap (with_front (n ∷ [])) (numbers_read ns ts h.1)

-- ---- literals

no_name : (b n : ℕ) → marks.name (b ∷ numeral n) ≡ None
unfolding is_digit
no_name b n = rw (
  other (b ∷ numeral n) (codes "certificate") (not_lettered b n (codes "certificate") refl),
  other (b ∷ numeral n) (codes "-") (not_lettered b n (codes "-") refl),
  other (b ∷ numeral n) (codes "/") (not_lettered b n (codes "/") refl),
  other (b ∷ numeral n) (codes "input") (not_lettered b n (codes "input") refl),
  other (b ∷ numeral n) (codes "term") (not_lettered b n (codes "term") refl),
  other (b ∷ numeral n) (codes "def") (not_lettered b n (codes "def") refl),
  other (b ∷ numeral n) (codes "pick") (not_lettered b n (codes "pick") refl),
  other (b ∷ numeral n) (codes "chain") (not_lettered b n (codes "chain") refl),
  other (b ∷ numeral n) (codes "cong") (not_lettered b n (codes "cong") refl),
  other (b ∷ numeral n) (codes "farkas") (not_lettered b n (codes "farkas") refl),
  other (b ∷ numeral n) (codes "split") (not_lettered b n (codes "split") refl),
  other (b ∷ numeral n) (codes "tri") (not_lettered b n (codes "tri") refl),
  other (b ∷ numeral n) (codes "div") (not_lettered b n (codes "div") refl),
  other (b ∷ numeral n) (codes "rup") (not_lettered b n (codes "rup") refl),
) refl

abbrev literal_with : Bool → ℕ → Literal
literal_with b n = record { positive = b; number = n }

literal_back : (s : Sign) (n : ℕ) → n < 2 ^ 127 → marks.literal (letter s ∷ numeral n) ≡ Some (literal_with (is_plain s) n)
literal_back Plain n h = ap (option_map (literal_with true)) (numeral_back n h)
literal_back Negated n h = ap (option_map (literal_with false)) (numeral_back n h)

literal_mark : (l : NumberedLiteral) → IsSmallLiteral l → marks.mark (literal_token l) ≡ marked.Literal (literal_of l)
literal_mark l h =
    ap (λ o. marks.by_name o (marks.literal (literal_text l))) (no_name (letter l.sign) l.number)
    ∙ ap marks.by_literal (literal_back l.sign l.number h)

literals_read : (ls : List NumberedLiteral) (ts : List Token) → Each IsSmallLiteral ls → literals_at (map literal_token ls ++ Close ∷ ts) ≡ Some (map literal_of ls, ts)
literals_read [] ts h = refl
literals_read (l ∷ ls) ts h =
    ap (λ m. literal_or_close m (map literal_token ls ++ Close ∷ ts) (literals_at (map literal_token ls ++ Close ∷ ts))) (literal_mark l h.0)
    ∙ ap (with_front (literal_of l ∷ [])) (literals_read ls ts h.1)

-- ---- multipliers

abbrev some_more : Option (Fraction × List Token) → Option (Option Fraction × List Token)
some_more o = o >>= λ a. Some (Some a.0, a.1)

abbrev closing : Option (Fraction × List Token) → Option (Fraction × List Token)
closing o = o >>= λ a. closed_at a.1 >>= λ rest. Some (a.0, rest)

over_ratio : (negative : Bool) (z : ℤ) (p d : ℕ) (ts : List Token) → signed negative p ≡ z → lowest (frac z (suc d)) ≡ frac z (suc d) → p < 2 ^ 127 → suc (suc d) < 2 ^ 127
    → quotient_at negative (num p ∷ num (suc d + 1) ∷ Close ∷ ts) ≡ Some (frac z (suc d), ts)
unfolding quotient_at
over_ratio negative z p d ts is low h k =
    ap (λ o. o >>= by_two) (two_read p (suc d + 1) ts h (omega arith))
    ∙ ap (λ n. quotient negative p n ts) (add-one (suc d))
    ∙ ap₂ (λ (y : ℤ) (e : ℕ). Some (lowest (frac y e), ts)) is less
    ∙ ap (λ (a : Fraction). Some (a, ts)) low
  where
    by_two : (ℕ × ℕ) × List Token → Option (Fraction × List Token)
    by_two n = quotient negative n.0.0 n.0.1 n.1

    less : suc (suc d) - 1 ≡ suc d
    less = omega arith

below_zero : (n : ℕ) → signed true (n + 1) ≡ negsuc n
below_zero n = ap (λ m. neg_ℤ (pos m)) (add-one n)

multiplier_read : (z : ℤ) (d : ℕ) (ts : List Token) → lowest (frac z d) ≡ frac z d → nat_abs z < 2 ^ 127 → suc d < 2 ^ 127 → more_at (signed_tokens z (λ p. ratio_tokens p d) ++ ts) ≡ Some (Some (frac z d), ts)
unfolding more_at name_at slash_at amount_at closed_at
multiplier_read (pos p) zero ts low h k =
    ap (λ o. more_by (marks.by_number o) ts) (numeral_back p h)
    ∙ ap (λ (a : Fraction). Some (Some a, ts)) low
multiplier_read (pos p) (suc d) ts low h k = ap some_more (over_ratio false (pos p) p d ts refl low h k)
multiplier_read (negsuc n) zero ts low h k =
    ap (λ o. some_more (closing (amount_by true (marks.by_number o) (Close ∷ ts)))) (numeral_back (n + 1) (omega arith))
    ∙ ap (λ (z : ℤ). Some (Some (lowest (frac z 0)), ts)) (below_zero n)
    ∙ ap (λ (a : Fraction). Some (Some a, ts)) low
multiplier_read (negsuc n) (suc d) ts low h k = ap (λ o. some_more (closing o)) (over_ratio true (negsuc n) (n + 1) d (Close ∷ ts) (below_zero n) low (omega arith) k)

no_more : (ts : List Token) → more_at (Close ∷ ts) ≡ Some (None, ts)
unfolding more_at
no_more ts = refl

multipliers_for : (ms : List Fraction) (n : ℕ) (ts : List Token) → Each IsMultiplier ms → length ms < n → items_for more_at n (multipliers_tokens ms ++ Close ∷ ts) ≡ Some (ms, ts)
multipliers_for ms zero ts h k = absurd (omega arith)
multipliers_for [] (suc n) ts h k = ap (λ o. o >>= λ x. with_item x.0 (items_for more_at n x.1) x.1) (no_more ts)
multipliers_for (m ∷ ms) (suc n) ts h k =
    ap (λ us. more_at us >>= after) (append_assoc (multiplier_tokens m) (multipliers_tokens ms) (Close ∷ ts))
    ∙ ap (λ o. o >>= after) (multiplier_read m.numerator m.below (multipliers_tokens ms ++ Close ∷ ts) h.0.0 h.0.1 h.0.2)
    ∙ ap (with_front (m ∷ [])) (multipliers_for ms n ts h.1 (omega arith))
  where
    after : Option Fraction × List Token → Option (List Fraction × List Token)
    after x = with_item x.0 (items_for more_at n x.1) x.1

one_token : (z : ℤ) (d : ℕ) → 0 < length (signed_tokens z (λ p. ratio_tokens p d))
one_token (pos p) zero = omega arith
one_token (pos p) (suc d) = omega arith
one_token (negsuc n) d = omega arith

fewer : (ms : List Fraction) (us : List Token) → length ms ≤ length (multipliers_tokens ms ++ us)
fewer [] us = omega arith
fewer (m ∷ ms) us =
    let whole = ap length (append_assoc (multiplier_tokens m) (multipliers_tokens ms) us) in
    let long = length-append (multiplier_tokens m) (multipliers_tokens ms ++ us) in
    let one = one_token m.numerator m.below in
    let rest = fewer ms us in
    omega arith

multipliers_read : (ms : List Fraction) (ts : List Token) → Each IsMultiplier ms → multipliers_at (multipliers_tokens ms ++ Close ∷ ts) ≡ Some (ms, ts)
multipliers_read ms ts h = multipliers_for ms (length (multipliers_tokens ms ++ Close ∷ ts)) ts h below
  where
    below : length ms < length (multipliers_tokens ms ++ Close ∷ ts)
    below =
        let a = length-append (multipliers_tokens ms) (Close ∷ ts) in
        let b = length-append (multipliers_tokens ms) [] in
        let c = fewer ms [] in
        omega arith

-- ---- integers

integer_read : (z : ℤ) (ts : List Token) → nat_abs z < 2 ^ 127 → integer_at (signed_tokens z (λ n. num n ∷ []) ++ ts) ≡ Some (z, ts)
unfolding integer_at minus_at name_at
integer_read (pos n) ts h = ap (λ o. integer_by (marks.by_number o) ts) (numeral_back n h)
integer_read (negsuc n) ts h =
    ap (λ o. o >>= λ m. Some (neg_ℤ (pos m.0), m.1)) (one_read (n + 1) ts (omega arith))
    ∙ ap (λ m. Some (neg_ℤ (pos m), ts)) (add-one n)

-- ---- steps

pub pair_read : (name : Name) (m n : ℕ) (ts : List Token) → m < 2 ^ 127 → n < 2 ^ 127 → (two_at (num m ∷ num n ∷ Close ∷ ts) >>= λ x. pair_of name x.0.0 x.0.1 x.1) ≡ pair_of name m n ts
pair_read name m n ts h k = ap (λ o. o >>= λ x. pair_of name x.0.0 x.0.1 x.1) (two_read m n ts h k)

pub input_read : (n : ℕ) (ts : List Token) → n < 2 ^ 127 → input_at (num n ∷ Close ∷ ts) ≡ Some (Input n, ts)
unfolding input_at
input_read n ts h = ap (λ o. o >>= λ x. Some (Input x.0, x.1)) (one_read n ts h)

pub chain_read : (n : ℕ) (ns : List ℕ) (ts : List Token) → Each IsSmall (n ∷ ns) → chain_at (map num (n ∷ ns) ++ Close ∷ ts) ≡ Some (Chain (n ∷ ns), ts)
unfolding chain_at
chain_read n ns ts h = ap (λ o. o >>= λ x. chain_of x.0 x.1) (numbers_read (n ∷ ns) ts h)

pub farkas_read : (ls : List NumberedLiteral) (ms : List Fraction) (ts : List Token) → Each IsSmallLiteral ls → Each IsMultiplier ms
    → farkas_at (Open ∷ (map literal_token ls ++ (Close ∷ Open ∷ (multipliers_tokens ms ++ (Close ∷ Close ∷ ts))))) ≡ Some (Farkas (map literal_of ls) ms, ts)
unfolding farkas_at opened_at closed_at
farkas_read ls ms ts h k =
    ap (λ o. o >>= behind_literals) (literals_read ls (Open ∷ (multipliers_tokens ms ++ (Close ∷ Close ∷ ts))) h)
    ∙ ap (λ o. o >>= behind_multipliers) (multipliers_read ms (Close ∷ ts) k)
  where
    behind_literals : List Literal × List Token → Option (Step × List Token)
    behind_literals x = opened_at x.1 >>= λ second. multipliers_at second >>= λ y. closed_at y.1 >>= λ rest. Some (Farkas x.0 y.0, rest)

    behind_multipliers : List Fraction × List Token → Option (Step × List Token)
    behind_multipliers y = closed_at y.1 >>= λ rest. Some (Farkas (map literal_of ls) y.0, rest)

pub propagate_read : (ls : List NumberedLiteral) (hs : List ℕ) (ts : List Token) → Each IsSmallLiteral ls → Each IsSmall hs
    → propagate_at (Open ∷ (map literal_token ls ++ (Close ∷ Open ∷ (map num hs ++ (Close ∷ Close ∷ ts))))) ≡ Some (Propagate (map literal_of ls) hs, ts)
unfolding propagate_at opened_at closed_at
propagate_read ls hs ts h k =
    ap (λ o. o >>= behind_literals) (literals_read ls (Open ∷ (map num hs ++ (Close ∷ Close ∷ ts))) h)
    ∙ ap (λ o. o >>= behind_hints) (numbers_read hs (Close ∷ ts) k)
  where
    behind_literals : List Literal × List Token → Option (Step × List Token)
    behind_literals x = opened_at x.1 >>= λ second. numbers_at second >>= λ y. closed_at y.1 >>= λ rest. Some (Propagate x.0 y.0, rest)

    behind_hints : List ℕ × List Token → Option (Step × List Token)
    behind_hints y = closed_at y.1 >>= λ rest. Some (Propagate (map literal_of ls) y.0, rest)

pub split_read : (t : ℕ) (z : ℤ) (ts : List Token) → t < 2 ^ 127 → nat_abs z < 2 ^ 127 → split_at (num t ∷ signed_tokens z (λ n. num n ∷ []) ++ Close ∷ ts) ≡ Some (Split t z, ts)
unfolding split_at closed_at
split_read t z ts h k =
    ap (λ o. o >>= behind_term) (number_read t (signed_tokens z (λ n. num n ∷ []) ++ Close ∷ ts) h)
    ∙ ap (λ o. o >>= behind_number) (integer_read z (Close ∷ ts) k)
  where
    behind_term : ℕ × List Token → Option (Step × List Token)
    behind_term x = integer_at x.1 >>= λ y. closed_at y.1 >>= λ rest. Some (Split x.0 y.0, rest)

    behind_number : ℤ × List Token → Option (Step × List Token)
    behind_number y = closed_at y.1 >>= λ rest. Some (Split t y.0, rest)

pub divide_read : (a d k : ℕ) (ts : List Token) → a < 2 ^ 127 → d < 2 ^ 127 → k < 2 ^ 127 → divide_at (num a ∷ num d ∷ num k ∷ Close ∷ ts) ≡ Some (Divide a d k, ts)
unfolding divide_at
divide_read a d k ts e f g = ap (λ o. o >>= λ x. Some (Divide x.0.0 x.0.1 x.0.2, x.1)) (three_read a d k ts e f g)

-- a term of so many tokens, which the grammar of terms spells
pub term_read : (tokens ts : List Token) (t : Term) → tokens_from 0 (tokens ++ Close ∷ ts) ≡ Some (length tokens) → spelled any tokens ≡ Some t → term_at (tokens ++ Close ∷ ts) ≡ Some (NewTerm tokens, ts)
unfolding term_at closed_at
term_read tokens ts t e f =
    ap (λ o. o >>= by_count) e
    ∙ ap₂ by_parts (take_front tokens (Close ∷ ts)) (drop_front tokens (Close ∷ ts))
    ∙ ap (λ o. o >>= λ u. Some (NewTerm tokens, ts)) f
  where
    by_count : ℕ → Option (Step × List Token)
    by_count n = spelled any (take n (tokens ++ Close ∷ ts)) >>= λ u. closed_at (drop n (tokens ++ Close ∷ ts)) >>= λ rest. Some (NewTerm (take n (tokens ++ Close ∷ ts)), rest)

    by_parts : List Token → List Token → Option (Step × List Token)
    by_parts front back = spelled any front >>= λ u. closed_at back >>= λ rest. Some (NewTerm front, rest)

    take_front : (xs ys : List Token) → take (length xs) (xs ++ ys) ≡ xs
    take_front [] ys = refl
    take_front (x ∷ xs) ys = ap (λ zs. x ∷ zs) (take_front xs ys)

    drop_front : (xs ys : List Token) → drop (length xs) (xs ++ ys) ≡ ys
    drop_front [] ys = refl
    drop_front (x ∷ xs) ys = drop_front xs ys
