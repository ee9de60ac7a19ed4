-- A blank behind each token parts them: the text scans as these tokens.
use Rattle.std.proofs.Common.{◌≡◌, ◌∙◌, ℕ, zero, suc, ◌+◌, ◌-◌, ◌*◌, ◌^◌, ◌≤◌, ◌<◌, List, [], ◌∷◌, ◌++◌, take, drop, length, Bool, true, false, ltb, refl, sym, ap, ap₂, subst, append_assoc, arith, map}
use Rattle.std.specs.List.{AllByRecursion, prefix_len}
use Rattle.std.specs.Fmt.{decimal}
use Rattle.std.specs.Char.{digit_value}
use Rattle.std.specs.Str.Parse.{AllDigits, digits_value_after}
use Rattle.std.proofs.lemmas.Fmt.{decimal_is_IsNumeral_wide}
use Rattle.vx_ast.specs.declared.Place.{Place}
use Rattle.vx_tokens.specs.declared.token.Word.{Word}
use Rattle.vx_tokens.specs.declared.token.Word.TheVariants as words
use Rattle.vx_tokens.specs.declared.token.Symbol.{Symbol}
use Rattle.vx_tokens.specs.declared.token.Symbol.TheVariants as signs
use Rattle.vx_tokens.specs.Tokens.{Kind, name, number, word, symbol}
use Rattle.vx_tokens.specs.Text.{step, after, one_token, AtEnd, is_blank, is_digit, is_word, sign_text, value_of, value_from, max_numeral, word_kind, IsWord, IsNumeral, AreAll}
use Rattle.vx_tokens.specs.Scanning.{next, found, word_next, numeral_next, with_token, scan}
use Rattle.vx_tokens.proofs.Pieces.{word_reached, numeral_reached, word_all, numeral_all, blank_reached}
use Rattle.vx_tokens.proofs.Scan.{scan_found, scan_pass, taken}
use Rattle.vx_print.specs.Words.{word_text, token_text, behind}
use Rattle.vx_print.proofs.Behind.{behind_front}

-- what can be written as one token
abbrev pub IsWritable : Kind → Type 0
IsWritable (name x) = IsWord x × (word_kind x ≡ name x)
IsWritable (number n) = n ≤ max_numeral
IsWritable (word w) = Unit {0}
IsWritable (symbol s) = Unit {0}

-- the blank and the line feed
pub data Gap : ℕ → Type 0 where
  blank : Gap 32
  feed : Gap 10

prefix_exact : (test : ℕ → Bool) (xs : List ℕ) (b : ℕ) (rest : List ℕ) → AreAll test xs → test b ≡ false → prefix_len test (xs ++ b ∷ rest) ≡ length xs
prefix_exact test [] b rest all no_b = rw no_b refl
prefix_exact test (x ∷ xs) b rest all no_b = rw (all.0, prefix_exact test xs b rest all.1 no_b) (let e : 1 + length xs ≡ suc (length xs) = omega arith in e)

take_front : (xs ys : List ℕ) → take (length xs) (xs ++ ys) ≡ xs
take_front [] ys = refl
take_front (x ∷ xs) ys = ap (λ l. x ∷ l) (take_front xs ys)

drop_front : (xs ys : List ℕ) → drop (length xs) (xs ++ ys) ≡ ys
drop_front [] ys = refl
drop_front (x ∷ xs) ys = drop_front xs ys

gap_no_word : (b : ℕ) → Gap b → is_word b ≡ false
gap_no_word b blank = refl
gap_no_word b feed = refl

gap_no_digit : (b : ℕ) → Gap b → is_digit b ≡ false
gap_no_digit b blank = refl
gap_no_digit b feed = refl

gap_blank : (b : ℕ) → Gap b → is_blank b ≡ true
gap_blank b blank = refl
gap_blank b feed = refl

next_word : (x : List ℕ) (b : ℕ) (rest : List ℕ) → IsWord x → Gap b → next (x ++ b ∷ rest) ≡ found (word_kind x) (length x)
unfolding word_next
next_word x b rest w g =
    let len = prefix_exact is_word x b rest (word_all x w) (gap_no_word b g) in
    word_reached x (b ∷ rest) w ∙ rw len (rw (take_front x (b ∷ rest)) refl)

after_last : (p : Place) (xs : List ℕ) (b : ℕ) → after p (xs ++ b ∷ []) ≡ step (after p xs) b
after_last p [] b = refl
after_last p (x ∷ xs) b = after_last (step p x) xs b

text_is_word : (w : Word) → IsWord (word_text w) × (word_kind (word_text w) ≡ word w)
text_is_word words.Method = ((refl, (refl, (refl, (refl, (refl, (refl, tt)))))), refl)
text_is_word words.Field = ((refl, (refl, (refl, (refl, (refl, tt))))), refl)
text_is_word words.Predicate = ((refl, (refl, (refl, (refl, (refl, (refl, (refl, (refl, (refl, tt))))))))), refl)
text_is_word words.Function = ((refl, (refl, (refl, (refl, (refl, (refl, (refl, (refl, tt)))))))), refl)
text_is_word words.Returns = ((refl, (refl, (refl, (refl, (refl, (refl, (refl, tt))))))), refl)
text_is_word words.Requires = ((refl, (refl, (refl, (refl, (refl, (refl, (refl, (refl, tt)))))))), refl)
text_is_word words.Ensures = ((refl, (refl, (refl, (refl, (refl, (refl, (refl, tt))))))), refl)
text_is_word words.Decreases = ((refl, (refl, (refl, (refl, (refl, (refl, (refl, (refl, (refl, tt))))))))), refl)
text_is_word words.Int = ((refl, (refl, (refl, tt))), refl)
text_is_word words.Bool = ((refl, (refl, (refl, (refl, tt)))), refl)
text_is_word words.Ref = ((refl, (refl, (refl, tt))), refl)
text_is_word words.Perm = ((refl, (refl, (refl, (refl, tt)))), refl)
text_is_word words.Var = ((refl, (refl, (refl, tt))), refl)
text_is_word words.If = ((refl, (refl, tt)), refl)
text_is_word words.Elseif = ((refl, (refl, (refl, (refl, (refl, (refl, tt)))))), refl)
text_is_word words.Else = ((refl, (refl, (refl, (refl, tt)))), refl)
text_is_word words.While = ((refl, (refl, (refl, (refl, (refl, tt))))), refl)
text_is_word words.Invariant = ((refl, (refl, (refl, (refl, (refl, (refl, (refl, (refl, (refl, tt))))))))), refl)
text_is_word words.Inhale = ((refl, (refl, (refl, (refl, (refl, (refl, tt)))))), refl)
text_is_word words.Exhale = ((refl, (refl, (refl, (refl, (refl, (refl, tt)))))), refl)
text_is_word words.Assert = ((refl, (refl, (refl, (refl, (refl, (refl, tt)))))), refl)
text_is_word words.Assume = ((refl, (refl, (refl, (refl, (refl, (refl, tt)))))), refl)
text_is_word words.Fold = ((refl, (refl, (refl, (refl, tt)))), refl)
text_is_word words.Unfold = ((refl, (refl, (refl, (refl, (refl, (refl, tt)))))), refl)
text_is_word words.New = ((refl, (refl, (refl, tt))), refl)
text_is_word words.True = ((refl, (refl, (refl, (refl, tt)))), refl)
text_is_word words.False = ((refl, (refl, (refl, (refl, (refl, tt))))), refl)
text_is_word words.Null = ((refl, (refl, (refl, (refl, tt)))), refl)
text_is_word words.Write = ((refl, (refl, (refl, (refl, (refl, tt))))), refl)
text_is_word words.Nothing = ((refl, (refl, (refl, (refl, tt)))), refl)
text_is_word words.Outcome = ((refl, (refl, (refl, (refl, (refl, (refl, tt)))))), refl)
text_is_word words.Old = ((refl, (refl, (refl, tt))), refl)
text_is_word words.Acc = ((refl, (refl, (refl, tt))), refl)
text_is_word words.Unfolding = ((refl, (refl, (refl, (refl, (refl, (refl, (refl, (refl, (refl, tt))))))))), refl)
text_is_word words.In = ((refl, (refl, tt)), refl)
text_is_word words.Foreign = ((refl, (refl, (refl, (refl, (refl, (refl, tt)))))), refl)

next_sign : (s : Symbol) (b : ℕ) (rest : List ℕ) → Gap b → next (sign_text s ++ b ∷ rest) ≡ found (symbol s) (length (sign_text s))
unfolding next
next_sign signs.Implies b rest blank = refl
next_sign signs.Implies b rest feed = refl
next_sign signs.Wand b rest blank = refl
next_sign signs.Wand b rest feed = refl
next_sign signs.Equal b rest blank = refl
next_sign signs.Equal b rest feed = refl
next_sign signs.NotEqual b rest blank = refl
next_sign signs.NotEqual b rest feed = refl
next_sign signs.LessEqual b rest blank = refl
next_sign signs.LessEqual b rest feed = refl
next_sign signs.GreaterEqual b rest blank = refl
next_sign signs.GreaterEqual b rest feed = refl
next_sign signs.Becomes b rest blank = refl
next_sign signs.Becomes b rest feed = refl
next_sign signs.And b rest blank = refl
next_sign signs.And b rest feed = refl
next_sign signs.Or b rest blank = refl
next_sign signs.Or b rest feed = refl
next_sign signs.Open b rest blank = refl
next_sign signs.Open b rest feed = refl
next_sign signs.Close b rest blank = refl
next_sign signs.Close b rest feed = refl
next_sign signs.OpenBrace b rest blank = refl
next_sign signs.OpenBrace b rest feed = refl
next_sign signs.CloseBrace b rest blank = refl
next_sign signs.CloseBrace b rest feed = refl
next_sign signs.OpenBracket b rest blank = refl
next_sign signs.OpenBracket b rest feed = refl
next_sign signs.Comma b rest blank = refl
next_sign signs.Comma b rest feed = refl
next_sign signs.Colon b rest blank = refl
next_sign signs.Colon b rest feed = refl
next_sign signs.Semicolon b rest blank = refl
next_sign signs.Semicolon b rest feed = refl
next_sign signs.Question b rest blank = refl
next_sign signs.Question b rest feed = refl
next_sign signs.Not b rest blank = refl
next_sign signs.Not b rest feed = refl
next_sign signs.Less b rest blank = refl
next_sign signs.Less b rest feed = refl
next_sign signs.Greater b rest blank = refl
next_sign signs.Greater b rest feed = refl
next_sign signs.Plus b rest blank = refl
next_sign signs.Plus b rest feed = refl
next_sign signs.Minus b rest blank = refl
next_sign signs.Minus b rest feed = refl
next_sign signs.Times b rest blank = refl
next_sign signs.Times b rest feed = refl
next_sign signs.Slash b rest blank = refl
next_sign signs.Slash b rest feed = refl
next_sign signs.Backslash b rest blank = refl
next_sign signs.Backslash b rest feed = refl
next_sign signs.Percent b rest blank = refl
next_sign signs.Percent b rest feed = refl
next_sign signs.Dot b rest blank = refl
next_sign signs.Dot b rest feed = refl
next_sign signs.At b rest blank = refl
next_sign signs.At b rest feed = refl

-- ---- numerals

is_decimal_digit : (c : ℕ) → digit_value c < 10 → (is_digit c ≡ true) × (digit_value c ≡ c - 48)
is_decimal_digit c h = grind arith

all_digits : (ds : List ℕ) → AllDigits 10 ds → AreAll is_digit ds
all_digits [] h = tt
all_digits (d ∷ ds) h = ((is_decimal_digit d h.0).0, all_digits ds h.1)

same_value : (n : ℕ) (ds : List ℕ) → AllDigits 10 ds → value_from n ds ≡ digits_value_after 10 n ds
same_value n [] h = refl
same_value n (d ∷ ds) h =
    let e : 10 * n + (d - 48) ≡ n * 10 + digit_value d = let v = (is_decimal_digit d h.0).1 in rw v (omega arith) in
    rw e (same_value (n * 10 + digit_value d) ds h.1)

some_digits : (ds : List ℕ) → 0 < length ds → AreAll is_digit ds → IsNumeral ds
some_digits [] some h = absurd (omega (arith, some))
some_digits (d ∷ ds) some h = h

small : (n : ℕ) → n ≤ max_numeral → n < 10 ^ 64
small n h = omega (arith, h)

numeral_is : (n : ℕ) → n ≤ max_numeral → IsNumeral (decimal n) × (value_of (decimal n) ≡ n)
numeral_is n h =
    let d = decimal_is_IsNumeral_wide n (small n h) in
    (some_digits (decimal n) d.0.0 (all_digits (decimal n) d.0.1), same_value 0 (decimal n) d.0.1 ∙ d.1)

not_wide : (n : ℕ) → n ≤ max_numeral → ltb max_numeral n ≡ false
not_wide n h = grind (arith, h)

next_number : (n : ℕ) (b : ℕ) (rest : List ℕ) → n ≤ max_numeral → Gap b → next (decimal n ++ b ∷ rest) ≡ found (number n) (length (decimal n))
unfolding numeral_next
next_number n b rest h g =
    let is = numeral_is n h in
    let len = prefix_exact is_digit (decimal n) b rest (numeral_all (decimal n) is.0) (gap_no_digit b g) in
    numeral_reached (decimal n) (b ∷ rest) is.0 ∙ rw len (rw (take_front (decimal n) (b ∷ rest)) (rw is.1 (rw (not_wide n h) refl)))

-- ---- tokens

next_token : (k : Kind) (b : ℕ) (rest : List ℕ) → IsWritable k → Gap b → next (token_text k ++ b ∷ rest) ≡ found k (length (token_text k))
next_token (name x) b rest w g = next_word x b rest w.0 g ∙ ap (λ k. found k (length x)) w.1
next_token (number n) b rest w g = next_number n b rest w g
next_token (word w) b rest h g = let is = text_is_word w in next_word (word_text w) b rest is.0 g ∙ ap (λ k. found k (length (word_text w))) is.1
next_token (symbol s) b rest w g = next_sign s b rest g

found_some : (bytes : List ℕ) (k : Kind) (n : ℕ) → next bytes ≡ found k n → 1 ≤ n
found_some bytes k n e = (taken bytes k n (sym e)).0

scan_token : (p : Place) (k : Kind) (b : ℕ) (rest : List ℕ) → IsWritable k → Gap b → scan 0 p (token_text k ++ b ∷ rest) ≡ with_token (one_token k p) (scan 0 (after p (token_text k ++ b ∷ [])) rest)
scan_token p k b rest w g = by_length (length (token_text k)) refl
  where
    by_length : (n : ℕ) → length (token_text k) ≡ n → scan 0 p (token_text k ++ b ∷ rest) ≡ with_token (one_token k p) (scan 0 (after p (token_text k ++ b ∷ [])) rest)
    by_length zero e = absurd (let some = found_some (token_text k ++ b ∷ rest) k (length (token_text k)) (next_token k b rest w g) in omega (arith, some, e))
    by_length (suc m) e =
        let here = token_text k in
        let is : next (here ++ b ∷ rest) ≡ found k (suc m) = next_token k b rest w g ∙ ap (found k) e in
        let front : take (suc m) (here ++ b ∷ rest) ≡ here = ap (λ n. take n (here ++ b ∷ rest)) (sym e) ∙ take_front here (b ∷ rest) in
        let back : drop (suc m) (here ++ b ∷ rest) ≡ b ∷ rest = ap (λ n. drop n (here ++ b ∷ rest)) (sym e) ∙ drop_front here (b ∷ rest) in
        scan_found p (here ++ b ∷ rest) k m is
        ∙ ap₂ (λ f l. with_token (one_token k p) (scan 0 (after p f) l)) front back
        ∙ ap (with_token (one_token k p)) (scan_pass (after p here) (b ∷ rest) 0 (blank_reached b rest (gap_blank b g)) ∙ ap (λ q. scan 0 q rest) (sym (after_last p here b)))

-- ---- texts

-- scanned from any place on, the bytes are tokens of these kinds up to their end
pub record Reads (bytes : List ℕ) (ks : List Kind) (p : Place) : Type 0 where
  pub kinds : map (λ t. t.kind) (scan 0 p bytes).tokens ≡ ks
  pub at : Place
  pub ending : (scan 0 p bytes).ending ≡ AtEnd at

pub reads_none : (p : Place) → Reads [] [] p
unfolding scan
reads_none p = record { kinds = refl; at = p; ending = refl }

reads_token : (k : Kind) (b : ℕ) (rest : List ℕ) (ks : List Kind) (p : Place) → IsWritable k → Gap b → ((q : Place) → Reads rest ks q) → Reads (token_text k ++ b ∷ rest) (k ∷ ks) p
reads_token k b rest ks p w g go =
    let q = after p (token_text k ++ b ∷ []) in
    let r = go q in
    let e = scan_token p k b rest w g in
    record { kinds = ap (λ s. map (λ t. t.kind) s.tokens) e ∙ ap (λ l. k ∷ l) r.kinds; at = r.at; ending = ap (λ s. s.ending) e ∙ r.ending }

pub reads_line : (k : Kind) (ks ls : List Kind) (rest : List ℕ) (p : Place) → IsWritable k → AllByRecursion IsWritable ks → ((q : Place) → Reads rest ls q) → Reads (behind (token_text k) ks ++ 10 ∷ rest) (k ∷ (ks ++ ls)) p
reads_line k [] ls rest p w all go = reads_token k 10 rest ls p w feed go
reads_line k (x ∷ ks) ls rest p w all go =
    let text = token_text k in
    let e : behind (text ++ 32 ∷ token_text x) ks ++ 10 ∷ rest ≡ text ++ 32 ∷ (behind (token_text x) ks ++ 10 ∷ rest) =
    ap (λ l. l ++ 10 ∷ rest) (ap (λ l. behind l ks) (sym (append_assoc text (32 ∷ []) (token_text x))) ∙ behind_front (text ++ 32 ∷ []) (token_text x) ks ∙ append_assoc text (32 ∷ []) (behind (token_text x) ks)) ∙ append_assoc text (32 ∷ behind (token_text x) ks) (10 ∷ rest) in
    subst (λ l. Reads l (k ∷ (x ∷ ks ++ ls)) p) (sym e) (reads_token k 32 (behind (token_text x) ks ++ 10 ∷ rest) (x ∷ (ks ++ ls)) p w blank (λ q. reads_line x ks ls rest q all.0 all.1 go))
