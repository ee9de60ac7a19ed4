-- Scanning is right, and all.
use Rattle.std.proofs.Common.{◌≡◌, ℕ, zero, suc, ◌+◌, ◌≤◌, ◌<◌, List, [], ◌∷◌, ◌++◌, take, drop, length, refl, sym, ap, subst, ◌∙◌, arith, Bool, true, false, cond, Option, Some, None, eqb, ltb, length-drop, inl, inr}
use Rattle.std.specs.List.{prefix_len}
use Rattle.std.specs.Prelude.{◌==◌, ◌&&◌, option_map}
use Rattle.std.proofs.lemmas.List.{take_at, drop_at, take-append-drop, length-take}
use Rattle.std.proofs.lemmas.Bool.{eqb-true, ltb-false, le-ltb, lt-ltb, ltb-true}
use Rattle.vx_ast.specs.declared.Place.{Place}
use Rattle.vx_tokens.specs.declared.token.Symbol.{Symbol}
use Rattle.vx_tokens.specs.declared.token.Symbol.TheVariants as signs
use Rattle.vx_tokens.specs.Tokens.{Token, Kind, name, number, word, symbol}
use Rattle.vx_tokens.specs.Text.{after, one_token, is_blank, is_letter, is_digit, is_word, is_inside_line, close_len, sign_text, value_of, word_kind, word_or_name, reserved, max_numeral, IsWord, IsNumeral, Spells, Piece, blank, line_comment, block_comment, token, text_of, IsPiece, IsLongest, IsWide, IsOpenComment, BeginsNoPiece, Ending, AtEnd, BadCharacter, Scans, scans_end, scans_blank, scans_line, scans_block, scans_token, scans_wide, scans_open, scans_bad}
use Rattle.vx_tokens.specs.Scanning.{Next, finish, pass, found, wide, unclosed, bad, next, word_next, numeral_next, number_next, slash_next, close_next, sign_next, sign_in, all_signs, Scanned, with_token, scan}
use Rattle.vx_tokens.specs.Law.{ScanningIsRight, ScanningIsAll}
use Rattle.vx_tokens.proofs.Digits.{all_in_front}
use Rattle.vx_tokens.proofs.Scan.{sign_found, next_fits, Fits, scan_pass, scan_found, Stopped, stopped, close_fits}
use Rattle.vx_tokens.proofs.Pieces.{prefix_reaches, word_reached, numeral_reached, word_all, numeral_all, blank_reached, line_reached, block_reached, close_same, long_sign, all_sorted, all_in, IsPlain, plain_or_slash, sign_reached, same_sign}

-- ---- no piece is longer than what next answers

abbrev Reaches : Next → ℕ → Type 0
Reaches finish m = ⊥
Reaches (pass n) m = m ≤ n
Reaches (found k n) m = m ≤ n
Reaches (wide n) m = m ≤ n
Reaches unclosed m = m ≤ 1
Reaches bad m = ⊥

word_reaches : (text more : List ℕ) → IsWord text → Reaches (next (text ++ more)) (length text)
unfolding word_next
word_reaches text more h = rw (word_reached text more h) (prefix_reaches is_word text more (word_all text h))

number_reaches : (v n m : ℕ) → m ≤ n → Reaches (number_next v n) m
number_reaches v n m le = by_test (ltb max_numeral v)
  where
    by_test : (t : Bool) → Reaches (cond t (wide n) (found (number v) n)) m
    by_test true = le
    by_test false = le

numeral_reaches : (text more : List ℕ) → IsNumeral text → Reaches (next (text ++ more)) (length text)
unfolding numeral_next
numeral_reaches text more h = rw (numeral_reached text more h) (number_reaches _ _ _ (prefix_reaches is_digit text more (numeral_all text h)))

cond_reaches : (m : ℕ) (t : Bool) (x y : Next) → Reaches x m → Reaches y m → Reaches (cond t x y) m
cond_reaches m true x y f g = f
cond_reaches m false x y f g = g

close_reaches : (o : Option ℕ) → Reaches (close_next o) 1
close_reaches None = omega arith
close_reaches (Some n) = omega arith

slash_reaches : (more : List ℕ) → Reaches (slash_next more) 1
slash_reaches [] = omega arith
slash_reaches (c ∷ cs) = cond_reaches 1 (eqb c 47) (pass (2 + prefix_len is_inside_line cs)) _ (omega arith) (cond_reaches 1 (eqb c 42) (close_next (close_len cs)) (found (symbol signs.Slash) 1) (close_reaches (close_len cs)) (omega arith))

slash_reached : (more : List ℕ) → next (47 ∷ more) ≡ slash_next more
unfolding next
slash_reached more = refl

sign_reaches : (s : Symbol) (more : List ℕ) → Reaches (next (sign_text s ++ more)) (length (sign_text s))
sign_reaches s more = elim (plain_or_slash s) [
  | inl h ↦ let l = long_sign 3 all_signs s more all_sorted (all_in s) in rw (sign_reached s more h, l.is) l.long
  | inr e ↦ subst (λ (t : Symbol). Reaches (next (sign_text t ++ more)) (length (sign_text t))) (sym e) (subst (λ x. Reaches x 1) (sym (slash_reached more)) (slash_reaches more))
]

reaches : (q : Piece) (more : List ℕ) → IsPiece q → Reaches (next (text_of q ++ more)) (length (text_of q))
reaches (blank b) more h = rw (blank_reached b more h) (omega arith)
reaches (line_comment text) more h = rw (line_reached text more) (let i = prefix_reaches is_inside_line text more h in omega (arith, i))
reaches (block_comment text) more h = rw (block_reached (text ++ more), close_same text more (length text) h) (omega arith)
reaches (token (name x) text) more h = word_reaches text more h.0
reaches (token (word w) text) more h = word_reaches text more h.0
reaches (token (number n) text) more h = numeral_reaches text more h.0
reaches (token (symbol s) text) more h = subst (λ t. Reaches (next (t ++ more)) (length t)) (sym h) (sign_reaches s more)

-- ---- what next answers stands in front

abbrev IsSkipped : Piece → Type 0
IsSkipped (blank b) = Unit {0}
IsSkipped (line_comment text) = Unit {0}
IsSkipped (block_comment text) = Unit {0}
IsSkipped (token k text) = ⊥

record Skipped (n : ℕ) (bytes : List ℕ) : Type 0 where
  piece : Piece
  is : IsPiece piece
  skipped : IsSkipped piece
  text : text_of piece ≡ take n bytes

record TooWide (n : ℕ) (bytes : List ℕ) : Type 0 where
  value : ℕ
  spells : Spells (number value) (take n bytes)
  over : max_numeral < value

abbrev Describes : Next → List ℕ → Type 0
Describes finish bytes = bytes ≡ []
Describes (pass n) bytes = Skipped n bytes
Describes (found k n) bytes = Spells k (take n bytes) × (IsWide (token k (take n bytes)) → ⊥)
Describes (wide n) bytes = TooWide n bytes
Describes unclosed bytes = IsOpenComment bytes
Describes bad bytes = 0 < length bytes

cond_describes : (bytes : List ℕ) (t : Bool) (x y : Next) → (t ≡ true → Describes x bytes) → (t ≡ false → Describes y bytes) → Describes (cond t x y) bytes
cond_describes bytes true x y f g = f refl
cond_describes bytes false x y f g = g refl

-- a reserved word, or a name
kind_spells : (text : List ℕ) (o : Option _) → IsWord text → reserved text ≡ o → Spells (word_or_name o text) text × (IsWide (token (word_or_name o text) text) → ⊥)
kind_spells text None h e = ((h, rw e refl), λ x. x)
kind_spells text (Some w) h e = ((h, rw e refl), λ x. x)

word_describes : (b : ℕ) (bs : List ℕ) → is_letter b ≡ true → Describes (word_next (b ∷ bs)) (b ∷ bs)
unfolding word_next
word_describes b bs h =
    let n = prefix_len is_word (b ∷ bs) in
    let text = take n (b ∷ bs) in
    let w : is_word b ≡ true = rw h refl in
    let cut : text ≡ b ∷ take (prefix_len is_word bs) bs = rw w (let s : 1 + prefix_len is_word bs ≡ suc (prefix_len is_word bs) = omega arith in rw s refl) in
    let is : IsWord text = rw cut (h, all_in_front is_word bs) in
    kind_spells text (reserved text) is refl

numeral_describes : (b : ℕ) (bs : List ℕ) → is_digit b ≡ true → Describes (numeral_next (b ∷ bs)) (b ∷ bs)
unfolding numeral_next
numeral_describes b bs h =
    let n = prefix_len is_digit (b ∷ bs) in
    let text = take n (b ∷ bs) in
    let cut : text ≡ b ∷ take (prefix_len is_digit bs) bs = rw h (let s : 1 + prefix_len is_digit bs ≡ suc (prefix_len is_digit bs) = omega arith in rw s refl) in
    let is : IsNumeral text = rw cut (h, all_in_front is_digit bs) in
    cond_describes (b ∷ bs) (ltb max_numeral (value_of text)) (wide n) (found (number (value_of text)) n)
    (λ k. record { value = value_of text; spells = (is, refl); over = ltb-true _ _ k })
    (λ k. ((is, refl), λ over. let le = ltb-false _ _ k in omega (arith, le, over)))

sign_describes : (bytes : List ℕ) (o : Option Symbol) → 0 < length bytes → sign_in all_signs bytes ≡ o → Describes (sign_next o) bytes
sign_describes bytes None lt e = lt
sign_describes bytes (Some s) lt e =
    let h = sign_found all_signs bytes s e in
    (ap (take (length (sign_text s))) h ∙ take_at (sign_text s) (drop (length (sign_text s)) bytes) (length (sign_text s)) refl, λ x. x)

-- a comment's end is found again in what was taken
close_long : (bs : List ℕ) (n : ℕ) → close_len bs ≡ Some n → 2 ≤ n
close_long [] n e = absurd cc
close_long (b ∷ []) n e = absurd cc
close_long (b ∷ c ∷ bs) n e = by_test ((b == 42) && (c == 47)) (close_len (c ∷ bs)) e (close_long (c ∷ bs))
  where
    by_test : (t : Bool) (o : Option ℕ) → cond t (Some 2) (option_map suc o) ≡ Some n → ((m : ℕ) → o ≡ Some m → 2 ≤ m) → 2 ≤ n
    by_test true o q h = let two : 2 ≡ n = cc in omega (arith, two)
    by_test false None q h = absurd cc
    by_test false (Some m) q h = let k : suc m ≡ n = cc in omega (arith, k, h m refl)

close_taken : (bs : List ℕ) (n : ℕ) → close_len bs ≡ Some n → close_len (take n bs) ≡ Some n
close_taken [] n e = absurd cc
close_taken (b ∷ []) n e = absurd cc
close_taken (b ∷ c ∷ bs) n e = by_test ((b == 42) && (c == 47)) refl (close_len (c ∷ bs)) refl e (close_taken (c ∷ bs))
  where
    by_test : (t : Bool) → ((b == 42) && (c == 47)) ≡ t → (o : Option ℕ) → close_len (c ∷ bs) ≡ o → cond t (Some 2) (option_map suc o) ≡ Some n → ((m : ℕ) → close_len (c ∷ bs) ≡ Some m → close_len (take m (c ∷ bs)) ≡ Some m) → close_len (take n (b ∷ c ∷ bs)) ≡ Some n
    by_test true te o oe q h = let two : n ≡ suc (suc zero) = cc in rw (two, te) refl
    by_test false te None oe q h = absurd cc
    by_test false te (Some zero) oe q h = let l = close_long (c ∷ bs) zero oe in absurd (omega (arith, l))
    by_test false te (Some (suc m)) oe q h = let k : n ≡ suc (suc m) = cc in rw k (rw te (ap (option_map suc) (h (suc m) oe)))

close_describes : (cs : List ℕ) (o : Option ℕ) → close_len cs ≡ o → Describes (close_next o) (47 ∷ 42 ∷ cs)
close_describes cs None e = (cs, refl, e)
close_describes cs (Some n) e =
    let le = close_fits cs n e in
    let two : 2 + n ≡ suc (suc n) = omega arith in
    let len : length (take n cs) ≡ n = omega (arith, length-take n cs, le) in
    record { piece = block_comment (take n cs); is = close_taken cs n e ∙ ap Some (sym len); skipped = tt; text = rw two refl }

slash_describes : (bs : List ℕ) → Describes (slash_next bs) (47 ∷ bs)
slash_describes [] = (refl, λ x. x)
slash_describes (c ∷ cs) =
    cond_describes (47 ∷ c ∷ cs) (eqb c 47) (pass (2 + prefix_len is_inside_line cs)) _
    (λ h. let k : c ≡ 47 = eqb-true c 47 h in
    let n = prefix_len is_inside_line cs in
    let two : 2 + n ≡ suc (suc n) = omega arith in
    record { piece = line_comment (take n cs); is = all_in_front is_inside_line cs; skipped = tt; text = rw (two, k) refl })
    (λ h. cond_describes (47 ∷ c ∷ cs) (eqb c 42) (close_next (close_len cs)) (found (symbol signs.Slash) 1)
    (λ k. let k' : c ≡ 42 = eqb-true c 42 k in rw k' (close_describes cs (close_len cs) refl))
    (λ k. (refl, λ x. x)))

describes : (bytes : List ℕ) → Describes (next bytes) bytes
unfolding next
describes [] = refl
describes (b ∷ bs) =
    cond_describes (b ∷ bs) (is_blank b) (pass 1) _ (λ h. record { piece = blank b; is = h; skipped = tt; text = refl })
    (λ h1. cond_describes (b ∷ bs) (is_letter b) (word_next (b ∷ bs)) _ (word_describes b bs)
    (λ h2. cond_describes (b ∷ bs) (is_digit b) (numeral_next (b ∷ bs)) _ (numeral_describes b bs)
    (λ h3. cond_describes (b ∷ bs) (eqb b 47) (slash_next bs) (sign_next (sign_in all_signs (b ∷ bs)))
    (λ h4. let k : b ≡ 47 = eqb-true b 47 h4 in rw k (slash_describes bs))
    (λ h4. sign_describes (b ∷ bs) (sign_in all_signs (b ∷ bs)) (omega arith) refl))))

-- what is found is spelled by what is taken
found_spells : (bytes : List ℕ) (k : Kind) (n : ℕ) → found k n ≡ next bytes → Spells k (take n bytes)
found_spells bytes k n e = (subst (λ x. Describes x bytes) (sym e) (describes bytes)).0

open_is_unclosed : (bytes : List ℕ) → IsOpenComment bytes → next bytes ≡ unclosed
open_is_unclosed bytes o = rw (o.1, block_reached o.0, o.2) refl

-- ---- the longest piece

longest_of : (x : Next) (bytes : List ℕ) (q : Piece) (n : ℕ) → next bytes ≡ x → ((m : ℕ) → Reaches x m → m ≤ n) → IsPiece q → text_of q ≡ take n bytes → n ≤ length bytes → IsLongest q bytes (drop n bytes)
longest_of x bytes q n e bound is text le = record {
  is_piece = is;
  text = sym (take-append-drop n bytes) ∙ ap (λ t. t ++ drop n bytes) (sym text);
  longest = λ p more ip ep.
      let r : Reaches x (length (text_of p)) = subst (λ y. Reaches y (length (text_of p))) (ap next (sym ep) ∙ e) (reaches p more ip) in
      let len : length (text_of q) ≡ n = ap length text ∙ omega (arith, length-take n bytes, le) in
      omega (arith, bound (length (text_of p)) r, len);
}

none_of : (bytes : List ℕ) → next bytes ≡ bad → BeginsNoPiece bytes
none_of bytes e q more is text = subst (λ y. Reaches y (length (text_of q))) (ap next (sym text) ∙ e) (reaches q more is)

pub found_longest : (bytes : List ℕ) (k : Kind) (n : ℕ) → found k n ≡ next bytes → IsLongest (token k (take n bytes)) bytes (drop n bytes)
found_longest bytes k n e =
    let f : Fits (length bytes) (found k n) = subst (Fits (length bytes)) (sym e) (next_fits bytes) in
    longest_of (found k n) bytes (token k (take n bytes)) n (sym e) (λ m h. h) (found_spells bytes k n e) refl f.1

-- ---- all pieces

scans_along : (p : Place) (bytes : List ℕ) (s t : Scanned) → s ≡ t → Scans p bytes t.tokens t.ending → Scans p bytes s.tokens s.ending
scans_along p bytes s t e h = subst (λ x. Scans p bytes x.tokens x.ending) (sym e) h

-- what is passed over, and then the rest
scans_skipped : (p : Place) (bytes : List ℕ) (n : ℕ) (q : Piece) (s : Scanned) → IsSkipped q → IsLongest q bytes (drop n bytes) → text_of q ≡ take n bytes → Scans (after p (take n bytes)) (drop n bytes) s.tokens s.ending → Scans p bytes s.tokens s.ending
scans_skipped p bytes n (blank b) s sk l e h = scans_blank l (subst (λ t. Scans (after p t) (drop n bytes) s.tokens s.ending) (sym e) h)
scans_skipped p bytes n (line_comment text) s sk l e h = scans_line l (subst (λ t. Scans (after p t) (drop n bytes) s.tokens s.ending) (sym e) h)
scans_skipped p bytes n (block_comment text) s sk l e h = scans_block l (subst (λ t. Scans (after p t) (drop n bytes) s.tokens s.ending) (sym e) h)
scans_skipped p bytes n (token k text) s sk l e h = absurd sk

scans_by : (p : Place) (bytes : List ℕ) (x : Next) → next bytes ≡ x → Describes x bytes → Fits (length bytes) x → Stopped x p bytes (scan 0 p bytes)
    → ((q : Place) (rest : List ℕ) → length rest < length bytes → Scans q rest (scan 0 q rest).tokens (scan 0 q rest).ending)
    → Scans p bytes (scan 0 p bytes).tokens (scan 0 p bytes).ending
scans_by p bytes finish e d f st go = scans_along p bytes (scan 0 p bytes) _ st (subst (λ b. Scans p b [] (AtEnd p)) (sym d) scans_end)
scans_by p bytes (pass zero) e d f st go = absurd (omega (arith, f.0))
scans_by p bytes (pass (suc n)) e d f st go =
    let s = scan 0 (after p (take (suc n) bytes)) (drop (suc n) bytes) in
    scans_along p bytes (scan 0 p bytes) s (scan_pass p bytes n e)
    (scans_skipped p bytes (suc n) d.piece s d.skipped (longest_of (pass (suc n)) bytes d.piece (suc n) e (λ m h. h) d.is d.text f.1) d.text
    (go (after p (take (suc n) bytes)) (drop (suc n) bytes) (omega (arith, length-drop (suc n) bytes, f.1))))
scans_by p bytes (found k zero) e d f st go = absurd (omega (arith, f.0))
scans_by p bytes (found k (suc n)) e d f st go =
    let s = scan 0 (after p (take (suc n) bytes)) (drop (suc n) bytes) in
    scans_along p bytes (scan 0 p bytes) (with_token (one_token k p) s) (scan_found p bytes k n e)
    (scans_token (longest_of (found k (suc n)) bytes (token k (take (suc n) bytes)) (suc n) e (λ m h. h) d.0 refl f.1) d.1 (λ o. let u = open_is_unclosed bytes o in cc)
    (go (after p (take (suc n) bytes)) (drop (suc n) bytes) (omega (arith, length-drop (suc n) bytes, f.1))))
scans_by p bytes (wide n) e d f st go =
    scans_along p bytes (scan 0 p bytes) _ st (scans_wide (longest_of (wide n) bytes (token (number d.value) (take n bytes)) n e (λ m h. h) d.spells refl f.1) d.over)
scans_by p bytes unclosed e d f st go = scans_along p bytes (scan 0 p bytes) _ st (scans_open d)
scans_by p bytes bad e d f st go = scans_along p bytes (scan 0 p bytes) _ st (scans_nothing p bytes d (none_of bytes e) (λ o. let u = open_is_unclosed bytes o in cc))
  where
    scans_nothing : (p : Place) (bytes : List ℕ) → 0 < length bytes → BeginsNoPiece bytes → (IsOpenComment bytes → ⊥) → Scans p bytes [] (BadCharacter p)
    scans_nothing p [] lt none open_not = absurd (omega arith)
    scans_nothing p (b ∷ bs) lt none open_not = scans_bad none open_not

scans_within : (fuel : ℕ) (p : Place) (bytes : List ℕ) → length bytes < fuel → Scans p bytes (scan 0 p bytes).tokens (scan 0 p bytes).ending
scans_within zero p bytes lt = absurd (omega arith)
scans_within (suc fuel) p bytes lt =
    scans_by p bytes (next bytes) refl (describes bytes) (next_fits bytes) (stopped p bytes) (λ q rest less. scans_within fuel q rest (omega (arith, less, lt)))

pub scanning_is_right : ScanningIsRight
scanning_is_right p bytes = scans_within (suc (length bytes)) p bytes (omega arith)

-- ---- nothing else

piece_bound : (q p : Piece) (bytes rest : List ℕ) (n : ℕ) → IsLongest q bytes rest → IsPiece p → text_of p ≡ take n bytes → n ≤ length bytes → n ≤ length (text_of q)
piece_bound q p bytes rest n l is text le =
    let len : length (text_of p) ≡ n = ap length text ∙ omega (arith, length-take n bytes, le) in
    let most = l.longest p (drop n bytes) is (sym (take-append-drop n bytes) ∙ ap (λ t. t ++ drop n bytes) (sym text)) in
    omega (arith, most, len)

abbrev Bounded : ℕ → Next → Type 0
Bounded m finish = Unit {0}
Bounded m (pass n) = n ≤ m
Bounded m (found k n) = n ≤ m
Bounded m (wide n) = n ≤ m
Bounded m unclosed = Unit {0}
Bounded m bad = Unit {0}

bounded_by : (q : Piece) (bytes rest : List ℕ) (x : Next) → IsLongest q bytes rest → Describes x bytes → Fits (length bytes) x → Bounded (length (text_of q)) x
bounded_by q bytes rest finish l d f = tt
bounded_by q bytes rest (pass n) l d f = piece_bound q d.piece bytes rest n l d.is d.text f.1
bounded_by q bytes rest (found k n) l d f = piece_bound q (token k (take n bytes)) bytes rest n l d.0 refl f.1
bounded_by q bytes rest (wide n) l d f = piece_bound q (token (number d.value) (take n bytes)) bytes rest n l d.spells refl f.1
bounded_by q bytes rest unclosed l d f = tt
bounded_by q bytes rest bad l d f = tt

bounded : (q : Piece) (bytes rest : List ℕ) → IsLongest q bytes rest → Bounded (length (text_of q)) (next bytes)
bounded q bytes rest l = bounded_by q bytes rest (next bytes) l (describes bytes) (next_fits bytes)

line_exact : (text bytes rest : List ℕ) → IsLongest (line_comment text) bytes rest → next bytes ≡ pass (suc (suc (length text)))
line_exact text bytes rest l =
    let n = prefix_len is_inside_line (text ++ rest) in
    let e : next bytes ≡ pass (2 + n) = ap next l.text ∙ line_reached text rest in
    let b : 2 + n ≤ suc (suc (length text)) = subst (Bounded (suc (suc (length text)))) e (bounded (line_comment text) bytes rest l) in
    let r = prefix_reaches is_inside_line text rest l.is_piece in
    let same : 2 + n ≡ suc (suc (length text)) = omega (arith, b, r) in
    e ∙ ap pass same

block_exact : (text bytes rest : List ℕ) → IsLongest (block_comment text) bytes rest → next bytes ≡ pass (suc (suc (length text)))
block_exact text bytes rest l =
    let two : 2 + length text ≡ suc (suc (length text)) = omega arith in
    ap next l.text ∙ block_reached (text ++ rest) ∙ rw (close_same text rest (length text) l.is_piece) (ap pass two)

word_exact : (k : Kind) (text bytes rest : List ℕ) → IsWord text → IsLongest (token k text) bytes rest → next bytes ≡ found (word_kind text) (length text)
unfolding word_next
word_exact k text bytes rest w l =
    let n = prefix_len is_word (text ++ rest) in
    let e : next bytes ≡ found (word_kind (take n (text ++ rest))) n = ap next l.text ∙ word_reached text rest w in
    let b : n ≤ length text = subst (Bounded (length text)) e (bounded (token k text) bytes rest l) in
    let r = prefix_reaches is_word text rest (word_all text w) in
    let same : n ≡ length text = omega (arith, b, r) in
    e ∙ ap (λ m. found (word_kind (take m (text ++ rest))) m) same ∙ ap (λ t. found (word_kind t) (length text)) (take_at text rest (length text) refl)

number_bound : (v n m : ℕ) → Bounded m (number_next v n) → n ≤ m
number_bound v n m = by_test (ltb max_numeral v)
  where
    by_test : (t : Bool) → Bounded m (cond t (wide n) (found (number v) n)) → n ≤ m
    by_test true h = h
    by_test false h = h

numeral_exact : (k : Kind) (text bytes rest : List ℕ) → IsNumeral text → IsLongest (token k text) bytes rest → next bytes ≡ number_next (value_of text) (length text)
unfolding numeral_next
numeral_exact k text bytes rest w l =
    let n = prefix_len is_digit (text ++ rest) in
    let e : next bytes ≡ number_next (value_of (take n (text ++ rest))) n = ap next l.text ∙ numeral_reached text rest w in
    let b : n ≤ length text = number_bound _ n (length text) (subst (Bounded (length text)) e (bounded (token k text) bytes rest l)) in
    let r = prefix_reaches is_digit text rest (numeral_all text w) in
    let same : n ≡ length text = omega (arith, b, r) in
    e ∙ ap (λ m. number_next (value_of (take m (text ++ rest))) m) same ∙ ap (λ t. number_next (value_of t) (length text)) (take_at text rest (length text) refl)

sign_exact : (s : Symbol) (bytes rest : List ℕ) → IsPlain s → IsLongest (token (symbol s) (sign_text s)) bytes rest → next bytes ≡ found (symbol s) (length (sign_text s))
sign_exact s bytes rest h l =
    let long = long_sign 3 all_signs s rest all_sorted (all_in s) in
    let t = long.sign in
    let e : next bytes ≡ found (symbol t) (length (sign_text t)) = ap next l.text ∙ sign_reached s rest h ∙ rw long.is refl in
    let b : length (sign_text t) ≤ length (sign_text s) = subst (Bounded (length (sign_text s))) e (bounded (token (symbol s) (sign_text s)) bytes rest l) in
    let same : length (sign_text t) ≡ length (sign_text s) = omega (arith, b, long.long) in
    let front = sign_found all_signs (sign_text s ++ rest) t long.is in
    let texts : sign_text t ≡ sign_text s =
    sym (take_at (sign_text t) _ (length (sign_text t)) refl) ∙ ap (take (length (sign_text t))) (sym front) ∙ ap (λ n. take n (sign_text s ++ rest)) same ∙ take_at (sign_text s) rest (length (sign_text s)) refl in
    e ∙ ap (λ u. found (symbol u) (length (sign_text u))) (same_sign t s texts)

-- a slash that begins no comment
slash_by : (rest : List ℕ) (x : Next) → slash_next rest ≡ x → Bounded 1 x → (x ≡ unclosed → ⊥) → x ≡ found (symbol signs.Slash) 1
slash_by [] x e b not = sym e
slash_by (c ∷ cs) x e b not = by_line (eqb c 47) e
  where
    by_close : (o : Option ℕ) → close_next o ≡ x → x ≡ found (symbol signs.Slash) 1
    by_close None e = absurd (not (sym e))
    by_close (Some n) e = absurd (let h : 2 + n ≤ 1 = subst (Bounded 1) (sym e) b in omega (arith, h))

    by_block : (t : Bool) → cond t (close_next (close_len cs)) (found (symbol signs.Slash) 1) ≡ x → x ≡ found (symbol signs.Slash) 1
    by_block true e = by_close (close_len cs) e
    by_block false e = sym e

    by_line : (t : Bool) → cond t (pass (2 + prefix_len is_inside_line cs)) (cond (eqb c 42) (close_next (close_len cs)) (found (symbol signs.Slash) 1)) ≡ x → x ≡ found (symbol signs.Slash) 1
    by_line true e = absurd (let h : 2 + prefix_len is_inside_line cs ≤ 1 = subst (Bounded 1) (sym e) b in omega (arith, h))
    by_line false e = by_block (eqb c 42) e

unclosed_is_open : (bytes : List ℕ) → next bytes ≡ unclosed → IsOpenComment bytes
unclosed_is_open bytes e = subst (λ x. Describes x bytes) e (describes bytes)

slash_exact : (bytes rest : List ℕ) → IsLongest (token (symbol signs.Slash) (47 ∷ [])) bytes rest → (IsOpenComment bytes → ⊥) → next bytes ≡ found (symbol signs.Slash) 1
slash_exact bytes rest l not =
    let e : next bytes ≡ slash_next rest = ap next l.text ∙ slash_reached rest in
    e ∙ slash_by rest (slash_next rest) refl (subst (Bounded 1) e (bounded (token (symbol signs.Slash) (47 ∷ [])) bytes rest l)) (λ u. not (unclosed_is_open bytes (e ∙ u)))

symbol_exact : (s : Symbol) (bytes rest : List ℕ) → IsLongest (token (symbol s) (sign_text s)) bytes rest → (IsOpenComment bytes → ⊥) → next bytes ≡ found (symbol s) (length (sign_text s))
symbol_exact s bytes rest l not = elim (plain_or_slash s) [
  | inl h ↦ sign_exact s bytes rest h l
  | inr e ↦ subst (λ (t : Symbol). next bytes ≡ found (symbol t) (length (sign_text t))) (sym e) (slash_exact bytes rest (subst (λ (t : Symbol). IsLongest (token (symbol t) (sign_text t)) bytes rest) e l) not)
]

token_exact : (k : Kind) (text bytes rest : List ℕ) → IsLongest (token k text) bytes rest → (IsWide (token k text) → ⊥) → (IsOpenComment bytes → ⊥) → next bytes ≡ found k (length text)
token_exact (name x) text bytes rest l not closed = word_exact (name x) text bytes rest l.is_piece.0 l ∙ ap (λ k. found k (length text)) l.is_piece.1
token_exact (word w) text bytes rest l not closed = word_exact (word w) text bytes rest l.is_piece.0 l ∙ ap (λ k. found k (length text)) l.is_piece.1
token_exact (number n) text bytes rest l not closed =
    let small : ltb max_numeral (value_of text) ≡ false = le-ltb _ _ (not_below max_numeral n (value_of text) l.is_piece.1 not) in
    numeral_exact (number n) text bytes rest l.is_piece.0 l ∙ rw small (ap (λ v. found (number v) (length text)) l.is_piece.1)
  where
    not_below : (m n v : ℕ) → v ≡ n → (m < n → ⊥) → v ≤ m
    not_below m n v e h = omega (arith, e, h)
token_exact (symbol s) text bytes rest l not closed =
    subst (λ t. IsLongest (token (symbol s) t) bytes rest → next bytes ≡ found (symbol s) (length t)) (sym l.is_piece) (λ k. symbol_exact s bytes rest k closed) l

wide_exact : (q : Piece) (bytes rest : List ℕ) → IsLongest q bytes rest → IsWide q → next bytes ≡ wide (length (text_of q))
wide_exact (blank b) bytes rest l w = absurd w
wide_exact (line_comment t) bytes rest l w = absurd w
wide_exact (block_comment t) bytes rest l w = absurd w
wide_exact (token (name x) t) bytes rest l w = absurd w
wide_exact (token (word x) t) bytes rest l w = absurd w
wide_exact (token (symbol x) t) bytes rest l w = absurd w
wide_exact (token (number n) text) bytes rest l w =
    let large : ltb max_numeral (value_of text) ≡ true = lt-ltb _ _ (let e = l.is_piece.1 in omega (arith, e, w)) in
    numeral_exact (number n) text bytes rest l.is_piece.0 l ∙ rw large refl

bad_exact : (b : ℕ) (bytes : List ℕ) (x : Next) → next (b ∷ bytes) ≡ x → Describes x (b ∷ bytes) → BeginsNoPiece (b ∷ bytes) → (IsOpenComment (b ∷ bytes) → ⊥) → x ≡ bad
bad_exact b bytes finish e d none not = absurd cc
bad_exact b bytes (pass n) e d none not = absurd (none d.piece (drop n (b ∷ bytes)) d.is (sym (take-append-drop n (b ∷ bytes)) ∙ ap (λ t. t ++ drop n (b ∷ bytes)) (sym d.text)))
bad_exact b bytes (found k n) e d none not = absurd (none (token k (take n (b ∷ bytes))) (drop n (b ∷ bytes)) d.0 (sym (take-append-drop n (b ∷ bytes))))
bad_exact b bytes (wide n) e d none not = absurd (none (token (number d.value) (take n (b ∷ bytes))) (drop n (b ∷ bytes)) d.spells (sym (take-append-drop n (b ∷ bytes))))
bad_exact b bytes unclosed e d none not = absurd (not d)
bad_exact b bytes bad e d none not = refl

-- behind a piece of n + 1 bytes
rest_of : (text bytes rest : List ℕ) (n : ℕ) → bytes ≡ text ++ rest → length text ≡ n → (take n bytes ≡ text) × (drop n bytes ≡ rest)
rest_of text bytes rest n e l = (ap (take n) e ∙ take_at text rest n l, ap (drop n) e ∙ drop_at text rest n l)

pass_on : (p : Place) (text bytes rest : List ℕ) (n : ℕ) (s : Scanned) → bytes ≡ text ++ rest → length text ≡ suc n → next bytes ≡ pass (suc n) → scan 0 (after p text) rest ≡ s → scan 0 p bytes ≡ s
pass_on p text bytes rest n s e l x h =
    let r = rest_of text bytes rest (suc n) e l in
    scan_pass p bytes n x ∙ rw (r.0, r.1) h

find_on : (p : Place) (k : Kind) (text bytes rest : List ℕ) (s : Scanned) → bytes ≡ text ++ rest → 1 ≤ length text → next bytes ≡ found k (length text) → scan 0 (after p text) rest ≡ s → scan 0 p bytes ≡ with_token (one_token k p) s
find_on p k [] bytes rest s e l x h = absurd (omega arith)
find_on p k (b ∷ bs) bytes rest s e l x h =
    let r = rest_of (b ∷ bs) bytes rest (suc (length bs)) e refl in
    scan_found p bytes k (length bs) x ∙ rw (r.0, r.1) (ap (with_token (one_token k p)) h)

all_scans : (p : Place) (bytes : List ℕ) (ts : List Token) (e : Ending) → Scans p bytes ts e → (let s : Scanned = record { tokens = ts; ending = e } in scan 0 p bytes ≡ s)
unfolding scan
all_scans p bytes ts e (scans_end) = refl
all_scans p bytes ts e (scans_blank {b = b} {rest = rest} l h) = pass_on p (b ∷ []) bytes rest 0 _ l.text refl (ap next l.text ∙ blank_reached b rest l.is_piece) (all_scans _ rest ts e h)
all_scans p bytes ts e (scans_line {text = text} {rest = rest} l h) = pass_on p (47 ∷ 47 ∷ text) bytes rest (suc (length text)) _ l.text refl (line_exact text bytes rest l) (all_scans _ rest ts e h)
all_scans p bytes ts e (scans_block {text = text} {rest = rest} l h) = pass_on p (47 ∷ 42 ∷ text) bytes rest (suc (length text)) _ l.text refl (block_exact text bytes rest l) (all_scans _ rest ts e h)
all_scans p bytes ts e (scans_token {k = k} {text = text} {rest = rest} {ts = us} l not closed h) =
    let x = token_exact k text bytes rest l not closed in
    find_on p k text bytes rest _ l.text (subst (Fits (length bytes)) x (next_fits bytes)).0 x (all_scans _ rest us e h)
all_scans p bytes ts e (scans_wide {q = q} {rest = rest} l w) = subst (λ y. Stopped y p bytes (scan 0 p bytes)) (wide_exact q bytes rest l w) (stopped p bytes)
all_scans p bytes ts e (scans_open o) = subst (λ y. Stopped y p bytes (scan 0 p bytes)) (open_is_unclosed bytes o) (stopped p bytes)
all_scans p bytes ts e (scans_bad {b = b} {bytes = bs} none not) = subst (λ y. Stopped y p (b ∷ bs) (scan 0 p (b ∷ bs))) (bad_exact b bs (next (b ∷ bs)) refl (describes (b ∷ bs)) none not) (stopped p (b ∷ bs))

pub scanning_is_all : ScanningIsAll
scanning_is_all p bytes ts e h = all_scans p bytes ts e h
