-- A text is scanned piece by piece.
use Rattle.std.proofs.Common.{◌≡◌, ℕ, zero, suc, ◌-◌, ◌≤◌, List, [], ◌∷◌, ◌++◌, take, drop, length, refl, sym, ap, subst, ◌∙◌, arith, append_assoc, Bool, true, false, cond, Option, Some, None, eqb, length-append, ltb}
use Rattle.std.specs.List.{AllByRecursion, prefix_len, starts_with}
use Rattle.std.specs.Prelude.{◌==◌, ◌&&◌, option_map}
use Rattle.std.proofs.lemmas.List.Sums.{prefix_len-le-length}
use Rattle.std.proofs.lemmas.Slice.Eq.{starts_is}
use Rattle.std.proofs.lemmas.Bool.Decides.{Decides-eqb}
use Rattle.vx_ast.specs.declared.Place.{Place}
use Rattle.vx_tokens.specs.declared.token.Symbol.{Symbol}
use Rattle.vx_tokens.specs.declared.token.Symbol.TheVariants as signs
use Rattle.vx_tokens.specs.Tokens.{Token, Kind, number}
use Rattle.std.proofs.lemmas.List.{append-nil}
use Rattle.vx_tokens.specs.Text.{step, after, one_token, Ending, AtEnd, WideLiteral, BadCharacter, OpenComment, is_blank, is_letter, is_digit, is_word, is_inside_line, close_len, sign_text, value_of, max_numeral}
use Rattle.vx_tokens.specs.Scanning.{Next, finish, pass, found, wide, unclosed, bad, next, word_next, numeral_next, slash_next, close_next, sign_next, sign_in, all_signs, Scanned, none_left, with_token, scanned_by, scan}

-- the tokens, and then what was scanned
abbrev pub followed_by : List Token → Scanned → Scanned
followed_by ts s = record { tokens = ts ++ s.tokens; ending = s.ending }

followed_by-token : (ts : List Token) (t : Token) (s : Scanned) → followed_by ts (with_token t s) ≡ followed_by (ts ++ t ∷ []) s
followed_by-token ts t s = ap (λ (l : List Token). let u : Scanned = record { tokens = l; ending = s.ending } in u) (sym (append_assoc ts (t ∷ []) s.tokens))

-- bytes that were looked at are passed over
scan_over : (n : ℕ) (p : Place) (bytes : List ℕ) → scan n p bytes ≡ scan 0 (after p (take n bytes)) (drop n bytes)
unfolding scan
scan_over zero p bytes = refl
scan_over (suc n) p [] = refl
scan_over (suc n) p (b ∷ bs) = scan_over n (step p b) bs

pub scan_pass : (p : Place) (bytes : List ℕ) (n : ℕ) → next bytes ≡ pass (suc n) → scan 0 p bytes ≡ scan 0 (after p (take (suc n) bytes)) (drop (suc n) bytes)
unfolding scan next
scan_pass p [] n e = absurd cc
scan_pass p (b ∷ bs) n e = rw e (let m : suc n - 1 ≡ n = omega arith in rw m (scan_over n (step p b) bs))

pub scan_found : (p : Place) (bytes : List ℕ) (k : Kind) (n : ℕ) → next bytes ≡ found k (suc n) → scan 0 p bytes ≡ with_token (one_token k p) (scan 0 (after p (take (suc n) bytes)) (drop (suc n) bytes))
unfolding scan next
scan_found p [] k n e = absurd cc
scan_found p (b ∷ bs) k n e = rw e (let m : suc n - 1 ≡ n = omega arith in rw m (ap (with_token (one_token k p)) (scan_over n (step p b) bs)))

-- where scanning ends
abbrev pub Stopped : Next → Place → List ℕ → Scanned → Type 0
Stopped finish p bytes s = s ≡ none_left (AtEnd p)
Stopped (pass n) p bytes s = Unit {0}
Stopped (found k n) p bytes s = Unit {0}
Stopped (wide n) p bytes s = s ≡ none_left (WideLiteral p)
Stopped unclosed p bytes s = s ≡ none_left (OpenComment (after p bytes))
Stopped bad p bytes s = s ≡ none_left (BadCharacter p)

stopped_by : (x : Next) (p : Place) (bytes : List ℕ) (go : ℕ → Scanned) → Stopped x p bytes (scanned_by x p bytes go)
stopped_by finish p bytes go = refl
stopped_by (pass n) p bytes go = tt
stopped_by (found k n) p bytes go = tt
stopped_by (wide n) p bytes go = refl
stopped_by unclosed p bytes go = refl
stopped_by bad p bytes go = refl

pub stopped : (p : Place) (bytes : List ℕ) → Stopped (next bytes) p bytes (scan 0 p bytes)
unfolding scan next
stopped p [] = refl
stopped p (b ∷ bs) = stopped_by (next (b ∷ bs)) p (b ∷ bs) (λ n. scan n (step p b) bs)

-- ---- the length of what stands in front

abbrev pub Fits : ℕ → Next → Type 0
Fits len finish = Unit {0}
Fits len (pass n) = (1 ≤ n) × (n ≤ len)
Fits len (found k n) = (1 ≤ n) × (n ≤ len)
Fits len (wide n) = (1 ≤ n) × (n ≤ len)
Fits len unclosed = Unit {0}
Fits len bad = Unit {0}

first_passes : (test : ℕ → Bool) (b : ℕ) (bs : List ℕ) → test b ≡ true → 1 ≤ prefix_len test (b ∷ bs)
first_passes test b bs e = rw e (omega arith)

pub close_fits : (bs : List ℕ) (n : ℕ) → close_len bs ≡ Some n → n ≤ length bs
close_fits [] n e = absurd cc
close_fits (b ∷ []) n e = absurd cc
close_fits (b ∷ c ∷ bs) n e = by_test (((b == 42) && (c == 47))) (close_len (c ∷ bs)) e (close_fits (c ∷ bs))
  where
    by_test : (t : Bool) (o : Option ℕ) → cond t (Some 2) (option_map suc o) ≡ Some n → ((m : ℕ) → o ≡ Some m → m ≤ length (c ∷ bs)) → n ≤ length (b ∷ c ∷ bs)
    by_test true o q h = let two : 2 ≡ n = cc in omega (arith, two)
    by_test false None q h = absurd cc
    by_test false (Some m) q h = let k : suc m ≡ n = cc in omega (arith, k, h m refl)

sign_long : (s : Symbol) → 1 ≤ length (sign_text s)
sign_long signs.Implies = omega arith
sign_long signs.Wand = omega arith
sign_long signs.Equal = omega arith
sign_long signs.NotEqual = omega arith
sign_long signs.LessEqual = omega arith
sign_long signs.GreaterEqual = omega arith
sign_long signs.Becomes = omega arith
sign_long signs.And = omega arith
sign_long signs.Or = omega arith
sign_long signs.Open = omega arith
sign_long signs.Close = omega arith
sign_long signs.OpenBrace = omega arith
sign_long signs.CloseBrace = omega arith
sign_long signs.OpenBracket = omega arith
sign_long signs.Comma = omega arith
sign_long signs.Colon = omega arith
sign_long signs.Semicolon = omega arith
sign_long signs.Question = omega arith
sign_long signs.Not = omega arith
sign_long signs.Less = omega arith
sign_long signs.Greater = omega arith
sign_long signs.Plus = omega arith
sign_long signs.Minus = omega arith
sign_long signs.Times = omega arith
sign_long signs.Slash = omega arith
sign_long signs.Backslash = omega arith
sign_long signs.Percent = omega arith
sign_long signs.Dot = omega arith
sign_long signs.At = omega arith

-- a sign that is found stands in front
pub sign_found : (ss : List Symbol) (bytes : List ℕ) (s : Symbol) → sign_in ss bytes ≡ Some s → bytes ≡ sign_text s ++ drop (length (sign_text s)) bytes
sign_found [] bytes s e = absurd cc
sign_found (x ∷ ss) bytes s e = by_test (starts_with ◌==◌ bytes (sign_text x)) refl e (sign_found ss bytes s)
  where
    by_test : (t : Bool) → starts_with ◌==◌ bytes (sign_text x) ≡ t → cond t (Some x) (sign_in ss bytes) ≡ Some s → (sign_in ss bytes ≡ Some s → bytes ≡ sign_text s ++ drop (length (sign_text s)) bytes) → bytes ≡ sign_text s ++ drop (length (sign_text s)) bytes
    by_test true h q r = let same : x ≡ s = cc in subst (λ y. bytes ≡ sign_text y ++ drop (length (sign_text y)) bytes) same ((starts_is Decides-eqb bytes (sign_text x) true (sym h)).0 refl)
    by_test false h q r = r q

cond_fits : (len : ℕ) (t : Bool) (x y : Next) → (t ≡ true → Fits len x) → (t ≡ false → Fits len y) → Fits len (cond t x y)
cond_fits len true x y f g = f refl
cond_fits len false x y f g = g refl

sign_fits : (bytes : List ℕ) (o : Option Symbol) → sign_in all_signs bytes ≡ o → Fits (length bytes) (sign_next o)
sign_fits bytes None e = tt
sign_fits bytes (Some s) e =
    let h = ap length (sign_found all_signs bytes s e) in
    let l = length-append (sign_text s) (drop (length (sign_text s)) bytes) in
    (sign_long s, omega (arith, h, l))

close_next_fits : (b c : ℕ) (cs : List ℕ) (o : Option ℕ) → close_len cs ≡ o → Fits (length (b ∷ c ∷ cs)) (close_next o)
close_next_fits b c cs None e = tt
close_next_fits b c cs (Some n) e = let h = close_fits cs n e in (omega arith, omega (arith, h))

slash_fits : (b : ℕ) (bs : List ℕ) → Fits (length (b ∷ bs)) (slash_next bs)
slash_fits b [] = (omega arith, omega arith)
slash_fits b (c ∷ cs) =
    cond_fits (length (b ∷ c ∷ cs)) (eqb c 47) _ _ (λ h. let l = prefix_len-le-length is_inside_line cs in (omega arith, omega (arith, l)))
    (λ h. cond_fits (length (b ∷ c ∷ cs)) (eqb c 42) _ _ (λ k. close_next_fits b c cs (close_len cs) refl) (λ k. (omega arith, omega arith)))

word_fits : (b : ℕ) (bs : List ℕ) → is_letter b ≡ true → Fits (length (b ∷ bs)) (word_next (b ∷ bs))
unfolding word_next
word_fits b bs h = (first_passes is_word b bs (rw h refl), prefix_len-le-length is_word (b ∷ bs))

numeral_fits : (b : ℕ) (bs : List ℕ) → is_digit b ≡ true → Fits (length (b ∷ bs)) (numeral_next (b ∷ bs))
unfolding numeral_next
numeral_fits b bs h =
    let n = prefix_len is_digit (b ∷ bs) in
    let both : (1 ≤ n) × (n ≤ length (b ∷ bs)) = (first_passes is_digit b bs h, prefix_len-le-length is_digit (b ∷ bs)) in
    let v = value_of (take n (b ∷ bs)) in
    cond_fits (length (b ∷ bs)) (ltb max_numeral v) (wide n) (found (number v) n) (λ k. both) (λ k. both)

pub next_fits : (bytes : List ℕ) → Fits (length bytes) (next bytes)
unfolding next
next_fits [] = tt
next_fits (b ∷ bs) =
    let len = length (b ∷ bs) in
    cond_fits len (is_blank b) (pass 1) _ (λ h. (omega arith, omega arith))
    (λ h1. cond_fits len (is_letter b) (word_next (b ∷ bs)) _ (word_fits b bs)
    (λ h2. cond_fits len (is_digit b) (numeral_next (b ∷ bs)) _ (numeral_fits b bs)
    (λ h3. cond_fits len (eqb b 47) (slash_next bs) (sign_next (sign_in all_signs (b ∷ bs))) (λ h4. slash_fits b bs) (λ h4. sign_fits (b ∷ bs) (sign_in all_signs (b ∷ bs)) refl))))

-- ---- one turn of a loop

pub after_pass : (ts : List Token) (p q : Place) (bytes more : List ℕ) (n : ℕ) (total : Scanned) → followed_by ts (scan 0 p bytes) ≡ total → pass n ≡ next bytes → q ≡ after p (take n bytes) → more ≡ drop n bytes → followed_by ts (scan 0 q more) ≡ total
after_pass ts p q bytes more zero total h e a b = absurd (let f : Fits (length bytes) (pass 0) = subst (Fits (length bytes)) (sym e) (next_fits bytes) in omega (arith, f.0))
after_pass ts p q bytes more (suc n) total h e a b = ap (λ x. followed_by ts x) (rw (a, b) (sym (scan_pass p bytes n (sym e)))) ∙ h

pub after_found : (ts us : List Token) (p q : Place) (bytes more : List ℕ) (k : Kind) (n : ℕ) (total : Scanned) → followed_by ts (scan 0 p bytes) ≡ total → found k n ≡ next bytes → q ≡ after p (take n bytes) → more ≡ drop n bytes → us ≡ ts ++ one_token k p ∷ [] → followed_by us (scan 0 q more) ≡ total
after_found ts us p q bytes more k zero total h e a b u = absurd (let f : Fits (length bytes) (found k 0) = subst (Fits (length bytes)) (sym e) (next_fits bytes) in omega (arith, f.0))
after_found ts us p q bytes more k (suc n) total h e a b u =
    rw (u, a, b) (sym (followed_by-token ts (one_token k p) _) ∙ ap (λ x. followed_by ts x) (sym (scan_found p bytes k n (sym e))) ∙ h)

pub ends_with : (ts : List Token) (s total : Scanned) (e : Ending) → s ≡ none_left e → followed_by ts s ≡ total → (let u : Scanned = record { tokens = ts; ending = e } in u) ≡ total
ends_with ts s total e q h = ap (λ (l : List Token). let u : Scanned = record { tokens = l; ending = e } in u) (sym (append-nil ts)) ∙ subst (λ x. followed_by ts x ≡ total) q h

-- the length of what is passed over
pub passed : (bytes : List ℕ) (n : ℕ) → pass n ≡ next bytes → (1 ≤ n) × (n ≤ length bytes)
passed bytes n e = subst (Fits (length bytes)) (sym e) (next_fits bytes)

pub taken : (bytes : List ℕ) (k : Kind) (n : ℕ) → found k n ≡ next bytes → (1 ≤ n) × (n ≤ length bytes)
taken bytes k n e = subst (Fits (length bytes)) (sym e) (next_fits bytes)

pub all_push : {A : Type 0} (P : A → Type 0) (xs : List A) (x : A) → AllByRecursion P xs → P x → AllByRecursion P (xs ++ x ∷ [])
all_push P [] x h p = (p, tt)
all_push P (y ∷ ys) x h p = (h.0, all_push P ys x h.1 p)
