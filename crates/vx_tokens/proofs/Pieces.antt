-- What stands in front of a text is its longest piece.
use Rattle.std.proofs.Common.{◌≡◌, ℕ, suc, ◌+◌, ◌≤◌, List, [], ◌∷◌, ◌++◌, drop, length, refl, sym, ap, subst, ◌∙◌, arith, Bool, true, false, cond, Option, Some, None, inl, inr, ◌⊎◌}
use Rattle.std.specs.List.{prefix_len, starts_with}
use Rattle.std.specs.Cmp.Lexicographic.{pointwise}
use Rattle.std.specs.Prelude.{◌==◌, ◌&&◌, option_map}
use Rattle.std.proofs.lemmas.Slice.Eq.{starts_is}
use Rattle.std.proofs.lemmas.Bool.Decides.{Decides-eqb}
use Rattle.vx_tokens.specs.declared.token.Symbol.{Symbol}
use Rattle.vx_tokens.specs.declared.token.Symbol.TheVariants as signs
use Rattle.vx_tokens.specs.Text.{is_blank, is_letter, is_digit, is_word, is_inside_line, close_len, sign_text, AreAll, IsWord, IsNumeral}
use Rattle.vx_tokens.specs.Scanning.{pass, next, word_next, numeral_next, close_next, sign_next, sign_in, all_signs}

-- ---- characters of one sort are of no other

not_blank_letter : (b : ℕ) → is_letter b ≡ true → is_blank b ≡ false
not_blank_letter b h = grind arith

not_blank_digit : (b : ℕ) → is_digit b ≡ true → is_blank b ≡ false
not_blank_digit b h = grind arith

not_letter_digit : (b : ℕ) → is_digit b ≡ true → is_letter b ≡ false
not_letter_digit b h = grind arith

-- as many pass as stand there
pub prefix_reaches : (test : ℕ → Bool) (bs more : List ℕ) → AreAll test bs → length bs ≤ prefix_len test (bs ++ more)
prefix_reaches test [] more h = omega arith
prefix_reaches test (b ∷ bs) more h = rw h.0 (let i = prefix_reaches test bs more h.1 in omega (arith, i))

-- ---- what next answers where a piece stands in front

pub word_reached : (text more : List ℕ) → IsWord text → next (text ++ more) ≡ word_next (text ++ more)
unfolding next
word_reached [] more h = absurd h
word_reached (b ∷ bs) more h = rw (not_blank_letter b h.0, h.0) refl

pub numeral_reached : (text more : List ℕ) → IsNumeral text → next (text ++ more) ≡ numeral_next (text ++ more)
unfolding next
numeral_reached [] more h = absurd h
numeral_reached (b ∷ bs) more h = rw (not_blank_digit b h.0, not_letter_digit b h.0, h.0) refl

pub word_all : (text : List ℕ) → IsWord text → AreAll is_word text
word_all [] h = tt
word_all (b ∷ bs) h = (rw h.0 refl, h.1)

pub numeral_all : (text : List ℕ) → IsNumeral text → AreAll is_digit text
numeral_all [] h = tt
numeral_all (b ∷ bs) h = h

pub blank_reached : (b : ℕ) (more : List ℕ) → is_blank b ≡ true → next (b ∷ more) ≡ pass 1
unfolding next
blank_reached b more h = rw h refl

pub line_reached : (text more : List ℕ) → next (47 ∷ 47 ∷ (text ++ more)) ≡ pass (2 + prefix_len is_inside_line (text ++ more))
unfolding next
line_reached text more = refl

pub block_reached : (text : List ℕ) → next (47 ∷ 42 ∷ text) ≡ close_next (close_len text)
unfolding next
block_reached text = refl

-- the first `*/` is found where it stands, whatever follows
pub close_same : (text more : List ℕ) (n : ℕ) → close_len text ≡ Some n → close_len (text ++ more) ≡ Some n
close_same [] more n e = absurd cc
close_same (b ∷ []) more n e = absurd cc
close_same (b ∷ c ∷ bs) more n e = by_test ((b == 42) && (c == 47)) (close_len (c ∷ bs)) (close_len ((c ∷ bs) ++ more)) e (close_same (c ∷ bs) more)
  where
    by_test : (t : Bool) (o p : Option ℕ) → cond t (Some 2) (option_map suc o) ≡ Some n → ((m : ℕ) → o ≡ Some m → p ≡ Some m) → cond t (Some 2) (option_map suc p) ≡ Some n
    by_test true o p q h = q
    by_test false None p q h = absurd cc
    by_test false (Some m) p q h = rw (h m refl) q

-- the first sign that fits is as long as any that does
abbrev pub SortedFrom : ℕ → List Symbol → Type 0
SortedFrom n [] = Unit {0}
SortedFrom n (s ∷ ss) = (length (sign_text s) ≤ n) × SortedFrom (length (sign_text s)) ss

abbrev Stands : Symbol → List ℕ → Type 0
Stands s bytes = bytes ≡ sign_text s ++ drop (length (sign_text s)) bytes

starts_true : (s : Symbol) (more : List ℕ) → starts_with ◌==◌ (sign_text s ++ more) (sign_text s) ≡ true
starts_true s more = (starts_is Decides-eqb (sign_text s ++ more) (sign_text s) (starts_with ◌==◌ (sign_text s ++ more) (sign_text s)) refl).1 more refl

abbrev pub IsIn : Symbol → List Symbol → Type 0
IsIn s [] = ⊥
IsIn s (x ∷ xs) = (s ≡ x) ⊎ IsIn s xs

pub record LongSign (s : Symbol) (o : Option Symbol) : Type 0 where
  pub sign : Symbol
  pub is : o ≡ Some sign
  pub long : length (sign_text s) ≤ length (sign_text sign)

shorter : (n : ℕ) (s : Symbol) (ss : List Symbol) → SortedFrom n ss → IsIn s ss → length (sign_text s) ≤ n
shorter n s [] h k = absurd k
shorter n s (x ∷ xs) h (inl e) = rw e h.0
shorter n s (x ∷ xs) h (inr k) = let i = shorter (length (sign_text x)) s xs h.1 k in omega (arith, i, h.0)

pub long_sign : (n : ℕ) (ss : List Symbol) (s : Symbol) (more : List ℕ) → SortedFrom n ss → IsIn s ss → LongSign s (sign_in ss (sign_text s ++ more))
long_sign n [] s more h k = absurd k
long_sign n (x ∷ xs) s more h k = by_test (starts_with ◌==◌ (sign_text s ++ more) (sign_text x)) refl (long_sign (length (sign_text x)) xs s more h.1)
  where
    by_test : (t : Bool) → starts_with ◌==◌ (sign_text s ++ more) (sign_text x) ≡ t → (IsIn s xs → LongSign s (sign_in xs (sign_text s ++ more))) → LongSign s (cond t (Some x) (sign_in xs (sign_text s ++ more)))
    by_test true e go = record { sign = x; is = refl; long = elim k [ inl q ↦ rw q (omega arith) | inr i ↦ shorter (length (sign_text x)) s xs h.1 i ] }
    by_test false e go = elim k [ inl q ↦ absurd (let t = starts_true s more in let f = subst (λ y. starts_with ◌==◌ (sign_text s ++ more) (sign_text y) ≡ false) (sym q) e in cc) | inr i ↦ go i ]

pub all_sorted : SortedFrom 3 all_signs
all_sorted = (omega arith, (omega arith, (omega arith, (omega arith, (omega arith, (omega arith, (omega arith, (omega arith, (omega arith, (omega arith, (omega arith, (omega arith, (omega arith, (omega arith, (omega arith, (omega arith, (omega arith, (omega arith, (omega arith, (omega arith, (omega arith, (omega arith, (omega arith, (omega arith, (omega arith, (omega arith, (omega arith, (omega arith, (omega arith, tt)))))))))))))))))))))))))))))

pub all_in : (s : Symbol) → IsIn s all_signs
all_in signs.Implies = inl refl
all_in signs.Wand = inr (inl refl)
all_in signs.Equal = inr (inr (inl refl))
all_in signs.NotEqual = inr (inr (inr (inl refl)))
all_in signs.LessEqual = inr (inr (inr (inr (inl refl))))
all_in signs.GreaterEqual = inr (inr (inr (inr (inr (inl refl)))))
all_in signs.Becomes = inr (inr (inr (inr (inr (inr (inl refl))))))
all_in signs.And = inr (inr (inr (inr (inr (inr (inr (inl refl)))))))
all_in signs.Or = inr (inr (inr (inr (inr (inr (inr (inr (inl refl))))))))
all_in signs.Open = inr (inr (inr (inr (inr (inr (inr (inr (inr (inl refl)))))))))
all_in signs.Close = inr (inr (inr (inr (inr (inr (inr (inr (inr (inr (inl refl))))))))))
all_in signs.OpenBrace = inr (inr (inr (inr (inr (inr (inr (inr (inr (inr (inr (inl refl)))))))))))
all_in signs.CloseBrace = inr (inr (inr (inr (inr (inr (inr (inr (inr (inr (inr (inr (inl refl))))))))))))
all_in signs.OpenBracket = inr (inr (inr (inr (inr (inr (inr (inr (inr (inr (inr (inr (inr (inl refl)))))))))))))
all_in signs.Comma = inr (inr (inr (inr (inr (inr (inr (inr (inr (inr (inr (inr (inr (inr (inl refl))))))))))))))
all_in signs.Colon = inr (inr (inr (inr (inr (inr (inr (inr (inr (inr (inr (inr (inr (inr (inr (inl refl)))))))))))))))
all_in signs.Semicolon = inr (inr (inr (inr (inr (inr (inr (inr (inr (inr (inr (inr (inr (inr (inr (inr (inl refl))))))))))))))))
all_in signs.Question = inr (inr (inr (inr (inr (inr (inr (inr (inr (inr (inr (inr (inr (inr (inr (inr (inr (inl refl)))))))))))))))))
all_in signs.Not = inr (inr (inr (inr (inr (inr (inr (inr (inr (inr (inr (inr (inr (inr (inr (inr (inr (inr (inl refl))))))))))))))))))
all_in signs.Less = inr (inr (inr (inr (inr (inr (inr (inr (inr (inr (inr (inr (inr (inr (inr (inr (inr (inr (inr (inl refl)))))))))))))))))))
all_in signs.Greater = inr (inr (inr (inr (inr (inr (inr (inr (inr (inr (inr (inr (inr (inr (inr (inr (inr (inr (inr (inr (inl refl))))))))))))))))))))
all_in signs.Plus = inr (inr (inr (inr (inr (inr (inr (inr (inr (inr (inr (inr (inr (inr (inr (inr (inr (inr (inr (inr (inr (inl refl)))))))))))))))))))))
all_in signs.Minus = inr (inr (inr (inr (inr (inr (inr (inr (inr (inr (inr (inr (inr (inr (inr (inr (inr (inr (inr (inr (inr (inr (inl refl))))))))))))))))))))))
all_in signs.Times = inr (inr (inr (inr (inr (inr (inr (inr (inr (inr (inr (inr (inr (inr (inr (inr (inr (inr (inr (inr (inr (inr (inr (inl refl)))))))))))))))))))))))
all_in signs.Slash = inr (inr (inr (inr (inr (inr (inr (inr (inr (inr (inr (inr (inr (inr (inr (inr (inr (inr (inr (inr (inr (inr (inr (inr (inl refl))))))))))))))))))))))))
all_in signs.Backslash = inr (inr (inr (inr (inr (inr (inr (inr (inr (inr (inr (inr (inr (inr (inr (inr (inr (inr (inr (inr (inr (inr (inr (inr (inr (inl refl)))))))))))))))))))))))))
all_in signs.Percent = inr (inr (inr (inr (inr (inr (inr (inr (inr (inr (inr (inr (inr (inr (inr (inr (inr (inr (inr (inr (inr (inr (inr (inr (inr (inr (inl refl))))))))))))))))))))))))))
all_in signs.Dot = inr (inr (inr (inr (inr (inr (inr (inr (inr (inr (inr (inr (inr (inr (inr (inr (inr (inr (inr (inr (inr (inr (inr (inr (inr (inr (inr (inl refl)))))))))))))))))))))))))))
all_in signs.At = inr (inr (inr (inr (inr (inr (inr (inr (inr (inr (inr (inr (inr (inr (inr (inr (inr (inr (inr (inr (inr (inr (inr (inr (inr (inr (inr (inr (inl refl))))))))))))))))))))))))))))

-- a sign that begins no comment
abbrev pub IsPlain : Symbol → Type 0
IsPlain s = pointwise ◌==◌ (sign_text s) (47 ∷ []) ≡ false

pub plain_or_slash : (s : Symbol) → IsPlain s ⊎ (s ≡ signs.Slash)
plain_or_slash signs.Implies = inl refl
plain_or_slash signs.Wand = inl refl
plain_or_slash signs.Equal = inl refl
plain_or_slash signs.NotEqual = inl refl
plain_or_slash signs.LessEqual = inl refl
plain_or_slash signs.GreaterEqual = inl refl
plain_or_slash signs.Becomes = inl refl
plain_or_slash signs.And = inl refl
plain_or_slash signs.Or = inl refl
plain_or_slash signs.Open = inl refl
plain_or_slash signs.Close = inl refl
plain_or_slash signs.OpenBrace = inl refl
plain_or_slash signs.CloseBrace = inl refl
plain_or_slash signs.OpenBracket = inl refl
plain_or_slash signs.Comma = inl refl
plain_or_slash signs.Colon = inl refl
plain_or_slash signs.Semicolon = inl refl
plain_or_slash signs.Question = inl refl
plain_or_slash signs.Not = inl refl
plain_or_slash signs.Less = inl refl
plain_or_slash signs.Greater = inl refl
plain_or_slash signs.Plus = inl refl
plain_or_slash signs.Minus = inl refl
plain_or_slash signs.Times = inl refl
plain_or_slash signs.Slash = inr refl
plain_or_slash signs.Backslash = inl refl
plain_or_slash signs.Percent = inl refl
plain_or_slash signs.Dot = inl refl
plain_or_slash signs.At = inl refl

pub sign_reached : (s : Symbol) (more : List ℕ) → IsPlain s → next (sign_text s ++ more) ≡ sign_next (sign_in all_signs (sign_text s ++ more))
unfolding next
sign_reached signs.Implies more h = refl
sign_reached signs.Wand more h = refl
sign_reached signs.Equal more h = refl
sign_reached signs.NotEqual more h = refl
sign_reached signs.LessEqual more h = refl
sign_reached signs.GreaterEqual more h = refl
sign_reached signs.Becomes more h = refl
sign_reached signs.And more h = refl
sign_reached signs.Or more h = refl
sign_reached signs.Open more h = refl
sign_reached signs.Close more h = refl
sign_reached signs.OpenBrace more h = refl
sign_reached signs.CloseBrace more h = refl
sign_reached signs.OpenBracket more h = refl
sign_reached signs.Comma more h = refl
sign_reached signs.Colon more h = refl
sign_reached signs.Semicolon more h = refl
sign_reached signs.Question more h = refl
sign_reached signs.Not more h = refl
sign_reached signs.Less more h = refl
sign_reached signs.Greater more h = refl
sign_reached signs.Plus more h = refl
sign_reached signs.Minus more h = refl
sign_reached signs.Times more h = refl
sign_reached signs.Slash more h = absurd cc
sign_reached signs.Backslash more h = refl
sign_reached signs.Percent more h = refl
sign_reached signs.Dot more h = refl
sign_reached signs.At more h = refl

-- a sign's text tells it
sign_itself : (s : Symbol) → sign_in all_signs (sign_text s) ≡ Some s
sign_itself signs.Implies = refl
sign_itself signs.Wand = refl
sign_itself signs.Equal = refl
sign_itself signs.NotEqual = refl
sign_itself signs.LessEqual = refl
sign_itself signs.GreaterEqual = refl
sign_itself signs.Becomes = refl
sign_itself signs.And = refl
sign_itself signs.Or = refl
sign_itself signs.Open = refl
sign_itself signs.Close = refl
sign_itself signs.OpenBrace = refl
sign_itself signs.CloseBrace = refl
sign_itself signs.OpenBracket = refl
sign_itself signs.Comma = refl
sign_itself signs.Colon = refl
sign_itself signs.Semicolon = refl
sign_itself signs.Question = refl
sign_itself signs.Not = refl
sign_itself signs.Less = refl
sign_itself signs.Greater = refl
sign_itself signs.Plus = refl
sign_itself signs.Minus = refl
sign_itself signs.Times = refl
sign_itself signs.Slash = refl
sign_itself signs.Backslash = refl
sign_itself signs.Percent = refl
sign_itself signs.Dot = refl
sign_itself signs.At = refl

pub same_sign : (s t : Symbol) → sign_text s ≡ sign_text t → s ≡ t
same_sign s t e = let h : Some s ≡ Some t = sym (sign_itself s) ∙ ap (sign_in all_signs) e ∙ sign_itself t in cc
