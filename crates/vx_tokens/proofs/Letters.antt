-- Tokens are text.
use Rattle.std.proofs.Common.{◌≡◌, ℕ, ◌<◌, List, [], ◌∷◌, Bool, true, false, ltb, ◌&&◌, refl, sym, subst, arith}
use Rattle.std.proofs.lemmas.Bool.{ltb-true}
use Rattle.std.specs.Str.{IsUtf8, IsAscii}
use Rattle.std.proofs.lemmas.Str.Ascii.{IsAscii-nil, IsAscii-cons}
use Rattle.std.proofs.lemmas.Str.{IsUtf8-from_ascii}
use Rattle.vx_tokens.specs.declared.token.Symbol.{Symbol}
use Rattle.vx_tokens.specs.declared.token.Symbol.TheVariants as signs
use Rattle.vx_tokens.specs.Tokens.{Kind, name, number, word, symbol}
use Rattle.vx_tokens.specs.Text.{is_digit, is_word, AreAll, IsWord, IsNumeral, Spells, sign_text}

letter_small : (b : ℕ) → is_word b ≡ true → b < 128
letter_small b h = grind arith

words_ascii : (bs : List ℕ) → AreAll is_word bs → IsAscii bs
words_ascii [] h = IsAscii-nil
words_ascii (b ∷ bs) h = IsAscii-cons b bs (letter_small b h.0) (words_ascii bs h.1)

pub word_is_text : (bs : List ℕ) → AreAll is_word bs → IsUtf8 bs
word_is_text bs h = IsUtf8-from_ascii bs (words_ascii bs h)

digit_small : (b : ℕ) → is_digit b ≡ true → b < 128
digit_small b h = grind arith

digits_ascii : (bs : List ℕ) → AreAll is_digit bs → IsAscii bs
digits_ascii [] h = IsAscii-nil
digits_ascii (b ∷ bs) h = IsAscii-cons b bs (digit_small b h.0) (digits_ascii bs h.1)

are_small : List ℕ → Bool
are_small [] = true
are_small (b ∷ bs) = ltb b 128 && are_small bs

both : (a b : Bool) → (a && b) ≡ true → (a ≡ true) × (b ≡ true)
both true b e = (refl, e)
both false b e = absurd cc

small_ascii : (bs : List ℕ) → are_small bs ≡ true → IsAscii bs
unfolding are_small
small_ascii [] e = IsAscii-nil
small_ascii (b ∷ bs) e = let p = both (ltb b 128) (are_small bs) e in IsAscii-cons b bs (ltb-true b 128 p.0) (small_ascii bs p.1)

signs_small : (s : Symbol) → are_small (sign_text s) ≡ true
unfolding are_small
signs_small signs.Implies = refl
signs_small signs.Wand = refl
signs_small signs.Equal = refl
signs_small signs.NotEqual = refl
signs_small signs.LessEqual = refl
signs_small signs.GreaterEqual = refl
signs_small signs.Becomes = refl
signs_small signs.And = refl
signs_small signs.Or = refl
signs_small signs.Open = refl
signs_small signs.Close = refl
signs_small signs.OpenBrace = refl
signs_small signs.CloseBrace = refl
signs_small signs.OpenBracket = refl
signs_small signs.Comma = refl
signs_small signs.Colon = refl
signs_small signs.Semicolon = refl
signs_small signs.Question = refl
signs_small signs.Not = refl
signs_small signs.Less = refl
signs_small signs.Greater = refl
signs_small signs.Plus = refl
signs_small signs.Minus = refl
signs_small signs.Times = refl
signs_small signs.Slash = refl
signs_small signs.Backslash = refl
signs_small signs.Percent = refl
signs_small signs.Dot = refl
signs_small signs.At = refl

word_letters : (text : List ℕ) → IsWord text → AreAll is_word text
word_letters [] h = tt
word_letters (b ∷ bs) h = (rw h.0 refl, h.1)

numeral_digits : (text : List ℕ) → IsNumeral text → AreAll is_digit text
numeral_digits [] h = tt
numeral_digits (b ∷ bs) h = h

pub spelled_is_text : (k : Kind) (text : List ℕ) → Spells k text → IsUtf8 text
spelled_is_text (name x) text h = word_is_text text (word_letters text h.0)
spelled_is_text (word w) text h = word_is_text text (word_letters text h.0)
spelled_is_text (number n) text h = IsUtf8-from_ascii text (digits_ascii text (numeral_digits text h.0))
spelled_is_text (symbol s) text h = subst IsUtf8 (sym h) (IsUtf8-from_ascii (sign_text s) (small_ascii (sign_text s) (signs_small s)))
