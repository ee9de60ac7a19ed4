-- The first piece of a text, and its tokens from left to right.
use Rattle.std.specs.Prelude.{ℕ, zero, suc, ◌+◌, ◌-◌, List, [], ◌∷◌, length, take, if◌then◌else◌, ◌==◌, nat_lt, Option, Some, None}
use Rattle.std.specs.List.{prefix_len, starts_with}
use Rattle.vx_ast.specs.declared.Place.{Place}
use Rattle.vx_tokens.specs.declared.token.Symbol.{Symbol}
use Rattle.vx_tokens.specs.declared.token.Symbol.TheVariants as signs
use Rattle.vx_tokens.specs.Tokens.{Token, Kind, number, symbol}
use Rattle.vx_tokens.specs.Text.{step, after, is_blank, is_letter, is_digit, is_word, is_inside_line, word_kind, value_of, close_len, sign_text, max_numeral, Ending, AtEnd, WideLiteral, BadCharacter, OpenComment, one_token}

-- What stands in front, with its length in bytes.
pub data Next : Type 0 where
  finish : Next
  pass : ℕ → Next
  found : Kind → ℕ → Next
  wide : ℕ → Next
  unclosed : Next
  bad : Next

-- the signs, longer ones first
abbrev pub all_signs : List Symbol
all_signs = signs.Implies ∷ signs.Wand ∷ signs.Equal ∷ signs.NotEqual ∷ signs.LessEqual ∷ signs.GreaterEqual ∷ signs.Becomes
    ∷ signs.And ∷ signs.Or ∷ signs.Open ∷ signs.Close ∷ signs.OpenBrace ∷ signs.CloseBrace ∷ signs.OpenBracket
    ∷ signs.Comma ∷ signs.Colon ∷ signs.Semicolon ∷ signs.Question ∷ signs.Not ∷ signs.Less ∷ signs.Greater
    ∷ signs.Plus ∷ signs.Minus ∷ signs.Times ∷ signs.Slash ∷ signs.Backslash ∷ signs.Percent ∷ signs.Dot
    ∷ signs.At ∷ []

abbrev pub sign_in : List Symbol → List ℕ → Option Symbol
sign_in [] bytes = None
sign_in (s ∷ ss) bytes = if starts_with ◌==◌ bytes (sign_text s) then Some s else sign_in ss bytes

abbrev pub sign_next : Option Symbol → Next
sign_next None = bad
sign_next (Some s) = found (symbol s) (length (sign_text s))

abbrev pub close_next : Option ℕ → Next
close_next None = unclosed
close_next (Some n) = pass (2 + n)

abbrev pub slash_next : List ℕ → Next
slash_next [] = found (symbol signs.Slash) 1
slash_next (c ∷ cs) =
    if c == 47 then pass (2 + prefix_len is_inside_line cs)
    else (if c == 42 then close_next (close_len cs) else found (symbol signs.Slash) 1)

abbrev pub number_next : ℕ → ℕ → Next
number_next value len = if nat_lt max_numeral value then wide len else found (number value) len

unfoldable pub word_next : List ℕ → Next
word_next bytes = let len = prefix_len is_word bytes in found (word_kind (take len bytes)) len

unfoldable pub numeral_next : List ℕ → Next
numeral_next bytes = let len = prefix_len is_digit bytes in number_next (value_of (take len bytes)) len

unfoldable pub next : List ℕ → Next
next [] = finish
next (b ∷ bs) =
    if is_blank b then pass 1
    else (if is_letter b then word_next (b ∷ bs)
    else (if is_digit b then numeral_next (b ∷ bs)
    else (if b == 47 then slash_next bs
    else sign_next (sign_in all_signs (b ∷ bs)))))

-- ---- all of a text

pub record Scanned : Type 0 where
  pub tokens : List Token
  pub ending : Ending

abbrev pub none_left : Ending → Scanned
none_left e = record { tokens = []; ending = e }

abbrev pub with_token : Token → Scanned → Scanned
with_token t s = record { tokens = t ∷ s.tokens; ending = s.ending }

-- by what stands in front: go tells what follows behind so many bytes more than one
abbrev pub scanned_by : Next → Place → List ℕ → (ℕ → Scanned) → Scanned
scanned_by finish p bytes go = none_left (AtEnd p)
scanned_by (pass n) p bytes go = go (n - 1)
scanned_by (found k n) p bytes go = with_token (one_token k p) (go (n - 1))
scanned_by (wide n) p bytes go = none_left (WideLiteral p)
scanned_by unclosed p bytes go = none_left (OpenComment (after p bytes))
scanned_by bad p bytes go = none_left (BadCharacter p)

-- the tokens and the ending of bytes from a place on, behind so many bytes that were looked at already
unfoldable pub scan : ℕ → Place → List ℕ → Scanned
scan n p [] = none_left (AtEnd p)
scan (suc n) p (b ∷ bs) = scan n (step p b) bs
scan zero p (b ∷ bs) = scanned_by (next (b ∷ bs)) p (b ∷ bs) (λ n. scan n (step p b) bs)
