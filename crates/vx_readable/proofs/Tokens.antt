-- The numbers among the tokens of a text are below 2^127.
use Rattle.std.proofs.Common.{◌≡◌, ℕ, suc, ◌<◌, ◌^◌, List, [], ◌∷◌, refl, sym, subst, arith}
use Rattle.std.specs.Prelude.{⊤}
use Rattle.vx_ast.specs.declared.Place.{Place}
use Rattle.vx_tokens.specs.Tokens.{Kind, name, number, word, symbol, Token}
use Rattle.vx_tokens.specs.Text.{token, IsWide, max_numeral, Ending, Scans, scans_end, scans_blank, scans_line, scans_block, scans_token, scans_wide, scans_open, scans_bad}
use Rattle.vx_terms.specs.Interpretations.{Each}
use Rattle.vx_grammar.specs.Grammar.{Mark, tokens_of}

abbrev pub IsSmallKindOfToken : Kind → Type 0
IsSmallKindOfToken (name x) = ⊤
IsSmallKindOfToken (number n) = n < 2 ^ 127
IsSmallKindOfToken (word w) = ⊤
IsSmallKindOfToken (symbol s) = ⊤

abbrev IsSmallToken : Token → Type 0
IsSmallToken t = IsSmallKindOfToken t.kind

abbrev pub IsSmallMark : Mark → Type 0
IsSmallMark m = IsSmallToken m.token

not_wide : (n m : ℕ) → (m < n → ⊥) → n < suc m
not_wide n m h = omega (arith, h)

top : suc max_numeral ≡ 2 ^ 127
top = refl

kind_small : (k : Kind) (text : List ℕ) → (IsWide (token k text) → ⊥) → IsSmallKindOfToken k
kind_small (name x) text h = tt
kind_small (number n) text h = subst (λ m. n < m) top (not_wide n max_numeral h)
kind_small (word w) text h = tt
kind_small (symbol s) text h = tt

tokens_small : {p : Place} {bytes : List ℕ} {ts : List Token} {e : Ending} → Scans p bytes ts e → Each IsSmallToken ts
tokens_small scans_end = tt
tokens_small (scans_blank l more) = tokens_small more
tokens_small (scans_line l more) = tokens_small more
tokens_small (scans_block l more) = tokens_small more
tokens_small (scans_token {k = k} {text = text} l wide open' more) = (kind_small k text wide, tokens_small more)
tokens_small (scans_wide l wide) = tt
tokens_small (scans_open o) = tt
tokens_small (scans_bad none o) = tt

marks_of : (ms : List Mark) → Each IsSmallToken (tokens_of ms) → Each IsSmallMark ms
marks_of [] h = tt
marks_of (m ∷ ms) h = (h.0, marks_of ms h.1)

-- the marks whose tokens a text has
pub marks_small : {p : Place} {bytes : List ℕ} {ts : List Token} {e : Ending} (ms : List Mark) → Scans p bytes ts e → tokens_of ms ≡ ts → Each IsSmallMark ms
marks_small ms scans same = marks_of ms (subst (λ us. Each IsSmallToken us) (sym same) (tokens_small scans))
