-- A symbol's code tells it.
use Rattle.std.proofs.Common.{◌≡◌, ℕ, true, cond, eqb, refl, sym, ap, ◌∙◌}
use Rattle.std.proofs.lemmas.Bool.{eqb-true, eq-eqb}
use Rattle.vx_tokens.specs.declared.token.Symbol.{Symbol}
use Rattle.vx_tokens.specs.declared.token.Symbol.TheVariants as signs
use Rattle.vx_tokens.specs.Tokens.{Kind, name, number, word, symbol}
use Rattle.vx_grammar.specs.Reading.{code, is_symbol}

abbrev sign_at : ℕ → Symbol
sign_at n = cond (eqb n 0) signs.Implies (cond (eqb n 1) signs.Wand (cond (eqb n 2) signs.Equal (cond (eqb n 3) signs.NotEqual (cond (eqb n 4) signs.LessEqual (cond (eqb n 5) signs.GreaterEqual (cond (eqb n 6) signs.Becomes (cond (eqb n 7) signs.And (cond (eqb n 8) signs.Or (cond (eqb n 9) signs.Open (cond (eqb n 10) signs.Close (cond (eqb n 11) signs.OpenBrace (cond (eqb n 12) signs.CloseBrace (cond (eqb n 13) signs.OpenBracket (cond (eqb n 14) signs.Comma (cond (eqb n 15) signs.Colon (cond (eqb n 16) signs.Semicolon (cond (eqb n 17) signs.Question (cond (eqb n 18) signs.Not (cond (eqb n 19) signs.Less (cond (eqb n 20) signs.Greater (cond (eqb n 21) signs.Plus (cond (eqb n 22) signs.Minus (cond (eqb n 23) signs.Times (cond (eqb n 24) signs.Slash (cond (eqb n 25) signs.Backslash (cond (eqb n 26) signs.Percent (cond (eqb n 27) signs.Dot (signs.At))))))))))))))))))))))))))))

sign_is : (s : Symbol) → sign_at (code s) ≡ s
sign_is signs.Implies = refl
sign_is signs.Wand = refl
sign_is signs.Equal = refl
sign_is signs.NotEqual = refl
sign_is signs.LessEqual = refl
sign_is signs.GreaterEqual = refl
sign_is signs.Becomes = refl
sign_is signs.And = refl
sign_is signs.Or = refl
sign_is signs.Open = refl
sign_is signs.Close = refl
sign_is signs.OpenBrace = refl
sign_is signs.CloseBrace = refl
sign_is signs.OpenBracket = refl
sign_is signs.Comma = refl
sign_is signs.Colon = refl
sign_is signs.Semicolon = refl
sign_is signs.Question = refl
sign_is signs.Not = refl
sign_is signs.Less = refl
sign_is signs.Greater = refl
sign_is signs.Plus = refl
sign_is signs.Minus = refl
sign_is signs.Times = refl
sign_is signs.Slash = refl
sign_is signs.Backslash = refl
sign_is signs.Percent = refl
sign_is signs.Dot = refl
sign_is signs.At = refl

pub same_code : (s t : Symbol) → code s ≡ code t → s ≡ t
same_code s t e = sym (sign_is s) ∙ ap sign_at e ∙ sign_is t

pub is_symbol_self : (s : Symbol) → is_symbol s (symbol s) ≡ true
is_symbol_self s = eq-eqb (code s) (code s) refl

pub is_symbol_true : (s : Symbol) (k : Kind) → is_symbol s k ≡ true → k ≡ symbol s
is_symbol_true s (symbol t) h = ap symbol (sym (same_code s t (eqb-true _ _ h)))
is_symbol_true s (word w) h = absurd cc
is_symbol_true s (name x) h = absurd cc
is_symbol_true s (number n) h = absurd cc
