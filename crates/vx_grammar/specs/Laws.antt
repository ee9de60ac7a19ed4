-- What tokens spell, and where they stop spelling.
use Rattle.std.specs.Prelude.{◌≡◌, ℕ, ◌≤◌, ◌<◌, List, [], ◌∷◌, ◌++◌, Result, Ok, Err}
use Rattle.std.specs.List.{AllByRecursion}
use Rattle.vx_tokens.specs.Tokens.{Token}
use Rattle.vx_ast.specs.Written.{Expr}
use Rattle.vx_grammar.specs.Grammar.{Phrase, Mark, marks, tokens_of, meant, StandsAt}
use Rattle.vx_grammar.specs.Reading.{◌>>=◌, Stop, Unexpected, Measured, TooDeep, choice_at, below}

-- no token's nesting count passes the limit
abbrev pub Within : ℕ → List Mark → Type 0
Within limit ms = AllByRecursion (λ m. m.count ≤ limit) ms

-- the tokens, all of them, spell the expression
pub record Spelled (ts : List Token) (e : Expr) : Type 0 where
  pub phrase : Phrase
  pub stands : StandsAt 8 phrase
  pub means : meant phrase ≡ e
  pub tokens : tokens_of (marks 0 phrase) ≡ ts

-- and no nesting count passes the limit
pub record SpelledWithin (limit : ℕ) (ts : List Token) (e : Expr) : Type 0 where
  pub spelled : Spelled ts e
  pub within : Within limit (marks 0 spelled.phrase)

-- these marks can be gone on with
pub record CanGoOn (ms : List Mark) : Type 0 where
  pub phrase : Phrase
  pub stands : StandsAt 8 phrase
  pub more : List Mark
  pub marks : marks 0 phrase ≡ ms ++ more

-- the tokens in front of the rest fit, and stay within the limit
pub record FitsUpTo (limit : ℕ) (ts rest : List Token) (ms : List Mark) : Type 0 where
  pub tokens : ts ≡ tokens_of ms ++ rest
  pub within : Within limit ms
  pub goes_on : CanGoOn ms

-- no expression goes on with the first token of the rest; where none is left, the tokens are no expression yet
abbrev pub NoneFits : List Token → List Token → Type 0
NoneFits front [] = (e : Expr) → Spelled front e → ⊥
NoneFits front (t ∷ rest) = (e : Expr) (more : List Token) → Spelled (front ++ t ∷ more) e → ⊥

-- the rest begins with the first token that does not fit
pub record StopsUnfit (limit : ℕ) (ts rest : List Token) : Type 0 where
  pub front : List Mark
  pub fits : FitsUpTo limit ts rest front
  pub none : NoneFits (tokens_of front) rest

-- the rest begins with the first token that nests deeper than the limit, and it fits
pub record StopsDeep (limit : ℕ) (ts rest : List Token) : Type 0 where
  pub front : List Mark
  pub deep : Mark
  pub after : List Token
  pub first : rest ≡ deep.token ∷ after
  pub fits : FitsUpTo limit ts rest front
  pub count : limit < deep.count
  pub goes_on : CanGoOn (front ++ deep ∷ [])

-- reading all of the tokens as one expression
abbrev pub no_rest : Expr → List Token → Result Expr Stop
no_rest e [] = Ok e
no_rest e (t ∷ ts) = Err (Unexpected (t ∷ ts))

unfoldable pub whole : ℕ → List Token → Result Expr Stop
whole limit ts = choice_at (below limit) ts >>= λ x. no_rest x.0 x.1

-- what the answer says of the tokens
abbrev pub Says : ℕ → List Token → Result Expr Stop → Type 0
Says limit ts (Ok e) = SpelledWithin limit ts e
Says limit ts (Err (Unexpected rest)) = StopsUnfit limit ts rest
Says limit ts (Err (Measured rest)) = StopsUnfit limit ts rest
Says limit ts (Err (TooDeep rest)) = StopsDeep limit ts rest

abbrev pub AnswersAreRight : Type 0
AnswersAreRight = (limit : ℕ) (ts : List Token) → Says limit ts (whole limit ts)

abbrev pub SpelledIsRead : Type 0
SpelledIsRead = (limit : ℕ) (ts : List Token) (e : Expr) → SpelledWithin limit ts e → whole limit ts ≡ Ok e

-- tokens spell one expression at most
abbrev pub SpelledOnce : Type 0
SpelledOnce = (ts : List Token) (e f : Expr) → Spelled ts e → Spelled ts f → e ≡ f
