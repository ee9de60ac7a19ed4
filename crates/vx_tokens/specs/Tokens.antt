-- Tokens without where they lie in memory.
use Rattle.std.specs.Prelude.{ℕ, List, map}
use Rattle.vx_ast.specs.declared.Place.{Place}
use Rattle.vx_tokens.specs.declared.token.Word.{Word}
use Rattle.vx_tokens.specs.declared.token.Symbol.{Symbol}
use Rattle.vx_tokens.specs.declared.token.Kind as the_kind
use Rattle.vx_tokens.specs.declared.token.Kind.TheVariants as kinds
use Rattle.vx_tokens.specs.declared.token.Token as the_token

pub data Kind : Type 0 where
  name : List ℕ → Kind
  number : ℕ → Kind
  word : Word → Kind
  symbol : Symbol → Kind

pub record Token : Type 0 where
  pub kind : Kind
  pub place : Place

abbrev pub kind_of : the_kind.Kind → Kind
kind_of (kinds.Name x) = name x.now
kind_of (kinds.Number n) = number n
kind_of (kinds.Word w) = word w
kind_of (kinds.Symbol s) = symbol s

abbrev pub token_of : the_token.Token → Token
token_of t = record { kind = kind_of t.kind; place = t.place }

abbrev pub tokens_in : List the_token.Token → List Token
tokens_in ts = map token_of ts
