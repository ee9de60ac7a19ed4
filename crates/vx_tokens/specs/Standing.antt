-- Where a token stands in a text.
use Rattle.std.specs.Prelude.{◌≡◌, ℕ, List, ◌++◌}
use Rattle.vx_ast.specs.declared.Place.{Place}
use Rattle.vx_tokens.specs.Tokens.{Kind}
use Rattle.vx_tokens.specs.Text.{after, first_place, token, IsLongest}

-- this place stands behind a part of the text, and in front of these bytes
pub record IsReached (text : List ℕ) (at : Place) (bytes : List ℕ) : Type 0 where
  pub front : List ℕ
  pub whole : text ≡ front ++ bytes
  pub place : after first_place front ≡ at

-- the token stands there, spelled so
pub record TokenAt (text : List ℕ) (at : Place) (k : Kind) (spelled : List ℕ) : Type 0 where
  pub bytes : List ℕ
  pub rest : List ℕ
  pub reached : IsReached text at bytes
  pub longest : IsLongest (token k spelled) bytes rest
