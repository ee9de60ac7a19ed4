-- What the parts of a member give that a function reads by itself.
use Rattle.std.specs.Prelude.{ℕ, List, Ok, true, false}
use Rattle.vx_ast.specs.declared.Place.{Place}
use Rattle.vx_ast.specs.Written.{Placed, Declaration, Member}
use Rattle.vx_tokens.specs.declared.token.Symbol.TheVariants as signs
use Rattle.vx_tokens.specs.Tokens.{Token}
use Rattle.vx_grammar.specs.Reading.{◌>>=◌, Read, expect}
use Rattle.vx_grammar.specs.StmtReading.{type_at}
use Rattle.vx_grammar.specs.MemberReading.{Head, clauses_at, body_at, method_of}

-- behind the parameters of a function
abbrev pub head_behind : ℕ → Placed → List Declaration → List Token → Read Head
head_behind deep x parameters ts = do
  colon ← expect signs.Colon ts
  type ← type_at colon.1
  clauses ← clauses_at deep true type.1
  Ok (record { name = x; parameters = parameters; of = type.0.of; clauses = clauses.0 }, clauses.1)

-- behind what a method returns
abbrev pub method_behind : ℕ → Place → Placed → List Declaration → List Declaration → List Token → Read Member
method_behind deep place x parameters returns ts = do
  clauses ← clauses_at deep false ts
  body ← body_at deep clauses.1
  Ok (method_of place x parameters returns clauses.0 body.0, body.1)
