-- What the parts of a statement give that a function reads by itself.
use Rattle.std.specs.Prelude.{ℕ, List, Ok}
use Rattle.vx_ast.specs.declared.Place.{Place}
use Rattle.vx_ast.specs.Written.{Expr, Stmt, If, While}
use Rattle.vx_tokens.specs.Tokens.{Token}
use Rattle.vx_grammar.specs.Reading.{◌>>=◌, Read}
use Rattle.vx_grammar.specs.StmtReading.{StmtDeeper, block_at, otherwise_at, invariants_at, loop_block_at}

-- behind the condition of an `if` or an `elseif`
abbrev pub branches_at : StmtDeeper → Place → Expr → List Token → Read Stmt
branches_at deeper place e ts = do
  b ← block_at deeper ts
  o ← otherwise_at deeper b.1
  Ok (If place e b.0 o.0, o.1)

-- behind the condition of a `while`
abbrev pub loop_at : ℕ → StmtDeeper → Place → Expr → List Token → Read Stmt
loop_at room deeper place e ts = do
  is ← invariants_at room ts
  b ← loop_block_at deeper is.1
  Ok (While place e is.0 b.0, b.1)
