-- What the parts of a phrase give that a function reads by itself.
use Rattle.std.specs.Prelude.{ℕ, List, Ok}
use Rattle.vx_ast.specs.declared.Place.{Place}
use Rattle.vx_ast.specs.declared.UnaryOperator.{UnaryOperator}
use Rattle.vx_ast.specs.declared.BinaryOperator.{BinaryOperator}
use Rattle.vx_ast.specs.Written.{Expr, Unary, Binary}
use Rattle.vx_tokens.specs.Tokens.{Token}
use Rattle.vx_grammar.specs.Reading.{◌>>=◌, Read, Deeper, chain_at, rest_at}

-- what was read in front of a token that closes it
abbrev pub closed_by : {X : Type 0} → X → Read Token → Read X
closed_by x read = read >>= λ close. Ok (x, close.1)

-- an operand behind a prefix
abbrev pub prefixed_by : Place → UnaryOperator → Read Expr → Read Expr
prefixed_by place op read = read >>= λ e. Ok (Unary place op e.0, e.1)

-- what follows an operator of level + 1, one deeper
abbrev pub behind_operator : Deeper → ℕ → Place → Expr → BinaryOperator → List Token → Read Expr
behind_operator deeper level start left op ts = chain_at deeper level ts >>= λ right. rest_at deeper level start (Binary start op left right.0) right.1
