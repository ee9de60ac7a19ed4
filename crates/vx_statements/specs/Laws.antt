-- Two ways to say what is typed agree, of statements.
use Rattle.std.specs.Prelude.{◌≡◌, ◌↔◌, Ok}
use Rattle.vx_ast.specs.Written.{Stmt, Block}
use Rattle.vx_expressions.specs.Settings.{Table}
use Rattle.vx_expressions.specs.Scopes.{Scope}
use Rattle.vx_expressions.specs.Laws.{HasFault}
use Rattle.vx_statements.specs.Statements.{IsTypedStmt, IsTypedBlock}
use Rattle.vx_statements.specs.StatementFaults.{stmt, block}

-- a statement, a block
abbrev pub StatementsAgree : Type 0
StatementsAgree = (table : Table) (scope : Scope) (st : Stmt) → (stmt table scope st ≡ Ok tt) ↔ IsTypedStmt table scope st

abbrev pub BlocksAgree : Type 0
BlocksAgree = (table : Table) (scope : Scope) (b : Block) → (block table scope b ≡ Ok tt) ↔ IsTypedBlock table scope b

abbrev pub OtherBlocksAreFaulty : Type 0
OtherBlocksAreFaulty = (table : Table) (scope : Scope) (b : Block) → HasFault (block table scope b) ↔ (IsTypedBlock table scope b → ⊥)
