-- Statements and blocks without where they lie in memory.
use Rattle.std.specs.Prelude.{Option, Some, None}
use Rattle.vx_ast.specs.declared.Stmt as the_stmt
use Rattle.vx_ast.specs.declared.Block as the_block
use Rattle.std.specs.declared.alloc.Global.{Global}
use Rattle.std.specs.declared.rc.Rc.{Rc}
use Rattle.vx_ast.specs.Written.{Stmt, Other, NoElse, Else, Block, written_stmt, written_block}

abbrev pub stmt_of : the_stmt.Stmt → Stmt
stmt_of s = written_stmt s.place s.kind

abbrev pub block_of : the_block.Block → Block
block_of b = written_block b

-- the other side of an `if`
abbrev pub other_of : Option (Rc the_block.Block Global) → Other
other_of None = NoElse
other_of (Some b) = Else (written_block b.value)
