-- A block is the list of its statements.
use Rattle.std.proofs.Common.{◌≡◌, map, refl, ap, rules}
use Rattle.std.specs.Global.{Vec}
use Rattle.vx_ast.specs.declared.Stmt as the_stmt
use Rattle.vx_ast.specs.declared.Block as the_block
use Rattle.vx_ast.specs.declared.Block.{Row_of-Stmt, end_of-Stmt, more_of-Stmt, items-the_row-Stmt, items_hidden-the_row-Stmt-0}
use Rattle.vx_ast.specs.Written.{Then, written_stmt, written_stmts}
use Rattle.vx_grammar.specs.StmtReading.{block_from}
use Rattle.vx_stmt_parser.specs.Views.{stmt_of, block_of}

pub row_items : (n : _) (k : Row_of-Stmt n) → written_stmts k ≡ block_from (map stmt_of (items-the_row-Stmt n k))
row_items n end_of-Stmt = refl
row_items n (more_of-Stmt place s rest) = ap (Then (written_stmt place s)) (row_items _ rest)

pub block_items : (v : Vec the_stmt.Stmt) → (let b : the_block.Block = the_block.roll-Block record { statements = v } in block_of b ≡ block_from (map stmt_of v.items))
block_items v = search (rules, the_block.the_lemmas, row_items)
