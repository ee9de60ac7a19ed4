-- The statements of a block, as a list.
use Rattle.std.proofs.Common.{◌≡◌, refl, ap, rules}
use Rattle.vx_ast.specs.declared.Block as block
use Rattle.vx_ast.specs.declared.StmtKind.TheViews.{the_lemmas}
use Rattle.vx_ast.specs.Written as written
use Rattle.vx_ast.specs.Written.{written_stmt, written_stmts, written_block, written_list}

row : (m : _) (r : block.Row_of-Stmt m) → written_stmts r ≡ written_list (block.items-the_row-Stmt m r)
row m block.end_of-Stmt = refl
row m (block.more_of-Stmt place s rest) = ap (written.Then (written_stmt place s)) (row _ rest)

pub rows : (b : block.Block) → written_block b ≡ written_list (block.out-Block b).statements.items
rows (block.Block' shape r) = search (rules, the_lemmas, row)
