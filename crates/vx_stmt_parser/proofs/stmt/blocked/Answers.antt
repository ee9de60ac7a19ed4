use Rattle.vx_stmt_parser.proofs.Rows.{block_items}
use Rattle.vx_stmt_parser.proofs.stmt.blocked.Goals as goal

pub returns : goal.returns
returns c = block_items c.args.statements
