-- What nests in statements.
use Rattle.vx_grammar.specs.StmtReading as reading
use Rattle.vx_stmt_parser.specs.declared.stmt.StmtPart as the_part
use Rattle.vx_stmt_parser.specs.declared.stmt.StmtPart.TheVariants.{Statements, Elseif}

abbrev pub stmt_part_of : the_part.StmtPart → reading.StmtPart
stmt_part_of Statements = reading.statements
stmt_part_of (Elseif p) = reading.elseif_part p
