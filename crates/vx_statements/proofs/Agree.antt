-- The laws of typing of statements.
use Rattle.vx_expressions.proofs.Agree.{faulty, gives_none}
use Rattle.vx_statements.specs.Laws.{StatementsAgree, BlocksAgree, OtherBlocksAreFaulty}
use Rattle.vx_statements.specs.StatementFaults.{block}
use Rattle.vx_statements.proofs.AgreesStatements.{to_stmt, to_block, from_stmt, from_block}

pub statements : StatementsAgree
statements table scope st = (to_stmt table scope st tt, from_stmt table scope st)

pub blocks : BlocksAgree
blocks table scope b = (to_block table scope b tt, from_block table scope b)

pub other_blocks : OtherBlocksAreFaulty
other_blocks table scope b =
    (λ h k. gives_none (block table scope b) h tt (from_block table scope b k), λ h. faulty (block table scope b) (λ u k. h (to_block table scope b u k)))
