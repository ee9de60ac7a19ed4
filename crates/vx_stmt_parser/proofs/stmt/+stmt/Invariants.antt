use Rattle.std.proofs.Common.{◌≡◌, ◌+◌, ◌-◌, ◌*◌, length, map}
use Rattle.vx_tokens.specs.Tokens.{tokens_in}
use Rattle.vx_grammar.specs.Reading.{run}
use Rattle.vx_grammar.specs.StmtReading.{stmt_turn, stmts_at, stmts_below}
use Rattle.vx_stmt_parser.specs.Views.{stmt_of}
use Rattle.vx_stmt_parser.proofs.stmt.+stmt.Given as goal

abbrev pub decreases-nested_statements : goal.decreases-nested_statements
decreases-nested_statements l = 8 * l.room

abbrev pub decreases-part : goal.decreases-part
decreases-part l = 8 * l.room + 7

abbrev pub decreases-block : goal.decreases-block
decreases-block l = 8 * l.room + 1

abbrev pub decreases-otherwise : goal.decreases-otherwise
decreases-otherwise l = 8 * l.room + 2

abbrev pub decreases-loop_block : goal.decreases-loop_block
decreases-loop_block l = 8 * l.room + 2

abbrev pub decreases-branches : goal.decreases-branches
decreases-branches l = 8 * l.room + 3

abbrev pub decreases-repeating : goal.decreases-repeating
decreases-repeating l = 8 * l.room + 3

abbrev pub decreases-branch : goal.decreases-branch
decreases-branch l = 8 * l.room + 4

abbrev pub decreases-repetition : goal.decreases-repetition
decreases-repetition l = 8 * l.room + 4

abbrev pub decreases-statement : goal.decreases-statement
decreases-statement l = 8 * l.room + 5

abbrev pub decreases-statements : goal.decreases-statements
decreases-statements l = 8 * l.room + 6

-- the statements so far, and those of what is left
abbrev pub invariant-statements-loop : goal.invariant-statements-loop
invariant-statements-loop l = run (stmt_turn l.room (stmts_below l.room)) (length (tokens_in l.tokens) - l.counter) (map stmt_of l.statements.items) (tokens_in l.rest) ≡ stmts_at l.room (stmts_below l.room) (tokens_in l.tokens)
