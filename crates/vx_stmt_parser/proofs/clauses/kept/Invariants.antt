use Rattle.std.proofs.Common.{◌≡◌, ◌-◌, [], length}
use Rattle.vx_tokens.specs.Tokens.{tokens_in}
use Rattle.vx_grammar.specs.Reading.{run}
use Rattle.vx_grammar.specs.StmtReading.{invariant_turn}
use Rattle.vx_expr_parser.specs.Views.{exprs_of}
use Rattle.vx_stmt_parser.proofs.clauses.kept.Given as goal

-- the invariants so far, and those of what is left
abbrev pub invariant-loop : goal.invariant-loop
invariant-loop l = run (invariant_turn l.room) (length (tokens_in l.tokens) - l.counter) (exprs_of l.invariants.items) (tokens_in l.rest) ≡ run (invariant_turn l.room) (length (tokens_in l.tokens)) [] (tokens_in l.tokens)
