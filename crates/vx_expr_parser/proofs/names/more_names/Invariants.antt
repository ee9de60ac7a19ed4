use Rattle.std.proofs.Common.{◌≡◌, ◌-◌, length, map}
use Rattle.vx_tokens.specs.Tokens.{tokens_in}
use Rattle.vx_grammar.specs.Reading.{run, name_turn}
use Rattle.vx_ast.specs.Written.{name_of}
use Rattle.vx_expr_parser.proofs.names.more_names.Given as goal

-- the names so far, and those of what is left
abbrev pub invariant-loop : goal.invariant-loop
invariant-loop l = run name_turn (length (tokens_in l.tokens) - l.counter) (map name_of l.names.items) (tokens_in l.rest) ≡ run name_turn (length (tokens_in l.tokens)) (map name_of l.initial.names.items) (tokens_in l.tokens)
