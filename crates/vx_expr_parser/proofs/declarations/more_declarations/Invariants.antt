use Rattle.std.proofs.Common.{◌≡◌, ◌-◌, length, map}
use Rattle.vx_tokens.specs.Tokens.{tokens_in}
use Rattle.vx_grammar.specs.Reading.{run}
use Rattle.vx_grammar.specs.MemberReading.{declaration_turn}
use Rattle.vx_ast.specs.Written.{written_declaration}
use Rattle.vx_expr_parser.proofs.declarations.more_declarations.Given as goal

-- the declarations so far, and those of what is left
abbrev pub invariant-loop : goal.invariant-loop
invariant-loop l = run declaration_turn (length (tokens_in l.tokens) - l.counter) (map written_declaration l.declarations.items) (tokens_in l.rest) ≡ run declaration_turn (length (tokens_in l.tokens)) (map written_declaration l.initial.declarations.items) (tokens_in l.tokens)
