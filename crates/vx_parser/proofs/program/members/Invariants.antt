use Rattle.std.proofs.Common.{◌≡◌, ◌-◌, length, map}
use Rattle.vx_ast.specs.Written.{written_member}
use Rattle.vx_tokens.specs.Tokens.{tokens_in}
use Rattle.vx_grammar.specs.MemberReading.{max_members, limit, members_by, members_at}
use Rattle.vx_parser.proofs.program.members.Given as goal

-- the members so far, and those of what is left
abbrev pub invariant-loop : goal.invariant-loop
invariant-loop l = members_by limit max_members (length (tokens_in l.tokens) - l.counter) (map written_member l.members.items) (tokens_in l.rest) ≡ members_at (tokens_in l.tokens)
