use Rattle.std.proofs.Common.{◌≡◌, ◌-◌, ◌≤◌, length}
use Rattle.vx_tokens.specs.Tokens.{tokens_in}
use Rattle.vx_grammar.specs.Reading.{run}
use Rattle.vx_grammar.specs.MemberReading.{limit, clause_turn, clauses_at}
use Rattle.vx_parser.specs.Views.{clauses_of}
use Rattle.vx_parser.proofs.member.contract.Given as goal

-- the clauses so far, and those of what is left; and no more of a kind than there were turns
abbrev pub invariant-loop : goal.invariant-loop
invariant-loop l =
    (run (clause_turn limit l.may) (length (tokens_in l.tokens) - l.counter) (clauses_of l.clauses) (tokens_in l.rest) ≡ clauses_at limit l.may (tokens_in l.tokens))
    × (l.clauses.preconditions ≤ l.counter) × (l.clauses.postconditions ≤ l.counter)
