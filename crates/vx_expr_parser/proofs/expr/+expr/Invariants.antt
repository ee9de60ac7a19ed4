use Rattle.std.proofs.Common.{◌≡◌, ◌+◌, ◌-◌, ◌*◌, length}
use Rattle.vx_tokens.specs.Tokens.{tokens_in}
use Rattle.vx_grammar.specs.Reading.{run, argument_turn, below}
use Rattle.vx_expr_parser.specs.Views.{exprs_of}
use Rattle.vx_expr_parser.proofs.expr.+expr.Given as goal

abbrev pub decreases-chain : goal.decreases-chain
decreases-chain l = 32 * l.room + l.level + 7

abbrev pub decreases-nested_choice : goal.decreases-nested_choice
decreases-nested_choice l = 32 * l.room

abbrev pub decreases-nested_implication : goal.decreases-nested_implication
decreases-nested_implication l = 32 * l.room

abbrev pub decreases-nested_operand : goal.decreases-nested_operand
decreases-nested_operand l = 32 * l.room

abbrev pub decreases-nested_arguments : goal.decreases-nested_arguments
decreases-nested_arguments l = 32 * l.room

abbrev pub decreases-nested_access : goal.decreases-nested_access
decreases-nested_access l = 32 * l.room

abbrev pub decreases-nested_holding : goal.decreases-nested_holding
decreases-nested_holding l = 32 * l.room

abbrev pub decreases-enclosed_holding : goal.decreases-enclosed_holding
decreases-enclosed_holding l = 32 * l.room + 1

abbrev pub decreases-behind_in : goal.decreases-behind_in
decreases-behind_in l = 32 * l.room + 2

abbrev pub decreases-alone : goal.decreases-alone
decreases-alone l = 32 * l.room + 2

abbrev pub decreases-instance : goal.decreases-instance
decreases-instance l = 32 * l.room + 3

abbrev pub decreases-unfolding : goal.decreases-unfolding
decreases-unfolding l = 32 * l.room + 4

abbrev pub decreases-holding : goal.decreases-holding
decreases-holding l = 32 * l.room + 22

abbrev pub decreases-grouped : goal.decreases-grouped
decreases-grouped l = 32 * l.room + 1

abbrev pub decreases-enclosed_arguments : goal.decreases-enclosed_arguments
decreases-enclosed_arguments l = 32 * l.room + 1

abbrev pub decreases-enclosed_access : goal.decreases-enclosed_access
decreases-enclosed_access l = 32 * l.room + 1

abbrev pub decreases-named : goal.decreases-named
decreases-named l = 32 * l.room + 3

abbrev pub decreases-primary : goal.decreases-primary
decreases-primary l = 32 * l.room + 4

abbrev pub decreases-unary : goal.decreases-unary
decreases-unary l = 32 * l.room + 6

abbrev pub decreases-postfix : goal.decreases-postfix
decreases-postfix l = 32 * l.room + 5

abbrev pub decreases-rest_of_chain : goal.decreases-rest_of_chain
decreases-rest_of_chain l = 32 * l.room + 1

abbrev pub decreases-choice : goal.decreases-choice
decreases-choice l = 32 * l.room + 19

abbrev pub decreases-sides : goal.decreases-sides
decreases-sides l = 32 * l.room + 3

abbrev pub decreases-second : goal.decreases-second
decreases-second l = 32 * l.room + 2

abbrev pub decreases-implication : goal.decreases-implication
decreases-implication l = 32 * l.room + 18

abbrev pub decreases-amount : goal.decreases-amount
decreases-amount l = 32 * l.room + 21

abbrev pub decreases-more_arguments : goal.decreases-more_arguments
decreases-more_arguments l = 32 * l.room + 20

abbrev pub decreases-arguments : goal.decreases-arguments
decreases-arguments l = 32 * l.room + 22

abbrev pub decreases-some_arguments : goal.decreases-some_arguments
decreases-some_arguments l = 32 * l.room + 21

abbrev pub decreases-access_inside : goal.decreases-access_inside
decreases-access_inside l = 32 * l.room + 22

-- the arguments so far, and those of what is left
abbrev pub invariant-more_arguments-loop : goal.invariant-more_arguments-loop
invariant-more_arguments-loop l = run (argument_turn (below l.room)) (length (tokens_in l.tokens) - l.counter) (exprs_of l.arguments.items) (tokens_in l.rest) ≡ run (argument_turn (below l.room)) (length (tokens_in l.tokens)) (exprs_of l.initial.arguments.items) (tokens_in l.tokens)

abbrev pub decreases-implied : goal.decreases-implied
decreases-implied l = 32 * l.room + 1

abbrev pub decreases-operated : goal.decreases-operated
decreases-operated l = 32 * l.room

abbrev pub decreases-further : goal.decreases-further
decreases-further l = 32 * l.room + 20

abbrev pub decreases-operand : goal.decreases-operand
decreases-operand l = 32 * l.room + 1

abbrev pub decreases-old_value : goal.decreases-old_value
decreases-old_value l = 32 * l.room + 2

abbrev pub decreases-permission : goal.decreases-permission
decreases-permission l = 32 * l.room + 2

abbrev pub decreases-call : goal.decreases-call
decreases-call l = 32 * l.room + 2

abbrev pub decreases-some_amount : goal.decreases-some_amount
decreases-some_amount l = 32 * l.room + 20

abbrev pub decreases-shared_choice : goal.decreases-shared_choice
decreases-shared_choice l = 32 * l.room + 1
