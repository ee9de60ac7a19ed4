use Rattle.std.proofs.Common.{true, pos}
use Rattle.vx_terms.specs.Formed as formed
use Rattle.vx_examples.proofs.WellSorted.{of_other_sort, fraction, not_lowest, constant, unknown, applied, applied_to_unknown, denied_bool, denied_int, sum, mixed_sum, sum_of_bools, choice, choice_by_int, mixed_choice, all_of, all_of_ints, some_of, some_of_ints, known, not_known}
use Rattle.vx_examples.proofs.sorts.formed_terms.Goals as goal

pub returns-clause-truth : goal.returns-clause-truth
returns-clause-truth c = formed.truth true

pub returns-clause-of_other_sort : goal.returns-clause-of_other_sort
returns-clause-of_other_sort c = of_other_sort

pub returns-clause-number : goal.returns-clause-number
returns-clause-number c = formed.number (pos 1)

pub returns-clause-fraction : goal.returns-clause-fraction
returns-clause-fraction c = fraction

pub returns-clause-not_lowest : goal.returns-clause-not_lowest
returns-clause-not_lowest c = not_lowest

pub returns-clause-constant : goal.returns-clause-constant
returns-clause-constant c = constant

pub returns-clause-unknown : goal.returns-clause-unknown
returns-clause-unknown c = unknown

pub returns-clause-applied : goal.returns-clause-applied
returns-clause-applied c = applied

pub returns-clause-applied_to_unknown : goal.returns-clause-applied_to_unknown
returns-clause-applied_to_unknown c = applied_to_unknown

pub returns-clause-denied : goal.returns-clause-denied
returns-clause-denied c = denied_bool

pub returns-clause-denied_int : goal.returns-clause-denied_int
returns-clause-denied_int c = denied_int

pub returns-clause-sum : goal.returns-clause-sum
returns-clause-sum c = sum

pub returns-clause-mixed_sum : goal.returns-clause-mixed_sum
returns-clause-mixed_sum c = mixed_sum

pub returns-clause-sum_of_bools : goal.returns-clause-sum_of_bools
returns-clause-sum_of_bools c = sum_of_bools

pub returns-clause-choice : goal.returns-clause-choice
returns-clause-choice c = choice

pub returns-clause-choice_by_int : goal.returns-clause-choice_by_int
returns-clause-choice_by_int c = choice_by_int

pub returns-clause-mixed_choice : goal.returns-clause-mixed_choice
returns-clause-mixed_choice c = mixed_choice

pub returns-clause-all_of : goal.returns-clause-all_of
returns-clause-all_of c = all_of

pub returns-clause-all_of_ints : goal.returns-clause-all_of_ints
returns-clause-all_of_ints c = all_of_ints

pub returns-clause-some_of : goal.returns-clause-some_of
returns-clause-some_of c = some_of

pub returns-clause-some_of_ints : goal.returns-clause-some_of_ints
returns-clause-some_of_ints c = some_of_ints

pub returns-clause-known : goal.returns-clause-known
returns-clause-known c = known

pub returns-clause-not_known : goal.returns-clause-not_known
returns-clause-not_known c = not_known
