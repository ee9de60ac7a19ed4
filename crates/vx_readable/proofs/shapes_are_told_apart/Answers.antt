use Rattle.vx_readable.proofs.Examples.{question_shaped, two_unshaped, large_unshaped, low_unshaped}
use Rattle.vx_readable.proofs.shapes_are_told_apart.Goals as goal

pub returns-clause-shaped : goal.returns-clause-shaped
returns-clause-shaped c = question_shaped

pub returns-clause-of_nothing : goal.returns-clause-of_nothing
returns-clause-of_nothing c = λ h. h

pub returns-clause-of_two : goal.returns-clause-of_two
returns-clause-of_two c = two_unshaped

pub returns-clause-too_large : goal.returns-clause-too_large
returns-clause-too_large c = large_unshaped

pub returns-clause-too_low : goal.returns-clause-too_low
returns-clause-too_low c = low_unshaped
