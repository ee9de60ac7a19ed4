use Rattle.cs_linear.proofs.check.find_way.Goals as goal

pub returns-then-not-freely-clause-value : goal.returns-then-not-freely-clause-value
returns-then-not-freely-clause-value c bounds l = rw c.in-Moves.is at (c.in_ok-first.ensures.value bounds l)

pub lightest-requires-clause-first : goal.lightest-requires-clause-first
lightest-requires-clause-first c bounds l = rw c.in-Moves.is at (c.in_ok-first.ensures.value bounds l)

pub returns-in-Stuck-clause-value : goal.returns-in-Stuck-clause-value
returns-in-Stuck-clause-value c bounds l = rw c.in-Stuck.is at (c.in_ok-first.ensures.value bounds l)
