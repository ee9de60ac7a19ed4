use Rattle.std.proofs.Common.{}
use Rattle.cs_serve.proofs.Steps.{starts}
use Rattle.cs_serve.proofs.solver.Solver.new.Goals as goal

pub returns-clause-begins : goal.returns-clause-begins
returns-clause-begins c = λ before talk is. rw (c.new-3.ensures.items, c.new.ensures.state) (starts before talk is)

pub returns-clause-reached : goal.returns-clause-reached
returns-clause-reached c = c.new-2.ensures c.new-3.result.items
