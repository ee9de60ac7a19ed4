use Rattle.std.proofs.Common.{length}
use Rattle.cs_search.proofs.Learns.{satisfied_uncovered}
use Rattle.cs_search.proofs.learn.learn.Goals as goal

pub returns-in-Ok-clause-uncovered : goal.returns-in-Ok-clause-uncovered
returns-in-Ok-clause-uncovered c =
    let s = c.args.search.now in
    satisfied_uncovered s.clauses.items s.made.values.items (length s.made.trail.items) c.args.clause.literals.items c.requires.satisfied c.requires.all_false
