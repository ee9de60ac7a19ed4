use Rattle.std.proofs.Common.{ap}
use Rattle.cs_search.proofs.Learns.{learns_same, learns_twice}
use Rattle.cs_search.proofs.search.round.Goals as goal

pub returns-then-not-spend-clause-learns : goal.returns-then-not-spend-clause-learns
returns-then-not-spend-clause-learns c = learns_same c.args.search.now c.spread.new.search (ap (λ x. x.clauses) c.spread.ensures.same) (ap (λ x. x.steps) c.spread.ensures.same)

pub returns-in_ok-refutation-in-None-latest-clause-learns : goal.returns-in_ok-refutation-in-None-latest-clause-learns
returns-in_ok-refutation-in-None-latest-clause-learns c = learns_same c.args.search.now c.spread.new.search (ap (λ x. x.clauses) c.spread.ensures.same) (ap (λ x. x.steps) c.spread.ensures.same)

pub returns-then-branch-clause-learns : goal.returns-then-branch-clause-learns
returns-then-branch-clause-learns c = learns_twice _ _ _ _ _ _ (learns_same c.args.search.now c.spread.new.search (ap (λ x. x.clauses) c.spread.ensures.same) (ap (λ x. x.steps) c.spread.ensures.same)) (learns_same c.spread.new.search c.decide.new.search (ap (λ x. x.clauses) c.decide.ensures.same) (ap (λ x. x.steps) c.decide.ensures.same))

pub returns-else-branch-clause-learns : goal.returns-else-branch-clause-learns
returns-else-branch-clause-learns c = learns_twice _ _ _ _ _ _ (learns_same c.args.search.now c.spread.new.search (ap (λ x. x.clauses) c.spread.ensures.same) (ap (λ x. x.steps) c.spread.ensures.same)) (learns_same c.spread.new.search c.decide.new.search (ap (λ x. x.clauses) c.decide.ensures.same) (ap (λ x. x.steps) c.decide.ensures.same))
