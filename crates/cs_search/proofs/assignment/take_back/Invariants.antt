use Rattle.std.proofs.Common.{◌≡◌, ◌≤◌, take, vec_len}
use Rattle.cs_search.specs.Assignment.{IsTrail}
use Rattle.cs_search.proofs.assignment.take_back.Given as goal

abbrev pub invariant-loop-made : goal.invariant-loop-made
invariant-loop-made l = record {
  room : l.cut ≤ vec_len l.made.trail;
  trail : take l.cut l.made.trail.items ≡ take l.cut l.initial.made.trail.items;
  values : vec_len l.made.values ≡ vec_len l.initial.made.values;
  sound : IsTrail l.clauses l.made.values.items l.made.trail.items;
}

abbrev pub decreases-loop-made : goal.decreases-loop-made
decreases-loop-made l = vec_len l.made.trail
