use Rattle.std.proofs.Common.{◌≡◌, take}
use Rattle.cs_search.specs.Learned.{IsMet, IsJoined}
use Rattle.cs_search.proofs.analyse.meet_all.Given as goal

abbrev pub invariant-loop-literal : goal.invariant-loop-literal
invariant-loop-literal l = record {
  met : IsMet l.made l.start l.k l.found;
  joined : IsJoined l.made.values.items l.initial.found.met.items (take l.literal-index l.list) l.found.met.items;
  hints : l.found.hints ≡ l.initial.found.hints;
}
