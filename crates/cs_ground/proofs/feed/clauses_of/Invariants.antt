use Rattle.std.proofs.Common.{◌≡◌, map, length, take}
use Rattle.cs_search.specs.Extended.{AreKnown}
use Rattle.cs_ground.specs.Atoms.{all_named, literals}
use Rattle.cs_ground.proofs.feed.clauses_of.Given as goal

abbrev pub invariant-loop-clause : goal.invariant-loop-clause
invariant-loop-clause l = record {
  same : map (all_named l.atoms.terms.items) (literals l.all.items) ≡ literals (take l.clause-index l.clauses);
  known : AreKnown l.all.items (length l.atoms.terms.items);
}
