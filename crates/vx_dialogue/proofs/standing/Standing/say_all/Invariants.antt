use Rattle.std.proofs.Common.{◌≡◌, ◌++◌, [], map, drop}
use Rattle.vx_smt_meaning.specs.Views.{command}
use Rattle.vx_segments.specs.Segments.{terms}
use Rattle.vx_segments.specs.Views.{entry}
use Rattle.vx_dialogue.specs.Symbols.{with_listed}
use Rattle.vx_dialogue.specs.Segments.{last_of, sent}
use Rattle.vx_dialogue.specs.Standing.{path_of, IsSound}
use Rattle.vx_dialogue.proofs.standing.Standing.say_all.Given as goal

abbrev pub invariant-loop-e : goal.invariant-loop-e
invariant-loop-e l = record {
  said : map command l.commands.items ++ sent (last_of 0 (path_of l.self)) (with_listed [] (terms (path_of l.self))) (map entry (drop l.e-index l.entries))
      ≡ map command l.fn.commands.items ++ sent (last_of 0 (path_of l.fn.self)) (with_listed [] (terms (path_of l.fn.self))) (map entry l.entries);
  path : path_of l.self ++ map entry (drop l.e-index l.entries) ≡ path_of l.fn.self ++ map entry l.entries;
  sound : IsSound l.self;
}
