use Rattle.std.proofs.Common.{◌≡◌, ◌+◌, drop}
use Rattle.cs_session.specs.Views.{levels_of, depth}
use Rattle.cs_session.proofs.levels.Levels.close_all.Given as goal

abbrev pub invariant-loop-level : goal.invariant-loop-level
invariant-loop-level l = (levels_of l.self ≡ drop l._level (levels_of l.fn.self)) × (depth (levels_of l.self) + l._level ≡ depth (levels_of l.fn.self))
