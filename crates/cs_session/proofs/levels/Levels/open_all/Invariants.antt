use Rattle.std.proofs.Common.{◌≡◌}
use Rattle.vx_smt_meaning.specs.Commands.{opened}
use Rattle.cs_session.specs.Views.{levels_of}
use Rattle.cs_session.proofs.levels.Levels.open_all.Given as goal

abbrev pub invariant-loop-level : goal.invariant-loop-level
invariant-loop-level l = levels_of l.self ≡ opened l._level (levels_of l.fn.self)
