use Rattle.std.proofs.Common.{true, false, map}
use Rattle.vx_ast.specs.Written.{written_member}
use Rattle.vx_graph.specs.Groups.{roots}
use Rattle.vx_typing.specs.Numbered.{AreMarks}
use Rattle.vx_typing.proofs.groups.kinds_of.Given as goal

abbrev pub invariant-loop-n : goal.invariant-loop-n
invariant-loop-n l =
    AreMarks (map written_member l.g.all.now) (roots l.g.groups.now) true l.n l.by_instance.items
    × AreMarks (map written_member l.g.all.now) (roots l.g.groups.now) false l.n l.by_number.items
