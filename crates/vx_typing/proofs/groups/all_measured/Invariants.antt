use Rattle.std.proofs.Common.{◌≡◌, drop, map}
use Rattle.vx_ast.specs.Written.{written_member}
use Rattle.vx_typing.specs.GroupFaults.{measures}
use Rattle.vx_typing.proofs.groups.all_measured.Given as goal

abbrev pub invariant-loop-n : goal.invariant-loop-n
invariant-loop-n l = measures (map written_member l.g.all.now) 0 (map written_member l.g.all.now) ≡ measures (map written_member l.g.all.now) l.n (map written_member (drop l.n l.g.all.now))
