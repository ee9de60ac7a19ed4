use Rattle.std.proofs.Common.{◌≡◌, map, take}
use Rattle.vx_ast.specs.Resolve as resolve
use Rattle.vx_resolved.specs.Resolved as view
use Rattle.vx_ast.specs.Written.{written_member}
use Rattle.vx_settling.specs.Names.{names_in}
use Rattle.vx_settling.proofs.members.members.Given as goal

abbrev pub invariant-loop-m : goal.invariant-loop-m
invariant-loop-m l = map view.member l.settled.items ≡ map (resolve.member (names_in l.names)) (map written_member (take l.m-index l.all))
