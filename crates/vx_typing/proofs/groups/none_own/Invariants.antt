use Rattle.std.proofs.Common.{◌≡◌, drop, map}
use Rattle.vx_ast.specs.Written.{written_member}
use Rattle.vx_typing.specs.GroupFaults.{none_own}
use Rattle.vx_typing.specs.Seen.{seen}
use Rattle.vx_typing.proofs.groups.none_own.Given as goal

abbrev pub invariant-loop-u : goal.invariant-loop-u
invariant-loop-u l =
    none_own (map written_member l.g.all.now) l.member.0 l.every (seen l.uses) ≡ none_own (map written_member l.g.all.now) l.member.0 l.every (seen (drop l.u-index l.uses))
