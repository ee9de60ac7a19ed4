use Rattle.std.proofs.Common.{◌<◌, sym, subst, map}
use Rattle.vx_ast.specs.Written.{written_member}
use Rattle.vx_typing.proofs.Reachable.{number_below}
use Rattle.vx_typing.proofs.groups.is_own.Goals as goal

pub are_together-requires-clause-b : goal.are_together-requires-clause-b
are_together-requires-clause-b c =
    let p = map written_member c.args.g.all.now in
    subst (λ n. c.in-Some.other.0 < n) (sym c.requires.groups.count) (number_below p c.args.name.now c.in-Some.other.0 (sym (c.in-Some.ensures p c.requires.table)))
