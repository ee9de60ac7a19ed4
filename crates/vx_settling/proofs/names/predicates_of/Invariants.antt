use Rattle.std.proofs.Common.{◌≡◌, ◌||◌, drop, map}
use Rattle.vx_ast.specs.Resolve.{has_member, is_predicate}
use Rattle.vx_ast.specs.Syntax.{Name}
use Rattle.vx_ast.specs.Written.{written_member}
use Rattle.vx_settling.specs.Names.{has_name}
use Rattle.vx_settling.proofs.names.predicates_of.Given as goal

-- the names so far, and those of the members behind
abbrev pub invariant-loop-m : goal.invariant-loop-m
invariant-loop-m l = (x : Name) → (has_name l.names x || has_member is_predicate (map written_member (drop l.m-index l.all)) x) ≡ has_member is_predicate (map written_member l.all) x
