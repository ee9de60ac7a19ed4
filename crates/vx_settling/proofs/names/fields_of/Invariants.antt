use Rattle.std.proofs.Common.{◌≡◌, ◌++◌, drop, map}
use Rattle.vx_ast.specs.Resolve.{fields_of}
use Rattle.vx_ast.specs.Written.{written_member}
use Rattle.vx_resolved.specs.Resolved.{names_of as listed}
use Rattle.vx_settling.proofs.names.fields_of.Given as goal

abbrev pub invariant-loop-m : goal.invariant-loop-m
invariant-loop-m l = listed l.names.items ++ fields_of (map written_member (drop l.m-index l.all)) ≡ fields_of (map written_member l.all)
