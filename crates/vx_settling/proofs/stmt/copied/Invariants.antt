use Rattle.std.proofs.Common.{◌≡◌, ◌++◌, drop, map}
use Rattle.vx_ast.specs.Written.{name_of}
use Rattle.vx_resolved.specs.Resolved.{names_of}
use Rattle.vx_settling.specs.Parts.{bare}
use Rattle.vx_settling.proofs.stmt.copied.Given as goal

abbrev pub invariant-loop-name : goal.invariant-loop-name
invariant-loop-name l = names_of l.copies.items ++ bare (map name_of (drop l.name-index l.those)) ≡ bare (map name_of l.those)
