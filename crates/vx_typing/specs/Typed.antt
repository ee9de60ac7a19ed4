-- The program that a typed one is.
use Rattle.vx_ast.specs.Written as written
use Rattle.vx_ast.specs.Written.{written_program}
use Rattle.vx_ast.specs.Resolve as resolve
use Rattle.vx_ast.specs.Syntax.{Program}
use Rattle.vx_typing.specs.declared.typed.Typed.{Typed}

-- as it is written
abbrev pub written_of : Typed → written.Program
written_of t = written_program t.program.now

-- with its names resolved, as meaning and rules speak of it
abbrev pub resolved_of : Typed → Program
resolved_of t = resolve.program (written_of t)
