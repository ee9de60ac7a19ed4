-- The program whose names are numbered.
use Rattle.vx_ast.specs.Syntax.{Program}
use Rattle.vx_settling.specs.declared.table.Table.{Table}
use Rattle.vx_resolved.specs.Resolved.{program}

-- its members in file order
abbrev pub listed : Table → Program
listed t = program t.program.now
