-- What is known of a typed program.
use Rattle.std.specs.Prelude.{◌≡◌, Ok}
use Rattle.vx_ast.specs.Written.{Program}
use Rattle.vx_typing.specs.Programs.{program}

-- the program has no fault
abbrev pub HasNoFault : Program → Type 0
HasNoFault p = program p ≡ Ok tt
