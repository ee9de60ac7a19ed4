-- What the types of src/ stand for, without their pointers.
use Rattle.std.specs.Prelude.{map, string_bytes}
use Rattle.vx_smt_meaning.specs.declared.command.Command.{Command as Command'}
use Rattle.vx_smt_meaning.specs.declared.command.Command.TheVariants as command'
use Rattle.vx_smt_meaning.specs.declared.command.Declared.{Declared as Declared'}
use Rattle.vx_terms.specs.Views.{sort, symbol, term}
use Rattle.vx_smt_meaning.specs.Commands.{Command, SetOption, SetLogic, DeclareSort, DeclareFun, Assert, Push, Pop, CheckSat, GetProof, Exit, Declared}

abbrev pub declared_symbol : Declared' → Declared
declared_symbol d = record { symbol = symbol d.symbol; takes = map sort d.takes.items; gives = sort d.gives }

abbrev pub command : Command' → Command
command (command'.SetOption x b) = SetOption (string_bytes x) b
command (command'.SetLogic x) = SetLogic (string_bytes x)
command (command'.DeclareSort x) = DeclareSort (string_bytes x)
command (command'.DeclareFun d) = DeclareFun (declared_symbol d)
command (command'.Assert t) = Assert (term t.value)
command (command'.Push n) = Push n
command (command'.Pop n) = Pop n
command command'.CheckSat = CheckSat
command command'.GetProof = GetProof
command command'.Exit = Exit
