-- What `understand` answers.
use Rattle.std.specs.Prelude.{ℕ, ◌≤◌, List, Ok, Err}
use Rattle.std.specs.declared.result.Result.{Result}
use Rattle.vx_sexp.specs.declared.token.Token.{Token}
use Rattle.vx_sexp.specs.declared.reader.SexpFault.TheVariants as sexp_faults
use Rattle.vx_sexp.specs.First.{IsFirst, Faults, deepest}
use Rattle.vx_smt_meaning.specs.Views.{command}
use Rattle.vx_smt_meaning.specs.declared.command.Command.{Command as Command'}
use Rattle.cs_commands.specs.declared.fault.CommandFault.{CommandFault}
use Rattle.cs_commands.specs.declared.fault.CommandFault.TheVariants as command_faults
use Rattle.cs_commands.specs.declared.fault.Fault.{Fault}
use Rattle.cs_commands.specs.declared.fault.Fault.TheVariants as faults
use Rattle.cs_commands.specs.Outcomes.{Gives}
use Rattle.cs_commands.specs.Live.{Scope}
use Rattle.cs_commands.specs.Commands.{understood}

-- the first s-expression of the bytes, of at most 4096 lists within one another, is understood so
abbrev pub IsUnderstood : Scope → List ℕ → Result Command' CommandFault → Type 0
IsUnderstood scope bytes answer =
    (tokens : List Token) × (rest : List ℕ) × IsFirst bytes tokens rest × (deepest 0 tokens ≤ 4096) × Gives command answer (understood scope tokens)

-- memory may run out before there is a first s-expression
abbrev pub IsRefused : Scope → List ℕ → CommandFault → Type 0
IsRefused scope bytes command_faults.Want = Unit {0}
IsRefused scope bytes e = IsUnderstood scope bytes (Err e)

abbrev pub IsFault : Scope → List ℕ → Fault → Type 0
IsFault scope bytes faults.Unfinished = (at : ℕ) × Faults (sexp_faults.Unfinished at) bytes
IsFault scope bytes faults.BadToken = (at : ℕ) × Faults (sexp_faults.BadToken at) bytes
IsFault scope bytes faults.Deep = (at : ℕ) × Faults (sexp_faults.Deep at) bytes
IsFault scope bytes (faults.Command e) = IsRefused scope bytes e

-- the command that the bytes are, or why they are none
abbrev pub Understands : Scope → List ℕ → Result Command' Fault → Type 0
Understands scope bytes (Ok c) = IsUnderstood scope bytes (Ok c)
Understands scope bytes (Err e) = IsFault scope bytes e
