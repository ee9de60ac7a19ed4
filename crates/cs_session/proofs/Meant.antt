-- What is understood over the oldest declarations first is understood over the levels, and may be added to them.
use Rattle.std.proofs.Common.{◌≡◌, ℕ, List, Ok, Err, IfOk, subst}
use Rattle.std.specs.declared.result.Result.{Result}
use Rattle.vx_sexp.specs.declared.token.Token.{Token}
use Rattle.vx_terms.specs.Sorts.{BoolSort}
use Rattle.vx_smt_meaning.specs.Commands.{Command, SetOption, SetLogic, DeclareSort, DeclareFun, Assert, Push, Pop, CheckSat, GetProof, Exit, Level, declared_in}
use Rattle.vx_smt_meaning.specs.Views.{command}
use Rattle.vx_smt_meaning.specs.declared.command.Command.{Command as Command'}
use Rattle.cs_commands.specs.declared.fault.CommandFault.{CommandFault}
use Rattle.cs_commands.specs.declared.fault.CommandFault.TheVariants as command_faults
use Rattle.cs_commands.specs.declared.fault.Fault.{Fault}
use Rattle.cs_commands.specs.declared.fault.Fault.TheVariants as faults
use Rattle.cs_commands.specs.Outcomes.{Gives}
use Rattle.cs_commands.specs.Commands.{understood}
use Rattle.cs_commands.specs.Understanding.{IsUnderstood, IsRefused, IsFault, Understands}
use Rattle.cs_commands.specs.Laws.{scope_of, AreApart}
use Rattle.cs_commands.specs.Following.{turned, UnderstoodMayFollow, UnderstoodIsSorted, UnderstoodInAnyOrder}
use Rattle.cs_session.specs.Adding.{MayAdd}

-- ---- in any order

module _ (any_order : UnderstoodInAnyOrder) (levels : List Level) (apart : AreApart (declared_in levels)) (bytes : List ℕ) where
  understood_so : (a : Result Command' CommandFault) → IsUnderstood (turned (scope_of levels)) bytes a → IsUnderstood (scope_of levels) bytes a
  understood_so a u = (u.0, u.1, u.2, u.3, subst (Gives command a) (any_order (scope_of levels) u.0 apart) u.4)

  refused_so : (e : CommandFault) → IsRefused (turned (scope_of levels)) bytes e → IsRefused (scope_of levels) bytes e
  refused_so command_faults.Want u = tt
  refused_so command_faults.Name u = understood_so (Err command_faults.Name) u
  refused_so command_faults.Wide u = understood_so (Err command_faults.Wide) u
  refused_so command_faults.Sort u = understood_so (Err command_faults.Sort) u
  refused_so command_faults.Levels u = understood_so (Err command_faults.Levels) u
  refused_so command_faults.Unsupported u = understood_so (Err command_faults.Unsupported) u

  faulty_so : (e : Fault) → IsFault (turned (scope_of levels)) bytes e → IsFault (scope_of levels) bytes e
  faulty_so faults.Unfinished u = u
  faulty_so faults.BadToken u = u
  faulty_so faults.Deep u = u
  faulty_so (faults.Command e) u = refused_so e u

  pub over_levels : (r : Result Command' Fault) → Understands (turned (scope_of levels)) bytes r → Understands (scope_of levels) bytes r
  over_levels (Ok c) u = understood_so (Ok c) u
  over_levels (Err e) u = faulty_so e u

-- ---- what may be added

may_add : UnderstoodMayFollow → UnderstoodIsSorted → (levels : List Level) (tokens : List Token) (c : Command) → understood (scope_of levels) tokens ≡ Ok c → MayAdd levels c
may_add follow sorted levels tokens (SetOption x b) e = tt
may_add follow sorted levels tokens (SetLogic x) e = tt
may_add follow sorted levels tokens (DeclareSort x) e = tt
may_add follow sorted levels tokens (DeclareFun d) e = (follow levels tokens (DeclareFun d) e tt).new
may_add follow sorted levels tokens (Assert t) e = (BoolSort, sorted (scope_of levels) tokens t e)
may_add follow sorted levels tokens (Push n) e = tt
may_add follow sorted levels tokens (Pop n) e = tt
may_add follow sorted levels tokens CheckSat e = tt
may_add follow sorted levels tokens GetProof e = tt
may_add follow sorted levels tokens Exit e = tt

pub fits : UnderstoodMayFollow → UnderstoodIsSorted → (levels : List Level) (bytes : List ℕ) (r : Result Command' Fault) → Understands (scope_of levels) bytes r → IfOk r (λ c. MayAdd levels (command c))
fits follow sorted levels bytes (Ok c) u = may_add follow sorted levels u.0 (command c) u.4
fits follow sorted levels bytes (Err e) u = tt
