-- An undecided answer is that of a check, which has a cause.
use Rattle.std.proofs.Common.{◌≡◌, nat_le, Bool, true, false, List, [], ◌∷◌, Some, Ok, Err, refl}
use Rattle.std.specs.Option.{option_to_list}
use Rattle.std.specs.declared.result.Result.{Result}
use Rattle.vx_smt_meaning.specs.Commands.{Command, SetOption, SetLogic, DeclareSort, DeclareFun, Assert, Push, Pop, CheckSat, GetProof, Exit, Level}
use Rattle.vx_smt_meaning.specs.Views.{command}
use Rattle.vx_smt_meaning.specs.declared.command.Command.{Command as Command'}
use Rattle.cs_commands.specs.declared.fault.CommandFault.TheVariants as command_faults
use Rattle.cs_commands.specs.declared.fault.Fault.{Fault}
use Rattle.cs_commands.specs.declared.fault.Fault.TheVariants as faults
use Rattle.cs_answer.specs.declared.answer.Cause.{Cause}
use Rattle.cs_session.specs.declared.reply.Reply.TheVariants.{Undecided}
use Rattle.cs_session.specs.declared.session.Last.{Last}
use Rattle.cs_session.specs.declared.session.Last.TheVariants.{Nothing, Refuted, Satisfied, Unknown}
use Rattle.cs_session.specs.Views.{State, depth, cause_of}
use Rattle.cs_session.specs.Replies.{answer_to, Tells, FollowsIf, Proves, Does, RepliesTo}
use Rattle.cs_session.specs.Answering.{UndecidedHasItsCause}

-- what a check said has a cause
abbrev HasCause : Last → Type 0
HasCause l = (cause : Cause) × (option_to_list (cause_of l) ≡ cause ∷ [])

caused_by : (levels : List Level) (l : Last) → Tells levels Undecided l → HasCause l
caused_by levels (Unknown cause) h = (cause, refl)
caused_by levels Nothing h = absurd h
caused_by levels (Refuted steps) h = absurd h
caused_by levels Satisfied h = absurd h

-- ---- no other command is answered so

not_followed : (b : Bool) (c : Command) (s u : State) → FollowsIf b c s Undecided u → ⊥
not_followed true c s u h = let e = h.0 in cc
not_followed false c s u h = let e = h.0 in cc

not_shown : (l : Last) → Proves l Undecided → ⊥
not_shown Nothing h = cc
not_shown (Refuted steps) h = let e = h.0 in cc
not_shown Satisfied h = cc
not_shown (Unknown cause) h = cc

not_told : (e : Fault) → answer_to e ≡ Some Undecided → ⊥
not_told faults.Unfinished h = cc
not_told faults.BadToken h = cc
not_told faults.Deep h = cc
not_told (faults.Command command_faults.Name) h = cc
not_told (faults.Command command_faults.Wide) h = cc
not_told (faults.Command command_faults.Sort) h = cc
not_told (faults.Command command_faults.Levels) h = cc
not_told (faults.Command command_faults.Unsupported) h = cc
not_told (faults.Command command_faults.Want) h = cc

done : (c : Command) (s u : State) → Does c s Undecided u → Tells s.levels Undecided u.last
done (SetOption x b) s u h = let e = h.0 in absurd (cc)
done (SetLogic x) s u h = let e = h.0 in absurd (cc)
done (DeclareSort x) s u h = let e = h.0 in absurd (cc)
done (DeclareFun d) s u h = let e = h.0 in absurd (cc)
done (Assert t) s u h = let e = h.0 in absurd (cc)
done (Push n) s u h = absurd (not_followed (nat_le n 256) (Push n) s u h)
done (Pop n) s u h = absurd (not_followed (nat_le n (depth s.levels)) (Pop n) s u h)
done CheckSat s u h = h.1
done GetProof s u h = absurd (not_shown s.last h.0)
done Exit s u h = let e = h.0 in absurd (cc)

-- so a check has said it
pub checked : (o : Result Command' Fault) (s u : State) → RepliesTo o s Undecided u → Tells s.levels Undecided u.last
checked (Ok c) s u h = done (command c) s u h
checked (Err e) s u h = absurd (not_told e h.0)

pub caused : UndecidedHasItsCause
caused bytes s u h = caused_by s.levels u.last (checked h.understood s u h.replied)
