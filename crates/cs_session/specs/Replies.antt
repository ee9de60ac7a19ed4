-- What is answered to a command, and what it does to a session.
use Rattle.std.specs.Prelude.{◌≡◌, ℕ, nat_le, Bool, true, false, List, [], ◌∷◌, ◌++◌, map, Option, Some, None, Ok, Err}
use Rattle.std.specs.Global.{Vec}
use Rattle.std.specs.declared.result.Result.{Result}
use Rattle.vx_sexp.specs.declared.token.Token.{Token}
use Rattle.vx_sexp.specs.First.{IsFirst}
use Rattle.vx_terms.specs.Interpretations.{IsSatisfiable, IsUnsatisfiable}
use Rattle.vx_smt_meaning.specs.Commands.{Command, SetOption, SetLogic, DeclareSort, DeclareFun, Assert, Push, Pop, CheckSat, GetProof, Exit, Level, assertions_of, stack_after}
use Rattle.vx_smt_meaning.specs.Views.{command}
use Rattle.vx_smt_meaning.specs.declared.command.Command.{Command as Command'}
use Rattle.cs_certificate.specs.Certificate.{Step}
use Rattle.cs_proof.specs.declared.step.Step.{Step as Step'}
use Rattle.cs_proof.specs.Views.{written}
use Rattle.cs_proof.specs.Checking.{Finished}
use Rattle.cs_proof.specs.Answers.{Answers}
use Rattle.cs_commands.specs.declared.fault.CommandFault.TheVariants as command_faults
use Rattle.cs_commands.specs.declared.fault.Fault.{Fault}
use Rattle.cs_commands.specs.declared.fault.Fault.TheVariants as faults
use Rattle.cs_commands.specs.Understanding.{Understands}
use Rattle.cs_commands.specs.Laws.{scope_of}
use Rattle.cs_answer.specs.Causes.{IsCause}
use Rattle.cs_answer.specs.Few.{IsFew}
use Rattle.cs_opposites.specs.Opposites.{HasOpposites}
use Rattle.cs_text.specs.Text.{certificate_text}
use Rattle.cs_writable.specs.Writable.{AreWritable}
use Rattle.cs_session.specs.declared.reply.Complaint.TheVariants as complaints
use Rattle.cs_session.specs.declared.reply.Reply.{Reply}
use Rattle.cs_session.specs.declared.reply.Reply.TheVariants.{Success, Unsupported, Failed, Sat, Unsat, Undecided, Proof, Closed}
use Rattle.cs_session.specs.declared.session.Last.{Last}
use Rattle.cs_session.specs.declared.session.Last.TheVariants.{Nothing, Refuted, Satisfied, Unknown}
use Rattle.cs_session.specs.Views.{State, standing, depth}

-- what is answered to a fault; want of memory has no answer
abbrev pub answer_to : Fault → Option Reply
answer_to faults.Unfinished = Some (Failed complaints.Unfinished)
answer_to faults.BadToken = Some (Failed complaints.BadToken)
answer_to faults.Deep = Some (Failed complaints.Deep)
answer_to (faults.Command command_faults.Name) = Some (Failed complaints.Name)
answer_to (faults.Command command_faults.Wide) = Some (Failed complaints.Wide)
answer_to (faults.Command command_faults.Sort) = Some (Failed complaints.Sort)
answer_to (faults.Command command_faults.Levels) = Some (Failed complaints.Levels)
answer_to (faults.Command command_faults.Unsupported) = Some Unsupported
answer_to (faults.Command command_faults.Want) = None

-- the answer, and a state that stays
abbrev pub Only : Reply → State → Reply → State → Type 0
Only said old r new = (r ≡ said) × (new ≡ old)

-- the levels are those after the command, and no check has said anything of them
abbrev pub Follows : Command → State → Reply → State → Type 0
Follows c old r new = (r ≡ Success) × (new ≡ record { levels = stack_after c old.levels; last = Nothing })

abbrev pub FollowsIf : Bool → Command → State → Reply → State → Type 0
FollowsIf true c = Follows c
FollowsIf false c = Only (Failed complaints.Levels)

-- the checker has finished the steps over what stands on the levels, and all of them are writable
abbrev pub IsCertificate : List Level → Vec Step' → Type 0
IsCertificate levels steps = Answers (standing levels) (map written steps.items) Finished × AreWritable (map written steps.items)

-- what a check says of the levels; the steps are a certificate, and the cause is so; a stack of few Bool terms without numbers isn't
-- undecided, nor are assertions that hold `false`, or a term and its negation
abbrev pub Tells : List Level → Reply → Last → Type 0
Tells levels Unsat (Refuted steps) = ∥ IsCertificate levels steps ∥₁ × IsUnsatisfiable (assertions_of levels)
Tells levels Sat Satisfied = IsSatisfiable (assertions_of levels)
Tells levels Undecided (Unknown cause) = IsCause (standing levels) cause × ¬ (IsFew (standing levels)) × ¬ (HasOpposites (assertions_of levels))
Tells levels r last = ⊥

abbrev pub Checks : State → Reply → State → Type 0
Checks old r new = (new.levels ≡ old.levels) × Tells old.levels r new.last

-- the text is one s-expression
abbrev pub IsOne : List ℕ → Type 0
IsOne text = (tokens : List Token) × IsFirst text tokens []

-- the line of the steps' text, where that is one s-expression
abbrev pub Shows : List (Option Step) → Reply → Type 0
Shows steps (Proof line) = (line ≡ certificate_text steps ++ 10 ∷ []) × IsOne (certificate_text steps)
Shows steps r = (r ≡ Failed complaints.NoProof) × (IsOne (certificate_text steps) → ⊥)

-- what is shown for the steps that the last check kept; any other check has no proof
abbrev pub Proves : Last → Reply → Type 0
Proves (Refuted steps) r = Shows (map written steps.items) r
Proves last r = r ≡ Failed complaints.NoProof

-- at most 256 levels are opened at once, and no more are closed than are open
abbrev pub Does : Command → State → Reply → State → Type 0
Does (SetOption x b) old = Only Success old
Does (SetLogic x) old = Only Success old
Does (DeclareSort x) old = Follows (DeclareSort x) old
Does (DeclareFun d) old = Follows (DeclareFun d) old
Does (Assert t) old = Follows (Assert t) old
Does (Push n) old = FollowsIf (nat_le n 256) (Push n) old
Does (Pop n) old = FollowsIf (nat_le n (depth old.levels)) (Pop n) old
Does CheckSat old = Checks old
Does GetProof old = λ r new. Proves old.last r × (new ≡ old)
Does Exit old = Only Closed old

-- by what the bytes are understood as
abbrev pub RepliesTo : Result Command' Fault → State → Reply → State → Type 0
RepliesTo (Ok c) = Does (command c)
RepliesTo (Err e) = λ old r new. (answer_to e ≡ Some r) × (new ≡ old)

-- the answer to the first s-expression of the bytes, and the state after it
pub record Replies (bytes : List ℕ) (old : State) (r : Reply) (new : State) : Type 0 where
  pub understood : Result Command' Fault
  pub meant : Understands (scope_of old.levels) bytes understood
  pub replied : RepliesTo understood old r new
