-- In each session that comes about by answers the stack is formed, so that few Bool terms without numbers are decided; opposites are in any.
use Rattle.std.proofs.Common.{◌≡◌, ℕ, nat_le, Bool, true, false, List, Ok, Err, sym, subst}
use Rattle.std.specs.declared.result.Result.{Result}
use Rattle.vx_sexp.specs.declared.token.Token.{Token}
use Rattle.vx_smt_meaning.specs.Commands.{Command, SetOption, SetLogic, DeclareSort, DeclareFun, Assert, Push, Pop, CheckSat, GetProof, Exit, Level, assertions_of, declared_in}
use Rattle.vx_smt_meaning.specs.Views.{command}
use Rattle.vx_smt_meaning.specs.declared.command.Command.{Command as Command'}
use Rattle.cs_commands.specs.declared.fault.Fault.{Fault}
use Rattle.cs_commands.specs.Commands.{understood}
use Rattle.cs_commands.specs.Understanding.{Understands}
use Rattle.cs_commands.specs.Laws.{scope_of}
use Rattle.cs_commands.proofs.Following.{understood_follows}
use Rattle.cs_commands.proofs.Sorted.{understood_sorted}
use Rattle.cs_commands.proofs.Writable.{understood_writable}
use Rattle.cs_answer.specs.declared.answer.Cause.{Cause}
use Rattle.cs_answer.specs.Few.{IsFew}
use Rattle.cs_opposites.specs.Opposites.{HasOpposites}
use Rattle.cs_session.specs.declared.reply.Reply.{Reply}
use Rattle.cs_session.specs.declared.reply.Reply.TheVariants.{Undecided}
use Rattle.cs_session.specs.declared.session.Last.{Last}
use Rattle.cs_session.specs.declared.session.Last.TheVariants.{Nothing, Refuted, Satisfied, Unknown}
use Rattle.cs_session.specs.Views.{State, standing, depth}
use Rattle.cs_session.specs.Replies.{Tells, FollowsIf, Does, RepliesTo}
use Rattle.cs_session.specs.Answering.{Answering, begun, given, answered}
use Rattle.cs_session.specs.Few.{FewAreDecided, OppositesAreRefuted}
use Rattle.cs_session.proofs.Caused.{checked}
use Rattle.cs_session.proofs.Formed.{IsFit, AreFit, asserted_fit, declared_fit, sort_fit, opened_fit, dropped_fit, standing_formed}

-- ---- commands

-- the assertions of a state are fit
abbrev IsSound : State → Type 0
IsSound s = AreFit s.levels

pushed_fit : (b : Bool) (n : ℕ) (s u : State) (r : Reply) → FollowsIf b (Push n) s r u → IsSound s → IsSound u
pushed_fit true n s u r done h = subst IsSound (sym done.1) (opened_fit n s.levels h)
pushed_fit false n s u r done h = subst IsSound (sym done.1) h

popped_fit : (b : Bool) (n : ℕ) (s u : State) (r : Reply) → FollowsIf b (Pop n) s r u → IsSound s → IsSound u
popped_fit true n s u r done h = subst IsSound (sym done.1) (dropped_fit n s.levels h)
popped_fit false n s u r done h = subst IsSound (sym done.1) h

done_fit : (c : Command) (s u : State) (r : Reply) (tokens : List Token) → understood (scope_of s.levels) tokens ≡ Ok c → Does c s r u → IsSound s → IsSound u
done_fit (SetOption x b) s u r tokens e done h = subst IsSound (sym done.1) h
done_fit (SetLogic x) s u r tokens e done h = subst IsSound (sym done.1) h
done_fit (DeclareSort x) s u r tokens e done h = subst IsSound (sym done.1) (sort_fit s.levels x h)
done_fit (DeclareFun d) s u r tokens e done h = subst IsSound (sym done.1) (declared_fit s.levels d h)
done_fit (Assert t) s u r tokens e done h =
    let fit : IsFit (declared_in s.levels) t = record {
      bool = understood_sorted (scope_of s.levels) tokens t e;
      uses = (understood_follows s.levels tokens (Assert t) e tt).declared;
      writable = understood_writable (scope_of s.levels) tokens t e;
    } in
    subst IsSound (sym done.1) (asserted_fit s.levels t fit h)
done_fit (Push n) s u r tokens e done h = pushed_fit (nat_le n 256) n s u r done h
done_fit (Pop n) s u r tokens e done h = popped_fit (nat_le n (depth s.levels)) n s u r done h
done_fit CheckSat s u r tokens e done h = subst AreFit (sym done.0) h
done_fit GetProof s u r tokens e done h = subst IsSound (sym done.1) h
done_fit Exit s u r tokens e done h = subst IsSound (sym done.1) h

replied_fit : (o : Result Command' Fault) (s u : State) (r : Reply) (bytes : List ℕ) → Understands (scope_of s.levels) bytes o → RepliesTo o s r u → IsSound s → IsSound u
replied_fit (Ok c) s u r bytes meant done h = done_fit (command c) s u r meant.0 meant.4 done h
replied_fit (Err e) s u r bytes meant done h = subst IsSound (sym done.1) h

sound : {all text left : List ℕ} {causes : List Cause} {s : State} → Answering all text left causes s → IsSound s
sound begun = (tt, tt)
sound (given piece h) = sound h
sound (answered {left = left} {s = s} {u = u} n r h ends replies) = replied_fit replies.understood s u r left replies.meant replies.replied (sound h)

-- ---- checks

neither : (levels : List Level) (l : Last) → Tells levels Undecided l → ¬ (IsFew (standing levels)) × ¬ (HasOpposites (assertions_of levels))
neither levels (Unknown cause) h = (h.1, h.2)
neither levels Nothing h = absurd h
neither levels (Refuted steps) h = absurd h
neither levels Satisfied h = absurd h

pub few_decided : FewAreDecided
few_decided bytes s u reached few replies =
    (neither s.levels u.last (checked replies.understood s u replies.replied)).0 (record {
      plain = record { formed = standing_formed s.levels (sound reached.answering); no_number = few.no_number };
      few = few.few;
    })

pub opposites_refuted : OppositesAreRefuted
opposites_refuted bytes s u opposites replies = (neither s.levels u.last (checked replies.understood s u replies.replied)).1 opposites
