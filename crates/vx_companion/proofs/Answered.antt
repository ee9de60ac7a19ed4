-- What a session has answered, command by command from the first.
use Rattle.std.proofs.Common.{◌≡◌, inl, inr, ◌⊎◌, ℕ, ◌<◌, ◌≤◌, nat_le, Bool, true, false, List, [], ◌∷◌, ◌++◌, map, drop, Option, Some, None, Result, Ok, Err, refl, ap, ◌∙◌, sym, subst, append_assoc, arith}
use Rattle.std.proofs.lemmas.Option.{same_Some}
use Rattle.vx_sexp.specs.declared.token.Token.{Token}
use Rattle.vx_sexp.specs.declared.reader.SexpFault.TheVariants as sexp_faults
use Rattle.vx_sexp.specs.First.{IsFirst, deepest}
use Rattle.vx_sexp.proofs.Exact.{first_is_one, fault_excludes, deep_excludes}
use Rattle.vx_smt_meaning.specs.Commands.{Command, SetOption, SetLogic, DeclareSort, DeclareFun, Assert, Push, Pop, CheckSat, GetProof, Exit, Level}
use Rattle.vx_smt_meaning.specs.Views.{command}
use Rattle.vx_smt_meaning.specs.declared.command.Command.{Command as Command'}
use Rattle.vx_dialogue.proofs.Joined.{append_none, first_longer}
use Rattle.cs_commands.specs.declared.fault.CommandFault.{CommandFault}
use Rattle.cs_commands.specs.declared.fault.CommandFault.TheVariants as command_faults
use Rattle.cs_commands.specs.declared.fault.Fault.{Fault}
use Rattle.cs_commands.specs.declared.fault.Fault.TheVariants as faults
use Rattle.cs_commands.specs.Outcomes.{told, Fails}
use Rattle.cs_commands.specs.Commands.{understood}
use Rattle.cs_commands.specs.Understanding.{IsUnderstood, Understands}
use Rattle.cs_commands.specs.Laws.{scope_of}
use Rattle.cs_certificate.specs.Certificate.{Step}
use Rattle.cs_answer.specs.declared.answer.Cause.{Cause}
use Rattle.cs_proof.specs.Views.{written}
use Rattle.cs_text.specs.Text.{certificate_text}
use Rattle.cs_commands.proofs.Passed.{not_some}
use Rattle.cs_session.specs.declared.reply.Reply.{Reply}
use Rattle.cs_session.specs.declared.reply.Reply.TheVariants.{Proof}
use Rattle.cs_session.specs.declared.session.Last.{Last}
use Rattle.cs_session.specs.declared.session.Last.TheVariants.{Nothing, Refuted, Satisfied, Unknown}
use Rattle.cs_session.specs.Views.{State, depth}
use Rattle.cs_session.specs.Texts.{reply_text}
use Rattle.cs_session.specs.Replies.{answer_to, Tells, FollowsIf, Shows, Proves, Does, RepliesTo}
use Rattle.cs_session.specs.Answering.{start, Answering, begun, given, answered}
use Rattle.vx_companion.proofs.Lines.{IsLine}

-- The s-expression isn't understood, or is too deep.
abbrev pub IsMissed : List Token → State → Type 0
IsMissed tokens s = (c : Command) → deepest 0 tokens ≤ 4096 → understood (scope_of s.levels) tokens ≡ Ok c → ⊥

-- What is answered to an s-expression: it is understood and done, or a fault is told.
abbrev pub IsAnswer : List Token → State → Reply → State → Type 0
IsAnswer tokens s r u =
    ((c : Command) × (understood (scope_of s.levels) tokens ≡ Ok c) × Does c s r u) ⊎ ((e : Fault) × (answer_to e ≡ Some r) × (u ≡ s) × IsMissed tokens s)

-- these are the answers to the first s-expressions of the bytes, and this is left
abbrev pub AreAnswers : State → List ℕ → List Reply → List ℕ → State → Type 0
AreAnswers s bytes [] left u = (left ≡ bytes) × (u ≡ s)
AreAnswers s bytes (r ∷ rs) left u = (next : State) × (between : List ℕ) × (tokens : List Token) × IsFirst bytes tokens between × IsAnswer tokens s r next × AreAnswers next between rs left u

abbrev pub texts_of : List Reply → List ℕ
texts_of [] = []
texts_of (r ∷ rs) = reply_text r ++ texts_of rs

-- ---- one answer

fails_so : (e : CommandFault) (o : Result Command CommandFault) (c : Command) → Fails e o → (told e ≡ None → ⊥) → o ≡ Ok c → ⊥
fails_so command_faults.Want o c h some is = some refl
fails_so command_faults.Name o c h some is = cc
fails_so command_faults.Wide o c h some is = cc
fails_so command_faults.Sort o c h some is = cc
fails_so command_faults.Levels o c h some is = cc
fails_so command_faults.Unsupported o c h some is = cc

-- another fault than want of memory
missed_by : (bytes rest : List ℕ) (tokens : List Token) (s : State) (e : CommandFault) → IsFirst bytes tokens rest → (told e ≡ None → ⊥) → IsUnderstood (scope_of s.levels) bytes (Err e) → IsMissed tokens s
missed_by bytes rest tokens s e first some meant c deep is =
    let same : meant.0 ≡ tokens = (first_is_one bytes meant.0 tokens meant.1 rest meant.2 first).0 in
    fails_so e (understood (scope_of s.levels) tokens) c (subst (λ ts. Fails e (understood (scope_of s.levels) ts)) same meant.4) some is

too_deep : (n : ℕ) → 4096 < n → n ≤ 4096 → ⊥
too_deep n deep shallow = omega arith

missed : (bytes rest : List ℕ) (tokens : List Token) (s : State) (r : Reply) (e : Fault) → IsFirst bytes tokens rest → Understands (scope_of s.levels) bytes (Err e) → answer_to e ≡ Some r → IsMissed tokens s
missed bytes rest tokens s r faults.Unfinished first meant known = λ c deep is. fault_excludes (sexp_faults.Unfinished meant.0) bytes tokens rest meant.1 first
missed bytes rest tokens s r faults.BadToken first meant known = λ c deep is. fault_excludes (sexp_faults.BadToken meant.0) bytes tokens rest meant.1 first
missed bytes rest tokens s r faults.Deep first meant known = λ c deep is. too_deep (deepest 0 tokens) (deep_excludes meant.0 bytes tokens rest meant.1 first) deep
missed bytes rest tokens s r (faults.Command command_faults.Want) first meant known = λ c deep is. cc
missed bytes rest tokens s r (faults.Command command_faults.Name) first meant known = missed_by bytes rest tokens s command_faults.Name first (λ e. cc) meant
missed bytes rest tokens s r (faults.Command command_faults.Wide) first meant known = missed_by bytes rest tokens s command_faults.Wide first (λ e. cc) meant
missed bytes rest tokens s r (faults.Command command_faults.Sort) first meant known = missed_by bytes rest tokens s command_faults.Sort first (λ e. cc) meant
missed bytes rest tokens s r (faults.Command command_faults.Levels) first meant known = missed_by bytes rest tokens s command_faults.Levels first (λ e. cc) meant
missed bytes rest tokens s r (faults.Command command_faults.Unsupported) first meant known = missed_by bytes rest tokens s command_faults.Unsupported first (λ e. cc) meant

answer_by : (bytes rest : List ℕ) (tokens : List Token) (s u : State) (r : Reply) (o : Result Command' Fault) → IsFirst bytes tokens rest → Understands (scope_of s.levels) bytes o → RepliesTo o s r u → IsAnswer tokens s r u
answer_by bytes rest tokens s u r (Ok c) first meant done =
    let same : meant.0 ≡ tokens = (first_is_one bytes meant.0 tokens meant.1 rest meant.2 first).0 in
    inl (command c, subst (λ ts. understood (scope_of s.levels) ts ≡ Ok (command c)) same meant.4, done)
answer_by bytes rest tokens s u r (Err e) first meant done = inr (e, done.0, done.1, missed bytes rest tokens s r e first meant done.0)

-- ---- its line

told_line : (e : Fault) (r : Reply) → answer_to e ≡ Some r → IsLine r
told_line faults.Unfinished r is = subst IsLine (same_Some _ _ is) tt
told_line faults.BadToken r is = subst IsLine (same_Some _ _ is) tt
told_line faults.Deep r is = subst IsLine (same_Some _ _ is) tt
told_line (faults.Command command_faults.Name) r is = subst IsLine (same_Some _ _ is) tt
told_line (faults.Command command_faults.Wide) r is = subst IsLine (same_Some _ _ is) tt
told_line (faults.Command command_faults.Sort) r is = subst IsLine (same_Some _ _ is) tt
told_line (faults.Command command_faults.Levels) r is = subst IsLine (same_Some _ _ is) tt
told_line (faults.Command command_faults.Unsupported) r is = subst IsLine (same_Some _ _ is) tt
told_line (faults.Command command_faults.Want) r is = not_some is

-- what is shown of some steps is one expression, and a line feed
shown_line : (steps : List (Option Step)) (r : Reply) → Shows steps r → IsLine r
shown_line steps (Proof line) h =
    (h.1.0, subst (λ x. IsFirst x h.1.0 (10 ∷ [])) (sym h.0) (first_longer (certificate_text steps) (10 ∷ []) h.1.0 [] h.1.1))
shown_line steps _ h = tt

proved_line : (l : Last) (r : Reply) → Proves l r → IsLine r
proved_line Nothing r h = subst IsLine (sym h) tt
proved_line (Refuted steps) r h = shown_line (map written steps.items) r h
proved_line Satisfied r h = subst IsLine (sym h) tt
proved_line (Unknown cause) r h = subst IsLine (sym h) tt

checked_line : (levels : List Level) (r : Reply) (l : Last) → Tells levels r l → IsLine r
checked_line levels (Proof line) Nothing h = absurd h
checked_line levels (Proof line) (Refuted steps) h = absurd h
checked_line levels (Proof line) Satisfied h = absurd h
checked_line levels (Proof line) (Unknown cause) h = absurd h
checked_line levels _ l h = tt

followed_line : (b : Bool) (c : Command) (s u : State) (r : Reply) → FollowsIf b c s r u → IsLine r
followed_line true c s u r h = subst IsLine (sym h.0) tt
followed_line false c s u r h = subst IsLine (sym h.0) tt

done_line : (c : Command) (s u : State) (r : Reply) → Does c s r u → IsLine r
done_line (SetOption x b) s u r h = subst IsLine (sym h.0) tt
done_line (SetLogic x) s u r h = subst IsLine (sym h.0) tt
done_line (DeclareSort x) s u r h = subst IsLine (sym h.0) tt
done_line (DeclareFun d) s u r h = subst IsLine (sym h.0) tt
done_line (Assert t) s u r h = subst IsLine (sym h.0) tt
done_line (Push n) s u r h = followed_line (nat_le n 256) (Push n) s u r h
done_line (Pop n) s u r h = followed_line (nat_le n (depth s.levels)) (Pop n) s u r h
done_line CheckSat s u r h = checked_line s.levels r u.last h.1
done_line GetProof s u r h = proved_line s.last r h.0
done_line Exit s u r h = subst IsLine (sym h.0) tt

pub line_of : (tokens : List Token) (s u : State) (r : Reply) → IsAnswer tokens s r u → IsLine r
line_of tokens s u r (inl done) = done_line done.0 s u r done.2
line_of tokens s u r (inr fault) = told_line fault.0 r fault.1

pub replied_line : (o : Result Command' Fault) (s u : State) (r : Reply) → RepliesTo o s r u → IsLine r
replied_line (Ok c) s u r h = done_line (command c) s u r h
replied_line (Err e) s u r h = told_line e r h.0

-- ---- further bytes and further answers

answers_longer : (rs : List Reply) (s u : State) (bytes left more : List ℕ) → AreAnswers s bytes rs left u → AreAnswers s (bytes ++ more) rs (left ++ more) u
answers_longer [] s u bytes left more h = (ap (λ x. x ++ more) h.0, h.1)
answers_longer (r ∷ rs) s u bytes left more h =
    (h.0, h.1 ++ more, h.2, first_longer bytes more h.2 h.1 h.3, h.4, answers_longer rs h.0 u h.1 left more h.5)

answers_more : (rs : List Reply) (s u next : State) (bytes left between : List ℕ) (tokens : List Token) (r : Reply) → AreAnswers s bytes rs left u
    → IsFirst left tokens between → IsAnswer tokens u r next → AreAnswers s bytes (rs ++ r ∷ []) between next
answers_more [] s u next bytes left between tokens r h first answer =
    (next, between, tokens, subst (λ x. IsFirst x tokens between) h.0 first, subst (λ (v : State). IsAnswer tokens v r next) h.1 answer, (refl, refl))
answers_more (a ∷ rs) s u next bytes left between tokens r h first answer =
    (h.0, h.1, h.2, h.3, h.4, answers_more rs h.0 u next h.1 left between tokens r h.5 first answer)

texts_more : (rs : List Reply) (r : Reply) → texts_of (rs ++ r ∷ []) ≡ texts_of rs ++ reply_text r
texts_more [] r = append_none (reply_text r)
texts_more (a ∷ rs) r = ap (λ x. reply_text a ++ x) (texts_more rs r) ∙ sym (append_assoc (reply_text a) (texts_of rs) (reply_text r))

-- ---- all answers

pub record HasAnswers (all text left : List ℕ) (s : State) : Type 0 where
  pub replies : List Reply
  pub text_is : text ≡ texts_of replies
  pub are : AreAnswers start all replies left s

pub answers_of : {all text left : List ℕ} {causes : List Cause} {s : State} → Answering all text left causes s → HasAnswers all text left s
answers_of begun = record { replies = []; text_is = refl; are = (refl, refl) }
answers_of (given {all = all} {left = left} {s = s} piece h) =
    let before = answers_of h in
    record { replies = before.replies; text_is = before.text_is; are = answers_longer before.replies start s all left piece before.are }
answers_of (answered {all = all} {left = left} {s = s} {u = u} n r h ends replies) =
    let before = answers_of h in
    record {
      replies = before.replies ++ r ∷ [];
      text_is = ap (λ x. x ++ reply_text r) before.text_is ∙ sym (texts_more before.replies r);
      are = answers_more before.replies start s u all left (drop n left) ends.1 r before.are ends.2
          (answer_by left (drop n left) ends.1 s u r replies.understood ends.2 replies.meant replies.replied);
    }
