-- What holds of each state that a session comes to, and so of its proofs.
use Rattle.std.proofs.Common.{◌≡◌, ℕ, zero, suc, nat_le, Bool, true, false, List, [], ◌∷◌, ◌++◌, map, drop, Option, Some, None, Ok, Err, refl, ap, ap₂, sym, subst, append-nil}
use Rattle.std.proofs.Math.Logic.{∥∥₁_map, ∥∥₁_elim}
use Rattle.std.specs.Global.{Vec}
use Rattle.std.specs.declared.result.Result.{Result}
use Rattle.std.proofs.lemmas.Option.{same_Some}
use Rattle.vx_sexp.specs.declared.token.Token.{Token}
use Rattle.vx_sexp.specs.Tokens.{Lexes}
use Rattle.vx_sexp.specs.First.{IsFirst}
use Rattle.vx_terms.specs.Interpretations.{Each}
use Rattle.vx_smt_meaning.specs.Commands.{Command, SetOption, SetLogic, DeclareSort, DeclareFun, Assert, Push, Pop, CheckSat, GetProof, Exit, Declared, Level, declared_in, stack_after}
use Rattle.vx_smt_meaning.specs.Views.{command}
use Rattle.vx_smt_meaning.specs.declared.command.Command.{Command as Command'}
use Rattle.cs_certificate.specs.Certificate.{Stack, Step, IsFinished}
use Rattle.cs_answer.specs.declared.answer.Cause.{Cause}
use Rattle.cs_proof.specs.declared.step.Step.{Step as Step'}
use Rattle.cs_proof.specs.Views.{written}
use Rattle.cs_proof.specs.Checking.{Finished}
use Rattle.cs_proof.specs.Answers.{Answers}
use Rattle.cs_proof.proofs.Refuted.{finished_too}
use Rattle.cs_commands.specs.declared.fault.Fault.{Fault}
use Rattle.cs_commands.specs.Commands.{understood}
use Rattle.cs_commands.specs.Understanding.{Understands}
use Rattle.cs_commands.specs.Laws.{scope_of, AreApart}
use Rattle.cs_commands.specs.Following.{HasWord}
use Rattle.cs_commands.proofs.Apart.{stay_apart, opened_declares, dropped_apart}
use Rattle.cs_commands.proofs.Following.{understood_follows}
use Rattle.cs_commands.proofs.OwnWords.{understood_named}
use Rattle.cs_text.specs.Text.{certificate_text}
use Rattle.cs_writable.specs.Writable.{IsWritable, AreWritable}
use Rattle.cs_text.specs.Law.{HaveWords, IsReadBack}
use Rattle.cs_text.proofs.Certificates as texts
use Rattle.cs_session.specs.declared.reply.Complaint.{Complaint}
use Rattle.cs_session.specs.declared.reply.Reply.{Reply}
use Rattle.cs_session.specs.declared.reply.Reply.TheVariants.{Success, Unsupported, Failed, Sat, Unsat, Undecided, Proof, Closed}
use Rattle.cs_session.specs.declared.session.Last.{Last}
use Rattle.cs_session.specs.declared.session.Last.TheVariants.{Nothing, Refuted, Satisfied, Unknown}
use Rattle.cs_session.specs.Views.{State, standing, depth}
use Rattle.cs_session.specs.Replies.{IsCertificate, Tells, FollowsIf, IsOne, Shows, Proves, Does, RepliesTo}
use Rattle.cs_session.specs.Answering.{Answering, begun, given, answered}
use Rattle.cs_session.specs.Kept.{IsProof, ShownIsReadBack, KeptIsShown}
use Rattle.cs_session.proofs.Lists.{each_reverse}
use Rattle.cs_session.proofs.Turned.{apart_turned}

-- ---- words on all levels

abbrev HasOwn : Declared → Type 0
HasOwn d = HasWord d.symbol

abbrev HaveOwn : List Level → Type 0
HaveOwn levels = Each HasOwn (declared_in levels)

rest_own : (ds es : List Declared) → Each HasOwn (ds ++ es) → Each HasOwn es
rest_own [] es h = h
rest_own (d ∷ ds) es h = rest_own ds es h.1

dropped_own : (n : ℕ) (levels : List Level) → HaveOwn levels → HaveOwn (drop n levels)
dropped_own zero levels h = h
dropped_own (suc n) [] h = h
dropped_own (suc n) (l ∷ levels) h = dropped_own n levels (rest_own l.symbols (declared_in levels) h)

declared_own : (levels : List Level) (d : Declared) → HasOwn d → HaveOwn levels → HaveOwn (stack_after (DeclareFun d) levels)
declared_own [] d own h = h
declared_own (l ∷ levels) d own h = (own, h)

sort_declares : (levels : List Level) (x : List ℕ) → declared_in (stack_after (DeclareSort x) levels) ≡ declared_in levels
sort_declares [] x = refl
sort_declares (l ∷ levels) x = refl

-- ---- what holds of a state

record IsKept (s : State) : Type 0 where
  apart : AreApart (declared_in s.levels)
  own : HaveOwn s.levels
  told : (steps : Vec Step') → s.last ≡ Refuted steps → ∥ IsCertificate s.levels steps ∥₁

none_told : {R : Type 0} (steps : Vec Step') → Nothing ≡ Refuted steps → R
none_told steps e = cc

-- no check has said anything of these levels
abbrev untold : List Level → State
untold levels = record { levels = levels; last = Nothing }

untold_kept : (levels : List Level) → AreApart (declared_in levels) → HaveOwn levels → IsKept (untold levels)
untold_kept levels apart own = record { apart = apart; own = own; told = λ steps e. none_told steps e }

-- what declares no further symbol
same_kept : (levels next : List Level) → declared_in next ≡ declared_in levels → AreApart (declared_in levels) → HaveOwn levels → IsKept (untold next)
same_kept levels next e apart own = untold_kept next (subst AreApart (sym e) apart) (subst (Each HasOwn) (sym e) own)

answers_told : (levels : List Level) (r : Reply) (steps : Vec Step') → Tells levels r (Refuted steps) → ∥ IsCertificate levels steps ∥₁
answers_told levels Unsat steps h = h.0
answers_told levels Success steps h = absurd h
answers_told levels Unsupported steps h = absurd h
answers_told levels (Failed c) steps h = absurd h
answers_told levels Sat steps h = absurd h
answers_told levels Undecided steps h = absurd h
answers_told levels (Proof line) steps h = absurd h
answers_told levels Closed steps h = absurd h

checked_kept : (s u : State) (r : Reply) → u.levels ≡ s.levels → Tells s.levels r u.last → IsKept s → IsKept u
checked_kept s u r at tells k = record {
  apart = subst (λ ls. AreApart (declared_in ls)) (sym at) k.apart;
  own = subst HaveOwn (sym at) k.own;
  told = λ steps e.
      subst (λ ls. ∥ IsCertificate ls steps ∥₁) (sym at) (answers_told s.levels r steps (subst (λ l. Tells s.levels r l) e tells));
}

-- ---- commands

pushed_kept : (b : Bool) (n : ℕ) (s u : State) (r : Reply) → FollowsIf b (Push n) s r u → IsKept s → IsKept u
pushed_kept true n s u r done k = subst IsKept (sym done.1) (same_kept s.levels (stack_after (Push n) s.levels) (opened_declares n s.levels) k.apart k.own)
pushed_kept false n s u r done k = subst IsKept (sym done.1) k

popped_kept : (b : Bool) (n : ℕ) (s u : State) (r : Reply) → FollowsIf b (Pop n) s r u → IsKept s → IsKept u
popped_kept true n s u r done k = subst IsKept (sym done.1) (untold_kept (drop n s.levels) (dropped_apart n s.levels k.apart) (dropped_own n s.levels k.own))
popped_kept false n s u r done k = subst IsKept (sym done.1) k

done_kept : (c : Command) (s u : State) (r : Reply) (bytes rest : List ℕ) (tokens : List Token) → Lexes bytes tokens rest → understood (scope_of s.levels) tokens ≡ Ok c → Does c s r u → IsKept s → IsKept u
done_kept (SetOption x b) s u r bytes rest tokens lexed e done k = subst IsKept (sym done.1) k
done_kept (SetLogic x) s u r bytes rest tokens lexed e done k = subst IsKept (sym done.1) k
done_kept (DeclareSort x) s u r bytes rest tokens lexed e done k =
    subst IsKept (sym done.1) (same_kept s.levels (stack_after (DeclareSort x) s.levels) (sort_declares s.levels x) k.apart k.own)
done_kept (DeclareFun d) s u r bytes rest tokens lexed e done k =
    subst IsKept (sym done.1) (untold_kept (stack_after (DeclareFun d) s.levels)
    (stay_apart s.levels (DeclareFun d) k.apart (understood_follows s.levels tokens (DeclareFun d) e tt))
    (declared_own s.levels d (understood_named (scope_of s.levels) bytes rest tokens d lexed e) k.own))
done_kept (Assert t) s u r bytes rest tokens lexed e done k = subst IsKept (sym done.1) (same_kept s.levels (stack_after (Assert t) s.levels) (asserted s.levels) k.apart k.own)
  where
    asserted : (levels : List Level) → declared_in (stack_after (Assert t) levels) ≡ declared_in levels
    asserted [] = refl
    asserted (l ∷ levels) = refl
done_kept (Push n) s u r bytes rest tokens lexed e done k = pushed_kept (nat_le n 256) n s u r done k
done_kept (Pop n) s u r bytes rest tokens lexed e done k = popped_kept (nat_le n (depth s.levels)) n s u r done k
done_kept CheckSat s u r bytes rest tokens lexed e done k = checked_kept s u r done.0 done.1 k
done_kept GetProof s u r bytes rest tokens lexed e done k = subst IsKept (sym done.1) k
done_kept Exit s u r bytes rest tokens lexed e done k = subst IsKept (sym done.1) k

replied_kept : (o : Result Command' Fault) (s u : State) (r : Reply) (bytes : List ℕ) → Understands (scope_of s.levels) bytes o → RepliesTo o s r u → IsKept s → IsKept u
replied_kept (Ok c) s u r bytes meant done k = done_kept (command c) s u r bytes meant.1 meant.0 meant.2.lexed meant.4 done k
replied_kept (Err e) s u r bytes meant done k = subst IsKept (sym done.1) k

kept : {all text left : List ℕ} {causes : List Cause} {s : State} → Answering all text left causes s → IsKept s
kept begun = record { apart = tt; own = tt; told = λ steps e. none_told steps e }
kept (given piece h) = kept h
kept (answered {left = left} {s = s} {u = u} n r h ends replies) = replied_kept replies.understood s u r left replies.meant replies.replied (kept h)

-- ---- its proofs

same_steps : (xs ys : List Step) → map Some xs ≡ map Some ys → xs ≡ ys
same_steps [] [] e = refl
same_steps [] (y ∷ ys) e = absurd (cc)
same_steps (x ∷ xs) [] e = absurd (cc)
same_steps (x ∷ xs) (y ∷ ys) e =
    let head : Some x ≡ Some y = cc in
    let tail : map Some xs ≡ map Some ys = cc in
    ap₂ (λ z zs. z ∷ zs) (same_Some _ _ head) (same_steps xs ys tail)

words_of : (s : State) → IsKept s → HaveWords (standing s.levels).symbols
words_of s k = (apart_turned (declared_in s.levels) k.apart, each_reverse HasOwn (declared_in s.levels) k.own)

finished_steps : (stack : Stack) (ws : List Step) → Answers stack (map Some ws) Finished → IsFinished stack ws
finished_steps stack ws a = let f = finished_too stack (map Some ws) a in subst (IsFinished stack) (sym (same_steps ws f.0 f.1)) f.2

no_two : IsProp ⊥
no_two x y = absurd x

-- ---- steps that are writable

-- each is a step
gathered : (steps : List (Option Step)) → ∥ AreWritable steps ∥₁ → (ws : List Step) × (steps ≡ map Some ws)
gathered [] h = ([], refl)
gathered (Some w ∷ steps) h = let rest = gathered steps (∥∥₁_map h (λ all. all.1)) in (w ∷ rest.0, ap (λ xs. Some w ∷ xs) rest.1)
gathered (None ∷ steps) h = absurd (∥∥₁_elim h no_two (λ all. all.0))

each_writable : (ws : List Step) → AreWritable (map Some ws) → Each IsWritable ws
each_writable [] h = tt
each_writable (w ∷ ws) h = (h.0, each_writable ws h.1)

-- ---- the proof of steps that are kept

module _ (s : State) (k : IsKept s) (steps : Vec Step') (last : s.last ≡ Refuted steps) where
  abbrev all : List (Option Step)
  all = map written steps.items

  are : (ws : List Step) × (all ≡ map Some ws)
  are = gathered all (∥∥₁_map (k.told steps last) (λ c. c.1))

  done : ∥ IsFinished (standing s.levels) are.0 × Each IsWritable are.0 ∥₁
  done = ∥∥₁_map (k.told steps last) (λ c.
      (finished_steps (standing s.levels) are.0 (subst (λ xs. Answers (standing s.levels) xs Finished) are.1 c.0), each_writable are.0 (subst AreWritable are.1 c.1)))

  back : ∥ IsReadBack (standing s.levels) are.0 (certificate_text (map Some are.0)) ∥₁
  back = ∥∥₁_map done (λ d. texts.read_back (standing s.levels) are.0 (words_of s k) d.0 d.1)

  proof_of : IsProof s (certificate_text all ++ 10 ∷ [])
  proof_of = record {
    ws = are.0;
    kept = record { steps = steps; last = last; are = are.1 };
    is_line = ap (λ xs. certificate_text xs ++ 10 ∷ []) are.1;
    finished = ∥∥₁_map done (λ d. d.0);
    read_back = back;
  }

  is_one : ∥ IsOne (certificate_text all) ∥₁
  is_one = subst (λ xs. ∥ IsOne (certificate_text xs) ∥₁) (sym are.1)
      (∥∥₁_map back (λ b. (b.tokens, subst (λ x. IsFirst x b.tokens []) (append-nil (certificate_text (map Some are.0))) (b.first []))))

-- ---- what is shown is read back

not_failed : {R : Type 0} (line : List ℕ) (c : Complaint) → Proof line ≡ Failed c → R
not_failed line c e = cc

proved_back : (s : State) (line : List ℕ) → IsKept s → (l : Last) → s.last ≡ l → Proves l (Proof line) → IsProof s line
proved_back s line k Nothing last h = not_failed line _ h
proved_back s line k (Refuted steps) last h = subst (IsProof s) (sym h.0) (proof_of s k steps last)
proved_back s line k Satisfied last h = not_failed line _ h
proved_back s line k (Unknown cause) last h = not_failed line _ h

pub read_back : ShownIsReadBack
read_back s line reached h = proved_back s line (kept reached.answering) s.last refl h

-- ---- what is kept is shown

-- another answer is given only where the text isn't one s-expression
only_line : (steps : List (Option Step)) (r : Reply) → ∥ IsOne (certificate_text steps) ∥₁ → Shows steps r → r ≡ Proof (certificate_text steps ++ 10 ∷ [])
only_line steps (Proof line) one h = ap Proof h.0
only_line steps Success one h = absurd (∥∥₁_elim one no_two h.1)
only_line steps Unsupported one h = absurd (∥∥₁_elim one no_two h.1)
only_line steps (Failed c) one h = absurd (∥∥₁_elim one no_two h.1)
only_line steps Sat one h = absurd (∥∥₁_elim one no_two h.1)
only_line steps Unsat one h = absurd (∥∥₁_elim one no_two h.1)
only_line steps Undecided one h = absurd (∥∥₁_elim one no_two h.1)
only_line steps Closed one h = absurd (∥∥₁_elim one no_two h.1)

pub shown : KeptIsShown
shown s steps reached last =
    let k = kept reached.answering in
    let one = is_one s k steps last in
    let text = certificate_text (map written steps.items) in (
      text ++ 10 ∷ [],
      proof_of s k steps last,
      (∥∥₁_map one (λ x. subst (λ l. Proves l (Proof (text ++ 10 ∷ []))) (sym last) (refl, x)), λ q h. only_line (map written steps.items) q one (subst (λ l. Proves l q) last h)),
    )
