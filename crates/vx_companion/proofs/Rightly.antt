-- Each unsat and each sat of the companion is right.
use Rattle.std.proofs.Common.{◌≡◌, inl, inr, ℕ, ◌<◌, nat_le, Bool, true, false, true≢false, List, [], ◌∷◌, ◌++◌, length, Some, refl, ap, ◌∙◌, sym, subst, append_assoc, arith}
use Rattle.std.proofs.Math.Logic.{∥∥₁_elim, ∥∥₁_map}
use Rattle.vx_sexp.specs.declared.token.Token.{Token}
use Rattle.vx_sexp.specs.First.{IsFirst}
use Rattle.vx_sexp.specs.Finished.{finished, finished_at, finished_from}
use Rattle.vx_sexp.specs.Scanning.{next, scan, move_of, token_at}
use Rattle.vx_sexp.specs.Characters.{is_blank}
use Rattle.vx_sexp.proofs.Exact.{first_is_one}
use Rattle.vx_terms.specs.Interpretations.{Each, IsSatisfiable, IsUnsatisfiable}
use Rattle.vx_smt_meaning.specs.Commands.{Command, SetOption, SetLogic, DeclareSort, DeclareFun, Assert, Push, Pop, CheckSat, GetProof, Exit, Level, empty_level, stack_after, assertions_of, declared_in}
use Rattle.vx_smt_meaning.specs.Names.{IsCommand, AreCommands}
use Rattle.vx_smt_meaning.specs.WellFormed.{MayFollow, AllMayFollow, IsWellFormed}
use Rattle.vx_smt_meaning.specs.Words.{command_tokens}
use Rattle.vx_smt_meaning.specs.Replies.{Items, answer_of}
use Rattle.vx_smt_meaning.specs.Dialogues.{is_lawful_to, Answers, Check, checks_in, checks_told}
use Rattle.vx_smt_meaning.specs.declared.reply.Reply.TheVariants as told
use Rattle.vx_smt_text.specs.Text.{command_text, commands_text}
use Rattle.vx_smt_text.proofs.Back.{command_back}
use Rattle.vx_ends.specs.declared.piece.Piece.{Piece}
use Rattle.vx_ends.specs.Dialogue.{sent, got}
use Rattle.vx_dialogue.specs.History.{Tells}
use Rattle.vx_dialogue.proofs.Joined.{first_longer, items_of}
use Rattle.vx_dialogue.proofs.Counts.{finished_first, one_command}
use Rattle.cs_commands.specs.Laws.{AreApart}
use Rattle.cs_commands.specs.Following.{LeavesALevel}
use Rattle.cs_commands.proofs.Following.{understood_follows}
use Rattle.cs_commands.proofs.Apart.{stay_apart}
use Rattle.cs_answer.specs.declared.answer.Cause.{Cause}
use Rattle.cs_session.specs.declared.reply.Complaint.TheVariants as complaints
use Rattle.cs_session.specs.declared.reply.Reply.{Reply}
use Rattle.cs_session.specs.declared.reply.Reply.TheVariants.{Success, Unsupported, Failed, Sat, Unsat, Undecided, Proof, Closed}
use Rattle.cs_session.specs.declared.session.Last.{Last}
use Rattle.cs_session.specs.declared.session.Last.TheVariants.{Nothing, Refuted, Satisfied, Unknown}
use Rattle.cs_session.specs.Views.{State, depth}
use Rattle.cs_session.specs.Texts.{reply_text}
use Rattle.cs_session.specs.Replies.{Does, FollowsIf, Tells as TellsOf}
use Rattle.cs_session.specs.Answering.{start}
use Rattle.vx_companion.specs.Companion.{IsByCompanion}
use Rattle.vx_companion.specs.Right.{IsSorted, IsRight, CompanionIsRight}
use Rattle.vx_companion.proofs.Lines.{fed, item_of, first_fed, reply_first, complaint_unlawful, fault_unlawful}
use Rattle.vx_companion.proofs.Answered.{IsAnswer, AreAnswers, texts_of, line_of, answers_of}
use Rattle.vx_companion.proofs.Mirrors.{Mirrors, IsLikeCommand, like_assertions, none_there, some_there, same_length, mirrors_after}
use Rattle.vx_companion.proofs.ReadCommands.{read_like}

-- ---- what a command that was done leaves

done_if : (b : Bool) (d c : Command) (s u : State) (r : Reply) → is_lawful_to c (item_of r) ≡ true → FollowsIf b d s r u → u.levels ≡ stack_after d s.levels
done_if true d c s u r lawful done = ap (λ (x : State). x.levels) done.1
done_if false d c s u r lawful done =
    absurd (true≢false (sym lawful ∙ ap (λ x. is_lawful_to c (item_of x)) done.0 ∙ complaint_unlawful c complaints.Levels))

levels_after : (c d : Command) (s u : State) (r : Reply) → is_lawful_to c (item_of r) ≡ true → Does d s r u → u.levels ≡ stack_after d s.levels
levels_after c (SetOption x b) s u r lawful done = ap (λ (x : State). x.levels) done.1
levels_after c (SetLogic x) s u r lawful done = ap (λ (x : State). x.levels) done.1
levels_after c (DeclareSort x) s u r lawful done = ap (λ (x : State). x.levels) done.1
levels_after c (DeclareFun d) s u r lawful done = ap (λ (x : State). x.levels) done.1
levels_after c (Assert t) s u r lawful done = ap (λ (x : State). x.levels) done.1
levels_after c (Push n) s u r lawful done = done_if (nat_le n 256) (Push n) c s u r lawful done
levels_after c (Pop n) s u r lawful done = done_if (nat_le n (depth s.levels)) (Pop n) c s u r lawful done
levels_after c CheckSat s u r lawful done = done.0
levels_after c GetProof s u r lawful done = ap (λ (x : State). x.levels) done.1
levels_after c Exit s u r lawful done = ap (λ (x : State). x.levels) done.1

leaves : (c d : Command) (ks ls : List Level) → length ks ≡ length ls → IsLikeCommand d c → MayFollow ls c → LeavesALevel ks d
leaves (SetOption x b) d ks ls same is follows = subst (LeavesALevel ks) (sym is) tt
leaves (SetLogic x) d ks ls same is follows = subst (LeavesALevel ks) (sym is) tt
leaves (DeclareSort x) d ks ls same is follows = subst (LeavesALevel ks) (sym is) tt
leaves (DeclareFun f) d ks ls same is follows = subst (LeavesALevel ks) (sym is) tt
leaves (Assert t) d ks ls same is follows = subst (LeavesALevel ks) (sym is.1) tt
leaves (Push n) d ks ls same is follows = subst (LeavesALevel ks) (sym is) tt
leaves (Pop n) d ks ls same is follows = subst (LeavesALevel ks) (sym is) (subst (λ k. n < k) (sym same) follows)
leaves CheckSat d ks ls same is follows = subst (LeavesALevel ks) (sym is) tt
leaves GetProof d ks ls same is follows = subst (LeavesALevel ks) (sym is) tt
leaves Exit d ks ls same is follows = subst (LeavesALevel ks) (sym is) tt

-- ---- a check

only_unsat : (levels : List Level) (r : Reply) (l : Last) → TellsOf levels r l → answer_of (item_of r) ≡ Some told.Unsat → r ≡ Unsat
only_unsat levels Success l h e = absurd (cc)
only_unsat levels Unsupported l h e = absurd (cc)
only_unsat levels (Failed complaints.Unfinished) l h e = absurd (cc)
only_unsat levels (Failed complaints.BadToken) l h e = absurd (cc)
only_unsat levels (Failed complaints.Deep) l h e = absurd (cc)
only_unsat levels (Failed complaints.Name) l h e = absurd (cc)
only_unsat levels (Failed complaints.Wide) l h e = absurd (cc)
only_unsat levels (Failed complaints.Sort) l h e = absurd (cc)
only_unsat levels (Failed complaints.Levels) l h e = absurd (cc)
only_unsat levels (Failed complaints.NoProof) l h e = absurd (cc)
only_unsat levels Sat l h e = absurd (cc)
only_unsat levels Unsat l h e = refl
only_unsat levels Undecided l h e = absurd (cc)
only_unsat levels (Proof line) Nothing h e = absurd h
only_unsat levels (Proof line) (Refuted steps) h e = absurd h
only_unsat levels (Proof line) Satisfied h e = absurd h
only_unsat levels (Proof line) (Unknown cause) h e = absurd h
only_unsat levels Closed l h e = absurd (cc)

only_sat : (levels : List Level) (r : Reply) (l : Last) → TellsOf levels r l → answer_of (item_of r) ≡ Some told.Sat → r ≡ Sat
only_sat levels Success l h e = absurd (cc)
only_sat levels Unsupported l h e = absurd (cc)
only_sat levels (Failed complaints.Unfinished) l h e = absurd (cc)
only_sat levels (Failed complaints.BadToken) l h e = absurd (cc)
only_sat levels (Failed complaints.Deep) l h e = absurd (cc)
only_sat levels (Failed complaints.Name) l h e = absurd (cc)
only_sat levels (Failed complaints.Wide) l h e = absurd (cc)
only_sat levels (Failed complaints.Sort) l h e = absurd (cc)
only_sat levels (Failed complaints.Levels) l h e = absurd (cc)
only_sat levels (Failed complaints.NoProof) l h e = absurd (cc)
only_sat levels Sat l h e = refl
only_sat levels Unsat l h e = absurd (cc)
only_sat levels Undecided l h e = absurd (cc)
only_sat levels (Proof line) Nothing h e = absurd h
only_sat levels (Proof line) (Refuted steps) h e = absurd h
only_sat levels (Proof line) Satisfied h e = absurd h
only_sat levels (Proof line) (Unknown cause) h e = absurd h
only_sat levels Closed l h e = absurd (cc)

unsat_told : (levels : List Level) (l : Last) → TellsOf levels Unsat l → IsUnsatisfiable (assertions_of levels)
unsat_told levels Nothing h = absurd h
unsat_told levels (Refuted steps) h = h.1
unsat_told levels Satisfied h = absurd h
unsat_told levels (Unknown cause) h = absurd h

sat_told : (levels : List Level) (l : Last) → TellsOf levels Sat l → IsSatisfiable (assertions_of levels)
sat_told levels Nothing h = absurd h
sat_told levels (Refuted steps) h = absurd h
sat_told levels Satisfied h = h
sat_told levels (Unknown cause) h = absurd h

check_right : (ls : List Level) (s u : State) (r : Reply) → Mirrors s.levels ls → Does CheckSat s r u → answer_of (item_of r) ≡ Some told.Unsat → IsUnsatisfiable (assertions_of ls)
check_right ls s u r m done e =
    none_there (assertions_of s.levels) (assertions_of ls) (like_assertions s.levels ls m)
    (unsat_told s.levels u.last (subst (λ x. TellsOf s.levels x u.last) (only_unsat s.levels r u.last done.1 e) done.1))

check_met : (ls : List Level) (s u : State) (r : Reply) → Mirrors s.levels ls → Does CheckSat s r u → answer_of (item_of r) ≡ Some told.Sat → IsSatisfiable (assertions_of ls)
check_met ls s u r m done e =
    some_there (assertions_of s.levels) (assertions_of ls) (like_assertions s.levels ls m)
    (sat_told s.levels u.last (subst (λ x. TellsOf s.levels x u.last) (only_sat s.levels r u.last done.1 e) done.1))

-- what a session says of a check, once it is known that one has answered
record IsSo (c : Check) : Type 0 where
  unsat : c.reply ≡ Some told.Unsat → IsUnsatisfiable c.assertions
  sat : c.reply ≡ Some told.Sat → IsSatisfiable c.assertions

checks_right : (c d : Command) (ls : List Level) (s u : State) (r : Reply) → Mirrors s.levels ls → IsLikeCommand d c → Does d s r u → Each IsSo (checks_in c ls (item_of r))
checks_right (SetOption x b) d ls s u r m is done = tt
checks_right (SetLogic x) d ls s u r m is done = tt
checks_right (DeclareSort x) d ls s u r m is done = tt
checks_right (DeclareFun f) d ls s u r m is done = tt
checks_right (Assert t) d ls s u r m is done = tt
checks_right (Push n) d ls s u r m is done = tt
checks_right (Pop n) d ls s u r m is done = tt
checks_right CheckSat d ls s u r m is done =
    let does = subst (λ x. Does x s r u) is done in
    (record { unsat = λ e. check_right ls s u r m does e; sat = λ e. check_met ls s u r m does e }, tt)
checks_right GetProof d ls s u r m is done = tt
checks_right Exit d ls s u r m is done = tt

-- ---- one command and its reply

record Steps (c : Command) (ls : List Level) (u : State) (r : Reply) : Type 0 where
  mirrors : Mirrors u.levels (stack_after c ls)
  apart : AreApart (declared_in u.levels)
  right : Each IsSo (checks_in c ls (item_of r))

steps : (c : Command) (ls : List Level) (s u : State) (r : Reply) → Mirrors s.levels ls → AreApart (declared_in s.levels) → IsCommand c → MayFollow ls c → IsSorted c
    → IsAnswer (command_tokens c) s r u → is_lawful_to c (item_of r) ≡ true → Steps c ls u r
steps c ls s u r m apart name follows sorted (inr fault) lawful = absurd (fault_unlawful c fault.0 r fault.1 lawful)
steps c ls s u r m apart name follows sorted (inl done) lawful =
    let d = done.0 in
    let is : IsLikeCommand d c = read_like s.levels ls m apart c d name follows sorted done.1 in
    let after : u.levels ≡ stack_after d s.levels = levels_after c d s u r lawful done.2 in
    let may = understood_follows s.levels (command_tokens c) d done.1 (leaves c d s.levels ls (same_length s.levels ls m) is follows) in
    record {
      mirrors = subst (λ ks. Mirrors ks (stack_after c ls)) (sym after) (mirrors_after c d s.levels ls is m);
      apart = subst (λ ks. AreApart (declared_in ks)) (sym after) (stay_apart s.levels d apart may);
      right = checks_right c d ls s u r m is done.2;
    }

-- ---- all commands

each_joined : (xs ys : List Check) → Each IsSo xs → Each IsSo ys → Each IsSo (xs ++ ys)
each_joined [] ys h g = g
each_joined (x ∷ xs) ys h g = (h.0, each_joined xs ys h.1 g)

none_in : (b : Bool) → finished (fed b []) ≡ 0
unfolding finished finished_at finished_from next scan move_of token_at is_blank
none_in false = refl
none_in true = refl

-- an item that is read is no part of nothing
pub nothing_read : (b : Bool) (gotten ungot between : List ℕ) (item : List Token) → gotten ++ ungot ≡ fed b [] → IsFirst gotten item between → ⊥
nothing_read b gotten ungot between item is first =
    let longer = first_longer gotten ungot item between first in
    let some = finished_first (gotten ++ ungot) item (between ++ ungot) longer.lexed longer.one in
    let none = ap finished is ∙ none_in b in
    omega arith

pub command_first : (b : Bool) (c : Command) (rest : List ℕ) → IsCommand c → IsFirst (fed b (command_text c ++ rest)) (command_tokens c) (10 ∷ rest)
command_first b c rest named = first_fed b (command_text c ++ rest) (command_tokens c) (10 ∷ rest) (record { lexed = command_back c rest named; one = one_command c })

right_from : (cs : List Command) (items : List (List Token)) (rs : List Reply) (b e : Bool) (s end : State) (ls : List Level) (bytes left begun gotten ungot later : List ℕ)
    → Mirrors s.levels ls → AreApart (declared_in s.levels) → AreCommands cs → AllMayFollow ls cs → Each IsSorted cs
    → AreAnswers s bytes rs left end → bytes ≡ fed b (commands_text cs ++ begun) → Items gotten items later → gotten ++ ungot ≡ fed e (texts_of rs) → Answers cs items
    → Each IsSo (checks_told ls cs items)
right_from [] items rs b e s end ls bytes left begun gotten ungot later m apart named follow sorted answers is heard got_is lawful = tt
right_from (c ∷ cs) [] rs b e s end ls bytes left begun gotten ungot later m apart named follow sorted answers is heard got_is lawful = absurd lawful
right_from (c ∷ cs) (item ∷ items) [] b e s end ls bytes left begun gotten ungot later m apart named follow sorted answers is heard got_is lawful =
    absurd (nothing_read e gotten ungot heard.0 item got_is heard.1)
right_from (c ∷ cs) (item ∷ items) (r ∷ rs) b e s end ls bytes left begun gotten ungot later m apart named follow sorted answers is heard got_is lawful =
    let behind = commands_text cs ++ begun in
    let whole : bytes ≡ fed b (command_text c ++ behind) = is ∙ ap (fed b) (append_assoc (command_text c) (commands_text cs) begun) in
    let first : IsFirst bytes (command_tokens c) (10 ∷ behind) = subst (λ x. IsFirst x (command_tokens c) (10 ∷ behind)) (sym whole) (command_first b c behind named.0) in
    let read = first_is_one bytes answers.2 (command_tokens c) answers.1 (10 ∷ behind) answers.3 first in
    let reply : IsFirst (gotten ++ ungot) (item_of r) (10 ∷ texts_of rs) =
    subst (λ x. IsFirst x (item_of r) (10 ∷ texts_of rs)) (sym got_is) (first_fed e (reply_text r ++ texts_of rs) (item_of r) (10 ∷ texts_of rs) (reply_first r (texts_of rs) (line_of answers.2 s answers.0 r answers.4))) in
    let same = first_is_one (gotten ++ ungot) item (item_of r) (heard.0 ++ ungot) (10 ∷ texts_of rs) (first_longer gotten ungot item heard.0 heard.1) reply in
    let step : Steps c ls answers.0 r =
    steps c ls s answers.0 r m apart named.0 follow.0 sorted.0 (subst (λ ts. IsAnswer ts s r answers.0) read.0 answers.4) (ap (is_lawful_to c) (sym same.0) ∙ lawful.0) in
    each_joined (checks_in c ls item) (checks_told (stack_after c ls) cs items)
    (subst (λ x. Each IsSo (checks_in c ls x)) (sym same.0) step.right)
    (right_from cs items rs true true answers.0 end (stack_after c ls) answers.1 left begun heard.0 ungot later step.mirrors step.apart named.1 follow.1 sorted.1 answers.5 read.1 heard.2 same.1 lawful.1)

-- ---- a record of a link

pub front_commands : (front behind : List Command) → AreCommands (front ++ behind) → AreCommands front
front_commands [] behind h = tt
front_commands (c ∷ front) behind h = (h.0, front_commands front behind h.1)

pub front_follow : (front behind : List Command) (ls : List Level) → AllMayFollow ls (front ++ behind) → AllMayFollow ls front
front_follow [] behind ls h = tt
front_follow (c ∷ front) behind ls h = (h.0, front_follow front behind (stack_after c ls) h.1)

pub front_each : (P : Command → Type 0) (front behind : List Command) → Each P (front ++ behind) → Each P front
front_each P [] behind h = tt
front_each P (c ∷ front) behind h = (h.0, front_each P front behind h.1)

none_told : Mirrors (empty_level ∷ []) (empty_level ∷ [])
none_told = (record { sorts = refl; symbols = refl; assertions = tt }, tt)

by_record : (failed : Bool) (script : List Command) (pieces : List Piece) (causes : List Cause) (checks : List Check) → IsWellFormed script → Each IsSorted script → Tells failed script pieces checks
    → IsByCompanion pieces causes → Each IsSo checks
by_record failed script pieces causes checks well sorted tells by =
    let answers = answers_of by.replied.answering in
    subst (Each IsSo) (sym tells.checks_are)
    (right_from tells.answered tells.items answers.replies false false start by.state (empty_level ∷ []) (sent pieces) by.left tells.begun (got pieces) by.ungot tells.got_later none_told tt
    (front_commands tells.answered tells.behind (subst AreCommands tells.all well.spelled))
    (front_follow tells.answered tells.behind (empty_level ∷ []) (subst (AllMayFollow (empty_level ∷ [])) tells.all well.in_order))
    (front_each IsSorted tells.answered tells.behind (subst (Each IsSorted) tells.all sorted))
    answers.are tells.sent_is (items_of (got pieces) tells.items tells.got_later tells.got_is) answers.text_is tells.lawful)

no_two : IsProp ⊥
no_two x y = absurd x

-- what holds of each, once it is known that a session has answered
each_once : {A : Type 0} (checks : List Check) → (A → Each IsSo checks) → ∥ A ∥₁ → Each IsRight checks
each_once [] f h = tt
each_once (c ∷ checks) f h =
    (record { unsat = λ reply i all. ∥∥₁_elim h no_two (λ a. (f a).0.unsat reply i all); sat = λ reply. ∥∥₁_map h (λ a. (f a).0.sat reply) }, each_once checks (λ a. (f a).1) h)

pub companion_right : CompanionIsRight
companion_right failed script pieces causes checks well sorted tells by = each_once checks (λ h. by_record failed script pieces causes checks well sorted tells h) by
