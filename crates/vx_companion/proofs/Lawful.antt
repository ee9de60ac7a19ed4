-- What the companion replies is lawful, where it takes each command.
use Rattle.std.proofs.Common.{◌≡◌, inl, inr, ◌++◌, ◌+◌, ◌≤◌, ◌<◌, ℕ, Bool, true, false, if◌then◌else◌, List, [], ◌∷◌, codes, length, refl, ap, ◌∙◌, sym, subst, append_assoc, length-append, arith}
use Rattle.std.proofs.Math.Logic.{∥∥₁_elim}
use Rattle.std.specs.Str.{bytes_eq}
use Rattle.std.specs.Prelude.{not}
use Rattle.vx_sexp.specs.declared.token.Token.{Token}
use Rattle.vx_sexp.specs.declared.token.Token.TheVariants.{Open, Atom}
use Rattle.vx_sexp.specs.declared.reader.SexpFault.TheVariants as fault
use Rattle.vx_sexp.specs.First.{IsFirst, Faults, deepest}
use Rattle.vx_sexp.specs.Finished.{finished}
use Rattle.vx_sexp.proofs.Exact.{first_is_one, fault_excludes}
use Rattle.vx_sexp.proofs.Goes.{bad_goes_nowhere, deep_goes_deep}
use Rattle.vx_terms.specs.Interpretations.{Each}
use Rattle.vx_smt_meaning.specs.Commands.{Command, SetOption, SetLogic, DeclareSort, DeclareFun, Assert, Push, Pop, CheckSat, GetProof, Exit, Level, empty_level, stack_after, declared_in}
use Rattle.vx_smt_meaning.specs.Names.{AreCommands}
use Rattle.vx_smt_meaning.specs.WellFormed.{MayFollow, AllMayFollow, IsWellFormed}
use Rattle.vx_smt_meaning.specs.Words.{command_tokens}
use Rattle.vx_smt_meaning.specs.Replies.{Items, is_refusal, is_word_item, answer_of, is_given}
use Rattle.vx_smt_meaning.specs.Dialogues.{is_lawful_to, Answers, Check}
use Rattle.vx_smt_text.specs.Text.{command_text, commands_text}
use Rattle.vx_smt_text.specs.Small.{IsSmallCommand}
use Rattle.vx_ends.specs.declared.piece.Piece.{Piece}
use Rattle.vx_ends.specs.Dialogue.{sent, got}
use Rattle.vx_dialogue.specs.declared.item.Wanted.{Wanted}
use Rattle.vx_dialogue.specs.Items.{longest, is_lawful, IsNoExpression, IsTooLong, IsNoItem, IsGarbled, IsRefused}
use Rattle.vx_dialogue.specs.Stops.{Stops, wanted_by}
use Rattle.vx_dialogue.specs.History.{Tells}
use Rattle.vx_dialogue.specs.Pace.{FewWait}
use Rattle.vx_dialogue.proofs.Joined.{append_none, first_longer, items_of}
use Rattle.vx_dialogue.proofs.Counts.{finished_first}
use Rattle.cs_commands.specs.Laws.{AreApart}
use Rattle.cs_answer.specs.declared.answer.Cause.{Cause}
use Rattle.cs_session.specs.declared.reply.Reply.{Reply}
use Rattle.cs_session.specs.declared.reply.Reply.TheVariants.{Success, Unsupported, Failed, Sat, Unsat, Undecided, Proof, Closed}
use Rattle.cs_session.specs.Views.{State}
use Rattle.cs_session.specs.Texts.{reply_text}
use Rattle.cs_session.specs.Answering.{start}
use Rattle.vx_companion.specs.Companion.{IsByCompanion, RepliesByCompanion}
use Rattle.vx_companion.specs.Right.{IsSorted}
use Rattle.vx_companion.specs.Lawful.{IsTaken, Fits, CompanionIsLawful}
use Rattle.vx_companion.proofs.Lines.{fed, item_of, is_short, short_line, first_fed, reply_first, reply_short, reply_shallow, complaint_unlawful, unsupported_unlawful}
use Rattle.vx_companion.proofs.Answered.{IsAnswer, AreAnswers, texts_of, answers_of}
use Rattle.vx_companion.proofs.Taken.{IsDone, done_by}
use Rattle.vx_companion.proofs.Rightly.{command_first, nothing_read, front_commands, front_follow, front_each}

-- ---- what is lawful goes by the tokens

abbrev verb_in : List Token → List ℕ
verb_in (Open ∷ Atom kind x ∷ ts) = x
verb_in ts = []

abbrev lawful_by : List ℕ → List Token → Bool
lawful_by x item = if bytes_eq x (codes "check-sat") then is_given (answer_of item) else (if bytes_eq x (codes "get-proof") then not (is_refusal item) else is_word_item (codes "success") item)

by_verb : (c : Command) (item : List Token) → is_lawful_to c item ≡ lawful_by (verb_in (command_tokens c)) item
by_verb (SetOption x b) item = refl
by_verb (SetLogic x) item = refl
by_verb (DeclareSort x) item = refl
by_verb (DeclareFun d) item = refl
by_verb (Assert t) item = refl
by_verb (Push n) item = refl
by_verb (Pop n) item = refl
by_verb CheckSat item = refl
by_verb GetProof item = refl
by_verb Exit item = refl

same_lawful : (c d : Command) (item : List Token) → command_tokens c ≡ command_tokens d → is_lawful_to c item ≡ is_lawful_to d item
same_lawful c d item same = by_verb c item ∙ ap (λ ts. lawful_by (verb_in ts) item) same ∙ sym (by_verb d item)

wanted_lawful : (c : Command) (item : List Token) → is_lawful (wanted_by c) item ≡ is_lawful_to c item
unfolding is_lawful
wanted_lawful (SetOption x b) item = refl
wanted_lawful (SetLogic x) item = refl
wanted_lawful (DeclareSort x) item = refl
wanted_lawful (DeclareFun d) item = refl
wanted_lawful (Assert t) item = refl
wanted_lawful (Push n) item = refl
wanted_lawful (Pop n) item = refl
wanted_lawful CheckSat item = refl
wanted_lawful GetProof item = refl
wanted_lawful Exit item = refl

not_both : (b : Bool) → b ≡ true → b ≡ false → ⊥
not_both b e f = cc

-- what is lawful is no refusal
lawful_given : (c : Command) (r : Reply) → is_short r ≡ true → is_lawful_to c (item_of r) ≡ true → is_refusal (item_of r) ≡ false
unfolding is_refusal
lawful_given c Success short e = refl
lawful_given c Unsupported short e = absurd (not_both (is_lawful_to c (item_of Unsupported)) e (unsupported_unlawful c))
lawful_given c (Failed x) short e = absurd (not_both (is_lawful_to c (item_of (Failed x))) e (complaint_unlawful c x))
lawful_given c Sat short e = refl
lawful_given c Unsat short e = refl
lawful_given c Undecided short e = refl
lawful_given c (Proof line) short e = absurd (cc)
lawful_given c Closed short e = refl

-- ---- the reply to one command among those that are got

-- What comes next begins with a lawful reply to this command, perhaps behind a line feed, once some more is got.
record Next (c : Command) (next ungot : List ℕ) : Type 0 where
  feed : Bool
  reply : Reply
  short : is_short reply ≡ true
  rest : List ℕ
  is : next ++ ungot ≡ fed feed (reply_text reply ++ rest)
  lawful : is_lawful_to c (item_of reply) ≡ true

-- bytes that begin with a command, of which a script goes on
-- the first command of the bytes
sent_first : (b : Bool) (c : Command) (cs : List Command) (more bytes between : List ℕ) (tokens : List Token) → AreCommands (c ∷ cs) → bytes ≡ fed b (commands_text (c ∷ cs) ++ more)
    → IsFirst bytes tokens between → (tokens ≡ command_tokens c) × (between ≡ 10 ∷ (commands_text cs ++ more))
sent_first b c cs more bytes between tokens named is first =
    let behind = commands_text cs ++ more in
    let whole : bytes ≡ fed b (command_text c ++ behind) = is ∙ ap (fed b) (append_assoc (command_text c) (commands_text cs) more) in
    first_is_one bytes tokens (command_tokens c) between (10 ∷ behind) first (subst (λ x. IsFirst x (command_tokens c) (10 ∷ behind)) (sym whole) (command_first b c behind named.0))

-- there is one, as long as there are bytes of commands
some_left : (b : Bool) (c : Command) (cs : List Command) (more bytes : List ℕ) → AreCommands (c ∷ cs) → bytes ≡ fed b (commands_text (c ∷ cs) ++ more) → finished bytes ≡ 0 → ⊥
some_left b c cs more bytes named is none =
    let behind = commands_text cs ++ more in
    let whole : bytes ≡ fed b (command_text c ++ behind) = is ∙ ap (fed b) (append_assoc (command_text c) (commands_text cs) more) in
    let first = command_first b c behind named.0 in
    let some = finished_first (fed b (command_text c ++ behind)) (command_tokens c) (10 ∷ behind) first.lexed first.one in
    let same = ap finished whole in
    omega arith

next_of : (before : List Command) (c : Command) (cs : List Command) (items : List (List Token)) (rs : List Reply) (b e : Bool) (s end : State) (levels : List Level)
    (bytes left sent_later unsent gotten ungot next : List ℕ)
    → s.levels ≡ levels → AreApart (declared_in levels) → AreCommands cs → AllMayFollow levels cs → Each IsSorted cs → Each IsTaken cs → Each IsSmallCommand cs → Each Fits cs
    → AreCommands (before ++ c ∷ []) → AreAnswers s bytes rs left end → finished left ≡ 0
    → bytes ≡ fed b (commands_text (before ++ c ∷ []) ++ sent_later) → bytes ++ unsent ≡ fed b (commands_text cs)
    → Items gotten items next → gotten ++ ungot ≡ fed e (texts_of rs) → Answers before items → Next c next ungot
next_of [] c cs (item ∷ items) rs b e s end levels bytes left later unsent gotten ungot next at apart named follow sorted taken small fits own answers none is whole heard got_is lawful = absurd lawful
next_of (a ∷ before) c cs [] rs b e s end levels bytes left later unsent gotten ungot next at apart named follow sorted taken small fits own answers none is whole heard got_is lawful = absurd lawful
next_of [] c cs [] [] b e s end levels bytes left later unsent gotten ungot next at apart named follow sorted taken small fits own answers none is whole heard got_is lawful =
    absurd (some_left b c [] later bytes own is (ap finished (sym answers.0) ∙ none))
next_of (a ∷ before) c cs (item ∷ items) [] b e s end levels bytes left later unsent gotten ungot next at apart named follow sorted taken small fits own answers none is whole heard got_is lawful =
    absurd (nothing_read e gotten ungot heard.0 item got_is heard.1)
next_of [] c [] [] (r ∷ rs) b e s end levels bytes left later unsent gotten ungot next at apart named follow sorted taken small fits own answers none is whole heard got_is lawful =
    absurd (nothing_read b bytes unsent answers.1 answers.2 whole answers.3)
next_of (a ∷ before) c [] (item ∷ items) (r ∷ rs) b e s end levels bytes left later unsent gotten ungot next at apart named follow sorted taken small fits own answers none is whole heard got_is lawful =
    absurd (nothing_read b bytes unsent answers.1 answers.2 whole answers.3)
next_of [] c (d ∷ cs) [] (r ∷ rs) b e s end levels bytes left later unsent gotten ungot next at apart named follow sorted taken small fits own answers none is whole heard got_is lawful =
    let sent_so = sent_first b c [] later bytes answers.1 answers.2 own is answers.3 in
    let scripted = sent_first b d cs [] (bytes ++ unsent) (answers.1 ++ unsent) answers.2 named (whole ∙ ap (fed b) (sym (append_none (commands_text (d ∷ cs))))) (first_longer bytes unsent answers.2 answers.1 answers.3) in
    let done : IsDone d s.levels answers.0 r =
    done_by d s answers.0 r (subst (λ ls. AreApart (declared_in ls)) (sym at) apart) named.0 (subst (λ ls. MayFollow ls d) (sym at) follow.0) sorted.0 taken.0 small.0 fits.0
    (subst (λ ts. IsAnswer ts s r answers.0) scripted.0 answers.4) in
    record {
      feed = e;
      reply = r;
      short = done.short;
      rest = texts_of rs;
      is = ap (λ x. x ++ ungot) heard ∙ got_is;
      lawful = same_lawful c d (item_of r) (sym sent_so.0 ∙ scripted.0) ∙ done.lawful;
    }
next_of (a ∷ before) c (d ∷ cs) (item ∷ items) (r ∷ rs) b e s end levels bytes left later unsent gotten ungot next at apart named follow sorted taken small fits own answers none is whole heard got_is lawful =
    let sent_so = sent_first b a (before ++ c ∷ []) later bytes answers.1 answers.2 own is answers.3 in
    let scripted = sent_first b d cs [] (bytes ++ unsent) (answers.1 ++ unsent) answers.2 named (whole ∙ ap (fed b) (sym (append_none (commands_text (d ∷ cs))))) (first_longer bytes unsent answers.2 answers.1 answers.3) in
    let done : IsDone d s.levels answers.0 r =
    done_by d s answers.0 r (subst (λ ls. AreApart (declared_in ls)) (sym at) apart) named.0 (subst (λ ls. MayFollow ls d) (sym at) follow.0) sorted.0 taken.0 small.0 fits.0
    (subst (λ ts. IsAnswer ts s r answers.0) scripted.0 answers.4) in
    let reply : IsFirst (gotten ++ ungot) (item_of r) (10 ∷ texts_of rs) =
    subst (λ x. IsFirst x (item_of r) (10 ∷ texts_of rs)) (sym got_is) (first_fed e (reply_text r ++ texts_of rs) (item_of r) (10 ∷ texts_of rs) (reply_first r (texts_of rs) (short_line r done.short))) in
    let same = first_is_one (gotten ++ ungot) item (item_of r) (heard.0 ++ ungot) (10 ∷ texts_of rs) (first_longer gotten ungot item heard.0 heard.1) reply in
    next_of before c cs items rs true true answers.0 end (stack_after d levels) answers.1 left later unsent heard.0 ungot next
    (done.levels_are ∙ ap (stack_after d) at) (subst (λ ls. AreApart (declared_in (stack_after d ls))) at done.apart) named.1 follow.1 sorted.1 taken.1 small.1 fits.1 own.1 answers.5 none
    sent_so.1 (scripted.1 ∙ ap (λ x. 10 ∷ x) (append_none (commands_text cs))) heard.2 same.1 lawful.1

-- ---- so what comes next is not unlawful

first_next : {c : Command} {next ungot : List ℕ} (n : Next c next ungot) → IsFirst (next ++ ungot) (item_of n.reply) (10 ∷ n.rest)
first_next n =
    subst (λ x. IsFirst x (item_of n.reply) (10 ∷ n.rest)) (sym n.is) (first_fed n.feed (reply_text n.reply ++ n.rest) (item_of n.reply) (10 ∷ n.rest) (reply_first n.reply n.rest (short_line n.reply n.short)))

-- a longer beginning goes on where a shorter one ends
goes_on : (xs ys us vs : List ℕ) → xs ++ ys ≡ us ++ vs → length us ≤ length xs → (more : List ℕ) × (xs ≡ us ++ more)
goes_on xs ys [] vs is shorter = (xs, refl)
goes_on [] ys (u ∷ us) vs is shorter = absurd (omega arith)
goes_on (x ∷ xs) ys (u ∷ us) vs is shorter =
    let head : x ≡ u = cc in
    let tail : xs ++ ys ≡ us ++ vs = cc in
    let more = goes_on xs ys us vs tail (omega arith) in
    (more.0, rw head (ap (λ l. u ∷ l) more.1))

fed_joined : (b : Bool) (xs ys : List ℕ) → fed b (xs ++ ys) ≡ fed b xs ++ ys
fed_joined false xs ys = refl
fed_joined true xs ys = refl

-- a reply is not so long
not_long : {c : Command} {next ungot : List ℕ} (n : Next c next ungot) → longest < length next → (at : ℕ) → Faults (fault.Unfinished at) next → ⊥
not_long {next = next} {ungot = ungot} n long at unfinished =
    let short = reply_short n.feed n.reply n.short in
    let more = goes_on next ungot (fed n.feed (reply_text n.reply)) n.rest (n.is ∙ fed_joined n.feed (reply_text n.reply) n.rest) (omega arith) in
    let first : IsFirst next (item_of n.reply) (10 ∷ more.0) =
    subst (λ x. IsFirst x (item_of n.reply) (10 ∷ more.0)) (sym (more.1 ∙ sym (fed_joined n.feed (reply_text n.reply) more.0)))
    (first_fed n.feed (reply_text n.reply ++ more.0) (item_of n.reply) (10 ∷ more.0) (reply_first n.reply more.0 (short_line n.reply n.short))) in
    fault_excludes (fault.Unfinished at) next (item_of n.reply) (10 ∷ more.0) unfinished first

not_shallow : (n : ℕ) → 4096 < n → n ≤ 4096 → ⊥
not_shallow n deep shallow = omega arith

is_expression : {c : Command} {next ungot : List ℕ} → Next c next ungot → IsNoExpression next → ⊥
is_expression {next = next} {ungot = ungot} n (inl bad) = bad_goes_nowhere bad.0 next ungot (item_of n.reply) (10 ∷ n.rest) bad.1 (first_next n)
is_expression {next = next} {ungot = ungot} n (inr (inl deep)) =
    not_shallow (deepest 0 (item_of n.reply)) (deep_goes_deep deep.0 next deep.1 ungot (item_of n.reply) (10 ∷ n.rest) (first_next n)) (reply_shallow n.reply n.short)
is_expression n (inr (inr long)) = not_long n long.0 long.1 long.2

-- nor is one that is whole
not_too_long : {c : Command} {next ungot : List ℕ} (n : Next c next ungot) (text : List ℕ) → IsTooLong next text → ⊥
not_too_long {next = next} {ungot = ungot} n text long =
    let short = reply_short n.feed n.reply n.short in
    let same = (first_is_one (next ++ ungot) long.0 (item_of n.reply) (long.1 ++ ungot) (10 ∷ n.rest) (first_longer next ungot long.0 long.1 long.2) (first_next n)).1 in
    let behind = sym (length-append long.1 ungot) ∙ ap length same in
    let all = sym (length-append next ungot) ∙ (ap length (n.is ∙ fed_joined n.feed (reply_text n.reply) n.rest) ∙ length-append (fed n.feed (reply_text n.reply)) n.rest) in
    let parts = ap length long.3 ∙ length-append text long.1 in
    let high = long.4 in
    omega arith

is_item : {c : Command} {next ungot : List ℕ} → Next c next ungot → (kept : List ℕ) → IsNoItem next kept → ⊥
is_item n kept (inl none) = is_expression n none.0
is_item n kept (inr long) = not_too_long n long.0 long.1

-- the item that is got is the one that was answered
same_item : {c : Command} {next ungot : List ℕ} (n : Next c next ungot) (item : List Token) (rest : List ℕ) → IsFirst next item rest → item ≡ item_of n.reply
same_item {next = next} {ungot = ungot} n item rest first =
    (first_is_one (next ++ ungot) item (item_of n.reply) (rest ++ ungot) (10 ∷ n.rest) (first_longer next ungot item rest first) (first_next n)).0

not_garbled : {c : Command} {next ungot : List ℕ} → Next c next ungot → (kept : List ℕ) → IsGarbled (wanted_by c) next kept → ⊥
not_garbled n kept (inl none) = is_item n kept none
not_garbled {c = c} n kept (inr other) =
    let begins = other.1 in
    let same = same_item n begins.0 begins.1 begins.2.first in
    let lawful : is_lawful (wanted_by c) begins.0 ≡ true = wanted_lawful c begins.0 ∙ (ap (is_lawful_to c) same ∙ n.lawful) in
    not_both (is_lawful (wanted_by c) begins.0) lawful begins.4.0

not_refused : {c : Command} {next ungot : List ℕ} → Next c next ungot → (kept : List ℕ) → IsRefused next kept → ⊥
not_refused {c = c} n kept refused =
    let begins = refused.1 in
    let same = same_item n begins.0 begins.1 begins.2.first in
    not_both (is_refusal begins.0) begins.4 (ap is_refusal same ∙ lawful_given c n.reply n.short n.lawful)

-- ---- the record of a link

no_two : IsProp ⊥
no_two x y = absurd x

texts_joined : (front behind : List Command) → commands_text (front ++ behind) ≡ commands_text front ++ commands_text behind
texts_joined [] behind = refl
texts_joined (c ∷ front) behind = ap (λ x. command_text c ++ x) (texts_joined front behind) ∙ sym (append_assoc (command_text c) (commands_text front) (commands_text behind))

module _ (failed : Bool) (script : List Command) (pieces : List Piece) (causes : List Cause) (checks : List Check) (well : IsWellFormed script) (sorted : Each IsSorted script) (taken : Each IsTaken script)
    (fits : Each Fits script) (tells : Tells failed script pieces checks) where
  -- all that was sent begins the text of the commands of which something was sent
  sent_begins : (few : FewWait script pieces) → sent pieces ++ few.unsent ≡ commands_text (few.answered ++ few.waiting)
  sent_begins few =
      ap (λ x. x ++ few.unsent) few.sent_is ∙ append_assoc (commands_text few.answered) few.begun few.unsent
      ∙ ap (λ x. commands_text few.answered ++ x) few.begun_is ∙ sym (texts_joined few.answered few.waiting)

  next_by : IsByCompanion pieces causes → {Told : Wanted → List ℕ → Type 0} (s : Stops pieces Told) → (ungot : List ℕ) × Next s.command s.next ungot
  next_by by s =
      let answers = answers_of by.replied.answering in
      let few = tells.pace pieces [] (sym (append_none pieces)) in
      let begun = few.answered ++ few.waiting in (
        by.ungot,
        next_of s.before s.command begun s.items answers.replies false false start by.state (empty_level ∷ []) (sent pieces) by.left s.sent_later few.unsent (got pieces) by.ungot s.next refl tt
            (front_commands begun few.later (subst AreCommands few.all well.spelled))
            (front_follow begun few.later (empty_level ∷ []) (subst (AllMayFollow (empty_level ∷ [])) few.all well.in_order))
            (front_each IsSorted begun few.later (subst (Each IsSorted) few.all sorted))
            (front_each IsTaken begun few.later (subst (Each IsTaken) few.all taken))
            few.small
            (front_each Fits begun few.later (subst (Each Fits) few.all fits))
            s.spelled answers.are by.replied.none_left s.sent_is (sent_begins few) (items_of (got pieces) s.items s.next s.heard) answers.text_is s.lawful,
      )

  never_stops : RepliesByCompanion pieces causes → (Told : Wanted → List ℕ → Type 0) → ((c : Command) (next ungot : List ℕ) → Next c next ungot → Told (wanted_by c) next → ⊥) → Stops pieces Told → ⊥
  never_stops by Told excludes s = ∥∥₁_elim by no_two (λ h. let n = next_by h s in excludes s.command s.next n.0 n.1 s.told)

pub companion_lawful : CompanionIsLawful
companion_lawful failed script pieces causes checks well sorted taken fits tells by kept = (
  never_stops failed script pieces causes checks well sorted taken fits tells by _ (λ c next ungot n told. not_garbled n kept told),
  never_stops failed script pieces causes checks well sorted taken fits tells by _ (λ c next ungot n told. not_refused n kept told),
)
