-- Why a call gives no reply.
use Rattle.std.proofs.Common.{◌≡◌, ◌++◌, ◌<◌, ℕ, zero, suc, true, List, [], ◌∷◌, length, refl, ap, ◌∙◌, sym, subst, arith, append_assoc, Some, Result, Ok, Err, IfErr}
use Rattle.std.proofs.lemmas.Option.{same_Some}
use Rattle.vx_ends.specs.declared.piece.Piece.{Piece}
use Rattle.vx_ends.specs.declared.fault.LinkFault.{LinkFault}
use Rattle.vx_ends.specs.declared.fault.LinkFault.TheVariants as link
use Rattle.vx_ends.specs.Dialogue.{sent, got}
use Rattle.vx_sexp.specs.declared.token.Token.{Token}
use Rattle.vx_smt_meaning.specs.Commands.{Command, SetOption, SetLogic, DeclareSort, DeclareFun, Assert, Push, Pop, CheckSat, GetProof, Exit}
use Rattle.vx_smt_meaning.specs.Names.{AreCommands}
use Rattle.vx_smt_meaning.specs.Dialogues.{is_plain, ArePlain, Answers, Check}
use Rattle.vx_dialogue.specs.declared.dialogue.Dialogue.{Dialogue}
use Rattle.vx_dialogue.specs.declared.item.Wanted.{Wanted}
use Rattle.vx_dialogue.specs.declared.item.Wanted.TheVariants as wanted
use Rattle.vx_dialogue.specs.declared.talk.Talk.{Talk}
use Rattle.vx_dialogue.specs.declared.talk.Talk.TheVariants as talk
use Rattle.vx_dialogue.specs.Faults.{talk_of}
use Rattle.vx_dialogue.specs.Items.{ShortItems, IsGarbled, IsRefused, Meets, GivesNoReply}
use Rattle.vx_dialogue.specs.Hears.{ReadsSuccesses}
use Rattle.vx_dialogue.specs.Stops.{wanted_by, Stops, Explains, FailsAfter}
use Rattle.vx_dialogue.specs.Dialogue.{Gathers, Waits}
use Rattle.vx_smt_text.specs.Text.{commands_text}
use Rattle.vx_dialogue.proofs.Lists.{none_more, text_append, successes_to, answers_join}
use Rattle.vx_dialogue.proofs.Steady.{commands_front}
use Rattle.vx_dialogue.proofs.Joined.{short_longer, short_join}

pub if_err_map : {T E : Type 0} (r : Result T E) (P Q : E → Type 0) → ((e : E) → P e → Q e) → IfErr r P → IfErr r Q
if_err_map (Ok x) P Q f p = p
if_err_map (Err e) P Q f p = f e p

pub by_link : (f : LinkFault) (pieces : List Piece) → Explains (talk_of f) pieces
by_link link.Failed pieces = tt
by_link link.Want pieces = tt

-- a list up to a place, and from there on
pub record Splits (cs : List Command) (i : ℕ) : Type 0 where
  pub front : List Command
  pub here : Command
  pub rest : List Command
  pub all : cs ≡ front ++ here ∷ rest
  pub place : length front ≡ i

pub split_at : (cs : List Command) (i : ℕ) → i < length cs → Splits cs i
split_at [] i e = absurd (omega arith)
split_at (c ∷ cs) zero e = record { front = []; here = c; rest = cs; all = refl; place = refl }
split_at (c ∷ cs) (suc i) e =
    let s = split_at cs i (omega arith) in
    record { front = c ∷ s.front; here = s.here; rest = s.rest; all = ap (λ x. c ∷ x) s.all; place = ap suc s.place }

pub plain_front : (xs : List Command) (c : Command) (ys : List Command) → ArePlain (xs ++ c ∷ ys) → ArePlain xs × (is_plain c ≡ true)
plain_front [] c ys e = (tt, e.0)
plain_front (x ∷ xs) c ys e = let more = plain_front xs c ys e.1 in ((e.0, more.0), more.1)

wants_success : (c : Command) → is_plain c ≡ true → wanted_by c ≡ wanted.Success
wants_success (SetOption x b) e = refl
wants_success (SetLogic x) e = refl
wants_success (DeclareSort x) e = refl
wants_success (DeclareFun d) e = refl
wants_success (Assert t) e = refl
wants_success (Push n) e = refl
wants_success (Pop n) e = refl
wants_success CheckSat e = absurd (cc)
wants_success GetProof e = absurd (cc)
wants_success Exit e = refl

-- the text of commands, up to one of them and from there on
text_to : (before : List Command) (c : Command) (rest : List Command) → commands_text (before ++ c ∷ rest) ≡ commands_text (before ++ c ∷ []) ++ commands_text rest
text_to before c rest = ap commands_text (sym (append_assoc before (c ∷ []) rest)) ∙ text_append (before ++ c ∷ []) rest

-- Lawful replies to the first commands sent, successes to some plain ones behind them, and then what is told of the next.
stops_at : (pieces : List Piece) (g0 u0 g1 u1 : List ℕ) (items : List (List Token)) (answered : List Command) (front : List Command) (c : Command) (rest : List Command)
    (Told : Wanted → List ℕ → Type 0) (w : Wanted) → AreCommands (answered ++ (front ++ c ∷ rest)) → sent pieces ≡ commands_text (answered ++ (front ++ c ∷ rest)) → ShortItems g0 items u0 → Answers answered items → ArePlain front → wanted_by c ≡ w
    → ReadsSuccesses (length front) g0 u0 g1 u1 → Meets g1 u1 (got pieces) (Told w) → Stops pieces Told
stops_at pieces g0 u0 g1 u1 items answered front c rest Told w named sent_on heard lawful plain wants reads meets = record {
  before = answered ++ front;
  command = c;
  sent_later = commands_text rest;
  items = items ++ reads.2;
  next = u1 ++ meets.0;
  spelled = commands_front ((answered ++ front) ++ c ∷ []) rest
      (subst AreCommands (sym (append_assoc answered front (c ∷ rest)) ∙ sym (append_assoc (answered ++ front) (c ∷ []) rest)) named);
  sent_is = sent_on ∙ (ap commands_text (sym (append_assoc answered front (c ∷ rest))) ∙ text_to (answered ++ front) c rest);
  heard = subst (λ x. ShortItems x (items ++ reads.2) (u1 ++ meets.0)) (sym meets.1)
      (short_longer g1 meets.0 (items ++ reads.2) u1
      (subst (λ x. ShortItems x (items ++ reads.2) u1) (sym reads.1)
      (short_join (g0 ++ reads.0) items reads.2 (u0 ++ reads.0) u1 (short_longer g0 reads.0 items u0 heard) reads.3)));
  lawful = answers_join answered front items reads.2 lawful (successes_to front reads.2 plain reads.4 reads.5);
  told = subst (λ x. Told x (u1 ++ meets.0)) (sym wants) meets.2;
}

explains_at : (t : Talk) (pieces : List Piece) (g0 u0 g1 u1 : List ℕ) (items : List (List Token)) (answered : List Command) (front : List Command) (c : Command) (rest : List Command) (w : Wanted)
    → AreCommands (answered ++ (front ++ c ∷ rest)) → sent pieces ≡ commands_text (answered ++ (front ++ c ∷ rest)) → ShortItems g0 items u0 → Answers answered items → ArePlain front → wanted_by c ≡ w
    → ReadsSuccesses (length front) g0 u0 g1 u1 → GivesNoReply t w g1 u1 (got pieces) → Explains t pieces
explains_at (talk.Garbled kept) pieces g0 u0 g1 u1 items answered front c rest w named sent_on heard lawful plain wants reads gives =
    stops_at pieces g0 u0 g1 u1 items answered front c rest (λ v bytes. IsGarbled v bytes kept) w named sent_on heard lawful plain wants reads gives
explains_at (talk.Refused kept) pieces g0 u0 g1 u1 items answered front c rest w named sent_on heard lawful plain wants reads gives =
    stops_at pieces g0 u0 g1 u1 items answered front c rest (λ v bytes. IsRefused bytes kept) w named sent_on heard lawful plain wants reads gives
explains_at talk.Pipe pieces g0 u0 g1 u1 items answered front c rest w named sent_on heard lawful plain wants reads gives = tt
explains_at talk.Want pieces g0 u0 g1 u1 items answered front c rest w named sent_on heard lawful plain wants reads gives = tt
explains_at talk.Closed pieces g0 u0 g1 u1 items answered front c rest w named sent_on heard lawful plain wants reads gives = tt

-- some of plain commands were answered, and then one was not
explains_among : (t : Talk) (pieces : List Piece) (g0 u0 : List ℕ) (items : List (List Token)) (answered plains rest : List Command) → AreCommands (answered ++ (plains ++ rest)) → sent pieces ≡ commands_text (answered ++ (plains ++ rest))
    → ShortItems g0 items u0 → Answers answered items → ArePlain plains → FailsAfter t (length plains) g0 u0 (got pieces) → Explains t pieces
explains_among t pieces g0 u0 items answered plains rest named sent_on heard lawful plain fails =
    let split = split_at plains fails.0 fails.1 in
    let parts = plain_front split.front split.here split.rest (subst ArePlain split.all plain) in
    let reads = subst (λ n. ReadsSuccesses n g0 u0 fails.2 fails.3) (sym split.place) fails.4 in
    let same : plains ++ rest ≡ split.front ++ (split.here ∷ (split.rest ++ rest)) = ap (λ x. x ++ rest) split.all ∙ append_assoc split.front (split.here ∷ split.rest) rest in
    explains_at t pieces g0 u0 fails.2 fails.3 items answered split.front split.here (split.rest ++ rest) wanted.Success
    (subst (λ x. AreCommands (answered ++ x)) same named) (sent_on ∙ ap (λ x. commands_text (answered ++ x)) same) heard lawful parts.0 (wants_success split.here parts.1) reads fails.5

-- while what is gathered is answered
pub in_flush : {L : Type 0} (dialogue : L → List Piece) (d : Dialogue L) (t : Talk) (pieces : List Piece) (g0 : List ℕ) → g0 ≡ got (dialogue d.link)
    → sent pieces ≡ sent (dialogue d.link) ++ d.batch.items → FailsAfter t d.count g0 d.unread.items (got pieces)
    → (commands : List Command) (checks : List Check) → Gathers dialogue d commands checks → AreCommands commands → Explains t pieces
in_flush dialogue d t pieces g0 is sent_on fails commands checks g named =
    let heard = subst (λ x. ShortItems x g.items d.unread.items) (sym is) g.got_is in
    let counted = subst (λ n. FailsAfter t n g0 d.unread.items (got pieces)) g.count_is fails in
    let text : sent pieces ≡ commands_text (g.answered ++ (g.gathered ++ [])) =
    sent_on ∙ (rw (g.sent_is, g.batch_is) (sym (text_append g.answered g.gathered)) ∙ ap (λ x. commands_text (g.answered ++ x)) (sym (none_more g.gathered))) in
    explains_among t pieces g0 d.unread.items g.items g.answered g.gathered [] (subst AreCommands (g.all ∙ ap (λ x. g.answered ++ x) (sym (none_more g.gathered))) named) text heard g.lawful g.plain counted

waiting_text : {L : Type 0} (dialogue : L → List Piece) (d : Dialogue L) (pieces : List Piece) → sent pieces ≡ sent (dialogue d.link)
    → (commands : List Command) (checks : List Check) → (w : Waits dialogue d commands checks) → sent pieces ≡ commands_text (w.answered ++ (w.waiting ++ CheckSat ∷ []))
waiting_text dialogue d pieces sent_on commands checks w = sent_on ∙ (w.sent_is ∙ ap commands_text (w.all ∙ append_assoc w.answered w.waiting (CheckSat ∷ [])))

waiting_names : {L : Type 0} (dialogue : L → List Piece) (d : Dialogue L) (commands : List Command) (checks : List Check) (w : Waits dialogue d commands checks) → AreCommands commands → AreCommands (w.answered ++ (w.waiting ++ CheckSat ∷ []))
waiting_names dialogue d commands checks w named = subst AreCommands (w.all ∙ append_assoc w.answered w.waiting (CheckSat ∷ [])) named

-- while the successes before a check's answer are read
pub in_waiting : {L : Type 0} (dialogue : L → List Piece) (d : Dialogue L) (t : Talk) (owed : ℕ) (pieces : List Piece) → d.owed ≡ Some owed → sent pieces ≡ sent (dialogue d.link)
    → FailsAfter t owed (got (dialogue d.link)) d.unread.items (got pieces)
    → (commands : List Command) (checks : List Check) → Waits dialogue d commands checks → AreCommands commands → Explains t pieces
in_waiting dialogue d t owed pieces is sent_on fails commands checks w named =
    let number : owed ≡ length w.waiting = same_Some owed (length w.waiting) (sym is ∙ w.owed_is) in
    let counted = subst (λ n. FailsAfter t n (got (dialogue d.link)) d.unread.items (got pieces)) number fails in
    explains_among t pieces (got (dialogue d.link)) d.unread.items w.items w.answered w.waiting (CheckSat ∷ []) (waiting_names dialogue d commands checks w named) (waiting_text dialogue d pieces sent_on commands checks w) w.got_is w.lawful w.plain counted

-- while the check's answer is read
pub in_answer : {L : Type 0} (dialogue : L → List Piece) (d : Dialogue L) (t : Talk) (owed : ℕ) (g1 u1 : List ℕ) (pieces : List Piece) → d.owed ≡ Some owed → sent pieces ≡ sent (dialogue d.link)
    → ReadsSuccesses owed (got (dialogue d.link)) d.unread.items g1 u1 → GivesNoReply t wanted.Answer g1 u1 (got pieces)
    → (commands : List Command) (checks : List Check) → Waits dialogue d commands checks → AreCommands commands → Explains t pieces
in_answer dialogue d t owed g1 u1 pieces is sent_on reads gives commands checks w named =
    let number : owed ≡ length w.waiting = same_Some owed (length w.waiting) (sym is ∙ w.owed_is) in
    let counted = subst (λ n. ReadsSuccesses n (got (dialogue d.link)) d.unread.items g1 u1) number reads in
    explains_at t pieces (got (dialogue d.link)) d.unread.items g1 u1 w.items w.answered w.waiting CheckSat [] wanted.Answer (waiting_names dialogue d commands checks w named) (waiting_text dialogue d pieces sent_on commands checks w)
    w.got_is w.lawful w.plain refl counted gives
