-- That no further check has its answer.
use Rattle.std.proofs.Common.{◌≡◌, ◌⊎◌, inl, inr, ◌++◌, ◌<◌, ◌||◌, ℕ, Bool, true, false, List, [], ◌∷◌, codes, length, refl, ap, ◌∙◌, sym, subst, append_assoc, length-append, arith}
use Rattle.std.proofs.lemmas.List.{append_cancel_left}
use Rattle.std.proofs.lemmas.Slice.Eq.{bytes_eq-Decides}
use Rattle.std.specs.Str.{bytes_eq}
use Rattle.vx_sexp.specs.declared.token.Kind.TheVariants as kind
use Rattle.vx_sexp.specs.declared.token.Token.{Token}
use Rattle.vx_sexp.specs.declared.token.Token.TheVariants.{Open, Close, Atom}
use Rattle.vx_sexp.specs.declared.reader.SexpFault.TheVariants as fault
use Rattle.vx_sexp.specs.First.{deepest}
use Rattle.vx_sexp.proofs.Exact.{first_is_one, fault_excludes, deep_excludes}
use Rattle.vx_smt_meaning.specs.Commands.{Command, SetOption, SetLogic, DeclareSort, DeclareFun, Assert, Push, Pop, CheckSat, GetProof, Exit}
use Rattle.vx_smt_meaning.specs.Replies.{is_word_item, is_refusal, answer_of, is_given, reply_of}
use Rattle.vx_smt_meaning.specs.Dialogues.{is_plain, ArePlain, is_lawful_to, Answers}
use Rattle.vx_smt_text.specs.Text.{command_text, commands_text}
use Rattle.vx_dialogue.specs.declared.item.Wanted.{Wanted}
use Rattle.vx_dialogue.specs.declared.item.Wanted.TheVariants as wanted
use Rattle.vx_dialogue.specs.declared.talk.Talk.{Talk}
use Rattle.vx_dialogue.specs.declared.talk.Talk.TheVariants as talk
use Rattle.vx_dialogue.specs.Items.{IsItem, ShortItems, IsNoExpression, IsNoItem, IsTooLong, IsGarbled, IsRefused, IsOpenYet, GivesNoReply, is_lawful}
use Rattle.vx_dialogue.specs.Hears.{ReadsSuccesses}
use Rattle.vx_dialogue.specs.Stops.{FailsAfter}
use Rattle.vx_dialogue.specs.History.{HoldsNoAnswer, may_miss}
use Rattle.vx_dialogue.proofs.Joined.{short_longer}
use Rattle.vx_dialogue.proofs.Lists.{none_more, text_append, text_more}
use Rattle.vx_dialogue.proofs.Pace.{fronts}
use Rattle.vx_dialogue.proofs.Explained.{split_at, plain_front}

-- ---- where no check was sent whole

-- among plain commands is none
pub none_plain : (behind : List Command) (begun later : List ℕ) → ArePlain behind → HoldsNoAnswer behind begun later
none_plain behind begun later plain front more begun_later items rest all sent heard lawful =
    let e = (plain_front front CheckSat more (subst ArePlain all plain)).1 in cc

check_longer : (front : List Command) (x : List ℕ) → length (commands_text front) < length (commands_text (front ++ CheckSat ∷ []) ++ x)
check_longer front x =
    let text = ap length (text_more front CheckSat) ∙ length-append (commands_text front) (command_text CheckSat) in
    let all = length-append (commands_text (front ++ CheckSat ∷ [])) x in
    let some : 0 < length (command_text CheckSat) = omega arith in
    omega arith

-- nothing was sent
pub none_begun : (behind : List Command) (begun later : List ℕ) → begun ≡ [] → HoldsNoAnswer behind begun later
none_begun behind begun later none front more begun_later items rest all sent heard lawful =
    let long = check_longer front begun_later in
    let same = ap length (sym none ∙ sent) in
    absurd (omega arith)

too_much : (behind more : List Command) (begun unsent x : List ℕ) → begun ++ unsent ≡ commands_text behind → begun ≡ commands_text ((behind ++ more) ++ CheckSat ∷ []) ++ x → ⊥
too_much behind more begun unsent x all sent =
    let long = check_longer (behind ++ more) x in
    let text = ap length (text_append behind more) ∙ length-append (commands_text behind) (commands_text more) in
    let most = sym (length-append begun unsent) ∙ ap length all in
    let same = ap length sent in
    absurd (omega arith)

-- what is said behind them was not sent
pub held_longer : (behind more : List Command) (begun unsent later : List ℕ) → begun ++ unsent ≡ commands_text behind → HoldsNoAnswer behind begun later → HoldsNoAnswer (behind ++ more) begun later
held_longer behind more begun unsent later all_sent held front others begun_later items rest all sent heard lawful = by_place (fronts behind more front (CheckSat ∷ others) all)
  where
    by_head : (m : List Command) → behind ≡ front ++ m → ⊥
    by_head [] at =
        let same : front ≡ behind ++ [] = sym (none_more front) ∙ (sym at ∙ sym (none_more behind)) in
        too_much behind [] begun unsent begun_later all_sent (subst (λ x. begun ≡ commands_text (x ++ CheckSat ∷ []) ++ begun_later) same sent)
    by_head (c ∷ m) at =
        let joined : front ++ (c ∷ (m ++ more)) ≡ front ++ (CheckSat ∷ others) = sym (append_assoc front (c ∷ m) more) ∙ (ap (λ x. x ++ more) (sym at) ∙ all) in
        let tail : c ∷ (m ++ more) ≡ CheckSat ∷ others = append_cancel_left front (c ∷ (m ++ more)) (CheckSat ∷ others) joined in
        let head : c ≡ CheckSat = cc in
        held front m begun_later items rest (subst (λ x. behind ≡ front ++ x ∷ m) head at) sent heard lawful

    by_place : ((m : List Command) × (behind ≡ front ++ m)) ⊎ ((m : List Command) × (front ≡ behind ++ m) × (more ≡ m ++ CheckSat ∷ others)) → ⊥
    by_place (inl e) = by_head e.0 e.1
    by_place (inr e) = too_much behind e.0 begun unsent begun_later all_sent (subst (λ x. begun ≡ commands_text (x ++ CheckSat ∷ []) ++ begun_later) e.1 sent)

only_check : (plains front more : List Command) → ArePlain plains → plains ++ CheckSat ∷ [] ≡ front ++ CheckSat ∷ more → front ≡ plains
only_check [] [] more plain e = refl
only_check [] (c ∷ front) more plain e = let h = ap length e in let k = length-append front (CheckSat ∷ more) in absurd (omega arith)
only_check (p ∷ plains) [] more plain e = let head : p ≡ CheckSat = cc in let h = subst (λ x. is_plain x ≡ true) head plain.0 in absurd (cc)
only_check (p ∷ plains) (c ∷ front) more plain e =
    let head : p ≡ c = cc in
    let tail : plains ++ CheckSat ∷ [] ≡ front ++ CheckSat ∷ more = cc in
    let same = only_check plains front more plain.1 tail in
    rw (head, same) refl

-- a check behind plain commands, of whose text some was not sent
pub held_part : (plains : List Command) (begun unsent later : List ℕ) → ArePlain plains → 0 < length unsent → begun ++ unsent ≡ commands_text (plains ++ CheckSat ∷ []) → HoldsNoAnswer (plains ++ CheckSat ∷ []) begun later
held_part plains begun unsent later plain some all_sent front more begun_later items rest all sent heard lawful =
    let same : front ≡ plains = only_check plains front more plain all in
    let whole = ap length (subst (λ x. begun ≡ commands_text (x ++ CheckSat ∷ []) ++ begun_later) same sent) ∙ length-append (commands_text (plains ++ CheckSat ∷ [])) begun_later in
    let most = sym (length-append begun unsent) ∙ ap length all_sent in
    absurd (omega arith)

-- ---- where the next item is no lawful reply

-- the bytes begin with no lawful reply
abbrev NoNext : Wanted → List ℕ → Type 0
NoNext w bytes = (item : List Token) (rest : List ℕ) → IsItem bytes item rest → is_lawful w item ≡ true → ⊥

-- the lawful replies are single tokens, and none is a refusal
record AreSingle (w : Wanted) : Type 0 where
  flat : (item : List Token) → is_lawful w item ≡ true → deepest 0 item ≡ 0
  accepts : (item : List Token) → is_lawful w item ≡ true → is_refusal item ≡ true → ⊥

one_word : (text : List ℕ) (item : List Token) → is_word_item text item ≡ true → (b : List ℕ) × (item ≡ Atom kind.Symbol b ∷ []) × (b ≡ text)
one_word text [] e = absurd (cc)
one_word text (Open ∷ ts) e = absurd (cc)
one_word text (Close ∷ ts) e = absurd (cc)
one_word text (Atom kind.Symbol b ∷ []) e = (b, refl, (bytes_eq-Decides b text).0 e)
one_word text (Atom kind.Symbol b ∷ t ∷ ts) e = absurd (cc)
one_word text (Atom kind.Numeral b ∷ ts) e = absurd (cc)
one_word text (Atom kind.Decimal b ∷ ts) e = absurd (cc)
one_word text (Atom kind.Hexadecimal b ∷ ts) e = absurd (cc)
one_word text (Atom kind.Binary b ∷ ts) e = absurd (cc)
one_word text (Atom kind.Keyword b ∷ ts) e = absurd (cc)
one_word text (Atom kind.Quoted b ∷ ts) e = absurd (cc)
one_word text (Atom kind.Text b ∷ ts) e = absurd (cc)

one_answer : (item : List Token) → is_given (answer_of item) ≡ true → (b : List ℕ) × (item ≡ Atom kind.Symbol b ∷ []) × (is_given (reply_of b) ≡ true)
one_answer [] e = absurd (cc)
one_answer (Open ∷ ts) e = absurd (cc)
one_answer (Close ∷ ts) e = absurd (cc)
one_answer (Atom kind.Symbol b ∷ []) e = (b, refl, e)
one_answer (Atom kind.Symbol b ∷ t ∷ ts) e = absurd (cc)
one_answer (Atom kind.Numeral b ∷ ts) e = absurd (cc)
one_answer (Atom kind.Decimal b ∷ ts) e = absurd (cc)
one_answer (Atom kind.Hexadecimal b ∷ ts) e = absurd (cc)
one_answer (Atom kind.Binary b ∷ ts) e = absurd (cc)
one_answer (Atom kind.Keyword b ∷ ts) e = absurd (cc)
one_answer (Atom kind.Quoted b ∷ ts) e = absurd (cc)
one_answer (Atom kind.Text b ∷ ts) e = absurd (cc)

or_none : (b : Bool) → (b || false) ≡ true → b ≡ true
or_none true e = refl
or_none false e = absurd (cc)

refused_word : (b : List ℕ) → is_refusal (Atom kind.Symbol b ∷ []) ≡ true → b ≡ codes "unsupported"
unfolding is_refusal
refused_word b e = (bytes_eq-Decides b (codes "unsupported")).0 (or_none (bytes_eq b (codes "unsupported")) e)

success_single : AreSingle wanted.Success
unfolding is_lawful
success_single = record {
  flat = λ item e. let one = one_word (codes "success") item e in rw one.1 refl;
  accepts = λ item e f.
      let one = one_word (codes "success") item e in
      let other = refused_word one.0 (subst (λ x. is_refusal x ≡ true) one.1 f) in
      let same : codes "success" ≡ codes "unsupported" = sym one.2 ∙ other in
      absurd (cc);
}

answer_single : AreSingle wanted.Answer
unfolding is_lawful
answer_single = record {
  flat = λ item e. let one = one_answer item e in rw one.1 refl;
  accepts = λ item e f.
      let one = one_answer item e in
      let other = refused_word one.0 (subst (λ x. is_refusal x ≡ true) one.1 f) in
      let none : is_given (reply_of (codes "unsupported")) ≡ true = subst (λ x. is_given (reply_of x) ≡ true) other one.2 in
      absurd (cc);
}

no_expression : (w : Wanted) (bytes : List ℕ) → AreSingle w → IsNoExpression bytes → NoNext w bytes
no_expression w bytes single (inl bad) item rest first lawful = fault_excludes (fault.BadToken bad.0) bytes item rest bad.1 first.first
no_expression w bytes single (inr (inl deep)) item rest first lawful =
    let low = single.flat item lawful in
    let high : 4096 < deepest 0 item = deep_excludes deep.0 bytes item rest deep.1 first.first in
    absurd (omega arith)
no_expression w bytes single (inr (inr long)) item rest first lawful = fault_excludes (fault.Unfinished long.1) bytes item rest long.2 first.first

not_too_long : (bytes text : List ℕ) (item : List Token) (rest : List ℕ) → IsTooLong bytes text → IsItem bytes item rest → ⊥
not_too_long bytes text item rest long first =
    let same = ap length (first_is_one bytes item long.0 rest long.1 first.first long.2).1 in
    let all = ap length long.3 ∙ length-append text long.1 in
    let high = long.4 in
    let low = first.short in
    absurd (omega arith)

no_item_next : (w : Wanted) (bytes kept : List ℕ) → AreSingle w → IsNoItem bytes kept → NoNext w bytes
no_item_next w bytes kept single (inl none) item rest first lawful = no_expression w bytes single none.0 item rest first lawful
no_item_next w bytes kept single (inr long) item rest first lawful = not_too_long bytes long.0 item rest long.1 first

garbled_next : (w : Wanted) (bytes kept : List ℕ) → AreSingle w → IsGarbled w bytes kept → NoNext w bytes
garbled_next w bytes kept single (inl none) item rest first lawful = no_item_next w bytes kept single none item rest first lawful
garbled_next w bytes kept single (inr other) item rest first lawful =
    let begins = other.1 in
    let same : item ≡ begins.0 = (first_is_one bytes item begins.0 rest begins.1 first.first begins.2.first).0 in
    let e = subst (λ x. is_lawful w x ≡ true) same lawful in
    let f = begins.4.0 in
    cc

refused_next : (w : Wanted) (bytes kept : List ℕ) → AreSingle w → IsRefused bytes kept → NoNext w bytes
refused_next w bytes kept single refused item rest first lawful =
    let begins = refused.1 in
    let same : item ≡ begins.0 = (first_is_one bytes item begins.0 rest begins.1 first.first begins.2.first).0 in
    single.accepts item lawful (ap is_refusal same ∙ begins.4)

open_next : (w : Wanted) (bytes : List ℕ) → IsOpenYet bytes → NoNext w bytes
open_next w bytes open_yet item rest first lawful = fault_excludes (fault.Unfinished open_yet.1) bytes item rest open_yet.2 first.first

-- what is got by then begins with no lawful reply
unlawful_next : (t : Talk) (w : Wanted) (g0 u0 g1 : List ℕ) → AreSingle w → may_miss t ≡ false → GivesNoReply t w g0 u0 g1 → (more : List ℕ) × (g1 ≡ g0 ++ more) × NoNext w (u0 ++ more)
unlawful_next (talk.Garbled kept) w g0 u0 g1 single no_miss e = (e.0, e.1, garbled_next w (u0 ++ e.0) kept single e.2)
unlawful_next (talk.Refused kept) w g0 u0 g1 single no_miss e = (e.0, e.1, refused_next w (u0 ++ e.0) kept single e.2)
unlawful_next talk.Pipe w g0 u0 g1 single no_miss e = (e.0, e.1, open_next w (u0 ++ e.0) e.2)
unlawful_next talk.Want w g0 u0 g1 single no_miss e = absurd (cc)
unlawful_next talk.Closed w g0 u0 g1 single no_miss e = absurd (cc)

-- Behind the replies to some commands stands no lawful reply to the next one.
answers_stop : (a : List Command) (c : Command) (b : List Command) (xs items : List (List Token)) (bytes mid rest : List ℕ) → length xs ≡ length a → ShortItems bytes xs mid
    → ((item : List Token) (rest : List ℕ) → IsItem mid item rest → is_lawful_to c item ≡ true → ⊥) → ShortItems bytes items rest → Answers (a ++ c ∷ b) items → ⊥
answers_stop [] c b [] [] bytes mid rest count heard none all lawful = lawful
answers_stop [] c b [] (i ∷ items) bytes mid rest count heard none all lawful = none i all.0 (subst (λ x. IsItem x i all.0) (sym heard) all.1) lawful.0
answers_stop [] c b (x ∷ xs) items bytes mid rest count heard none all lawful = absurd (omega arith)
answers_stop (d ∷ a) c b [] items bytes mid rest count heard none all lawful = absurd (omega arith)
answers_stop (d ∷ a) c b (x ∷ xs) [] bytes mid rest count heard none all lawful = lawful
answers_stop (d ∷ a) c b (x ∷ xs) (i ∷ items) bytes mid rest count heard none all lawful =
    let same : all.0 ≡ heard.0 = (first_is_one bytes i x all.0 heard.0 all.1.first heard.1.first).1 in
    answers_stop a c b xs items heard.0 mid rest (omega arith) heard.2 none (subst (λ y. ShortItems y items rest) same all.2) lawful.1

stopped : (a : List Command) (c : Command) (b : List Command) (w : Wanted) (t : Talk) (g0 u0 g1 u1 g2 later rest : List ℕ) (items : List (List Token)) → AreSingle w → may_miss t ≡ false
    → ((item : List Token) → is_lawful_to c item ≡ true → is_lawful w item ≡ true) → ReadsSuccesses (length a) g0 u0 g1 u1 → GivesNoReply t w g1 u1 g2
    → g2 ≡ g0 ++ later → ShortItems (u0 ++ later) items rest → Answers (a ++ c ∷ b) items → ⊥
stopped a c b w t g0 u0 g1 u1 g2 later rest items single no_miss wants reads gives is heard lawful =
    let next = unlawful_next t w g1 u1 g2 single no_miss gives in
    let same : later ≡ reads.0 ++ next.0 =
    append_cancel_left g0 later (reads.0 ++ next.0) (sym is ∙ (next.1 ∙ (ap (λ x. x ++ next.0) reads.1 ∙ append_assoc g0 reads.0 next.0))) in
    let before : ShortItems (u0 ++ later) reads.2 (u1 ++ next.0) =
    subst (λ x. ShortItems x reads.2 (u1 ++ next.0)) (append_assoc u0 reads.0 next.0 ∙ ap (λ x. u0 ++ x) (sym same)) (short_longer (u0 ++ reads.0) next.0 reads.2 u1 reads.3) in
    answers_stop a c b reads.2 items (u0 ++ later) (u1 ++ next.0) rest reads.4 before (λ item rest first e. next.2 item rest first (wants item e)) heard lawful

wants_plain : (c : Command) → is_plain c ≡ true → (item : List Token) → is_lawful_to c item ≡ true → is_lawful wanted.Success item ≡ true
unfolding is_lawful
wants_plain (SetOption x b) e item f = f
wants_plain (SetLogic x) e item f = f
wants_plain (DeclareSort x) e item f = f
wants_plain (DeclareFun d) e item f = f
wants_plain (Assert t) e item f = f
wants_plain (Push n) e item f = f
wants_plain (Pop n) e item f = f
wants_plain CheckSat e item f = absurd (cc)
wants_plain GetProof e item f = absurd (cc)
wants_plain Exit e item f = f

wants_answer : (item : List Token) → is_lawful_to CheckSat item ≡ true → is_lawful wanted.Answer item ≡ true
unfolding is_lawful
wants_answer item f = f

-- No lawful reply came to one of the plain commands before a check, or none to the check.
pub unanswered_among : (t : Talk) (plains : List Command) (g0 u0 g1 : List ℕ) → may_miss t ≡ false → ArePlain plains → FailsAfter t (length plains) g0 u0 g1
    → (later rest : List ℕ) (items : List (List Token)) → g1 ≡ g0 ++ later → ShortItems (u0 ++ later) items rest → Answers (plains ++ CheckSat ∷ []) items → ⊥
unanswered_among t plains g0 u0 g1 no_miss plain fails later rest items is heard lawful =
    let split = split_at plains fails.0 fails.1 in
    let parts = plain_front split.front split.here split.rest (subst ArePlain split.all plain) in
    let same : plains ++ CheckSat ∷ [] ≡ split.front ++ split.here ∷ (split.rest ++ CheckSat ∷ []) = ap (λ x. x ++ CheckSat ∷ []) split.all ∙ append_assoc split.front (split.here ∷ split.rest) (CheckSat ∷ []) in
    let reads = subst (λ n. ReadsSuccesses n g0 u0 fails.2 fails.3) (sym split.place) fails.4 in
    stopped split.front split.here (split.rest ++ CheckSat ∷ []) wanted.Success t g0 u0 fails.2 fails.3 g1 later rest items success_single no_miss (wants_plain split.here parts.1) reads fails.5 is heard
    (subst (λ x. Answers x items) same lawful)

pub unanswered_check : (t : Talk) (plains : List Command) (g0 u0 g1 u1 g2 : List ℕ) → may_miss t ≡ false → ReadsSuccesses (length plains) g0 u0 g1 u1 → GivesNoReply t wanted.Answer g1 u1 g2
    → (later rest : List ℕ) (items : List (List Token)) → g2 ≡ g0 ++ later → ShortItems (u0 ++ later) items rest → Answers (plains ++ CheckSat ∷ []) items → ⊥
unanswered_check t plains g0 u0 g1 u1 g2 no_miss reads gives later rest items is heard lawful =
    stopped plains CheckSat [] wanted.Answer t g0 u0 g1 u1 g2 later rest items answer_single no_miss wants_answer reads gives is heard lawful

-- all was sent, and the check has no answer
pub held_unanswered : (plains : List Command) (begun later : List ℕ) → ArePlain plains
    → ((rest : List ℕ) (items : List (List Token)) → ShortItems later items rest → Answers (plains ++ CheckSat ∷ []) items → ⊥) → HoldsNoAnswer (plains ++ CheckSat ∷ []) begun later
held_unanswered plains begun later plain none front more begun_later items rest all sent heard lawful =
    none rest items heard (subst (λ x. Answers (x ++ CheckSat ∷ []) items) (only_check plains front more plain all) lawful)
