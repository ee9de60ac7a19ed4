-- What a dialogue told of its checks, its record tells, and goes on telling as it grows.
use Rattle.std.proofs.Common.{◌≡◌, ◌++◌, ◌+◌, ◌∷◌, [], ℕ, ◌<◌, ◌≤◌, Bool, true, false, List, length, Some, refl, ap, ◌∙◌, sym, subst, append_assoc, length-append, arith}
use Rattle.std.proofs.lemmas.List.{append_cancel_left, length_push}
use Rattle.std.proofs.lemmas.Option.{same_Some}
use Rattle.vx_ends.specs.declared.fault.LinkFault.{LinkFault}
use Rattle.vx_ends.specs.declared.piece.Piece.{Piece}
use Rattle.vx_ends.specs.Dialogue.{sent, got, SendsOn, GetsOn}
use Rattle.vx_ends.proofs.Dialogues.{sent-append, got-append, gets_none}
use Rattle.vx_sexp.specs.declared.token.Token.{Token}
use Rattle.vx_smt_meaning.specs.Commands.{Command, CheckSat, Declared}
use Rattle.vx_smt_meaning.specs.Dialogues.{Answers, Check}
use Rattle.vx_smt_text.specs.Text.{command_text, commands_text}
use Rattle.vx_smt_text.specs.Small.{IsSmallCommand}
use Rattle.vx_terms.specs.Interpretations.{Each}
use Rattle.vx_dialogue.specs.declared.dialogue.Dialogue.{Dialogue}
use Rattle.vx_dialogue.specs.declared.talk.Talk.{Talk}
use Rattle.vx_dialogue.specs.declared.talk.Talk.TheVariants as talk
use Rattle.vx_dialogue.specs.Faults.{talk_of}
use Rattle.vx_dialogue.specs.Dialogue.{Gathers, Waits, Stands, link_of}
use Rattle.vx_dialogue.specs.declared.item.Wanted.TheVariants as wanted
use Rattle.vx_dialogue.specs.Items.{ShortItems, GivesNoReply}
use Rattle.vx_dialogue.specs.Hears.{ReadsSuccesses}
use Rattle.vx_dialogue.specs.Stops.{FailsAfter}
use Rattle.vx_dialogue.specs.History.{HoldsNoAnswer, TellsOf, Tells, may_miss, Breaks}
use Rattle.vx_dialogue.specs.Pace.{KeepsPace}
use Rattle.vx_dialogue.specs.Scripts.{Outside, ScopedTurn, said_of, scope_from, script}
use Rattle.vx_dialogue.proofs.Joined.{append_none, short_longer, sent_by_gets}
use Rattle.vx_dialogue.proofs.Lists.{text_append, text_more, small_join}
use Rattle.vx_dialogue.proofs.Pace.{pace_longer, pace_begun, pace_got}
use Rattle.vx_dialogue.proofs.Explained.{by_link}
use Rattle.vx_dialogue.proofs.Held.{none_plain, held_longer, held_part, held_unanswered, unanswered_among, unanswered_check}
use Rattle.vx_dialogue.proofs.Levels.{script_more}

-- where an answer may be missed, less is told
pub tells_any : (failed : Bool) (missed : Bool) (script : List Command) (pieces : List Piece) (checks : List Check) → Tells failed script pieces checks → TellsOf failed missed script pieces checks
tells_any failed missed script pieces checks tells = record {
  answered = tells.answered;
  behind = tells.behind;
  begun = tells.begun;
  unsent = tells.unsent;
  items = tells.items;
  got_later = tells.got_later;
  all = tells.all;
  sent_is = tells.sent_is;
  begun_is = tells.begun_is;
  got_is = tells.got_is;
  lawful = tells.lawful;
  checks_are = tells.checks_are;
  waits = tells.waits;
  held = λ no_miss. tells.held refl;
  pace = tells.pace;
}

pub tells_missed : {missed : Bool} (script : List Command) (pieces : List Piece) (checks : List Check) → TellsOf true missed script pieces checks → TellsOf true true script pieces checks
tells_missed script pieces checks tells = record {
  answered = tells.answered;
  behind = tells.behind;
  begun = tells.begun;
  unsent = tells.unsent;
  items = tells.items;
  got_later = tells.got_later;
  all = tells.all;
  sent_is = tells.sent_is;
  begun_is = tells.begun_is;
  got_is = tells.got_is;
  lawful = tells.lawful;
  checks_are = tells.checks_are;
  waits = tt;
  held = λ no_miss. absurd (cc);
  pace = tells.pace;
}

-- where a call failed, more may be said by the script
pub tells_longer : {missed : Bool} (failed : Bool) (script more : List Command) (pieces : List Piece) (checks : List Check) → TellsOf failed missed script pieces checks → TellsOf true missed (script ++ more) pieces checks
tells_longer failed script more pieces checks tells = record {
  answered = tells.answered;
  behind = tells.behind ++ more;
  begun = tells.begun;
  unsent = tells.unsent ++ commands_text more;
  items = tells.items;
  got_later = tells.got_later;
  all = ap (λ x. x ++ more) tells.all ∙ append_assoc tells.answered tells.behind more;
  sent_is = tells.sent_is;
  begun_is = sym (append_assoc tells.begun tells.unsent (commands_text more)) ∙ (ap (λ x. x ++ commands_text more) tells.begun_is ∙ sym (text_append tells.behind more));
  got_is = tells.got_is;
  lawful = tells.lawful;
  checks_are = tells.checks_are;
  waits = tt;
  held = λ no_miss. held_longer tells.behind more tells.begun tells.unsent tells.got_later tells.begun_is (tells.held no_miss);
  pace = pace_longer script more pieces tells.pace;
}

pub tells_twice : (script more rest : List Command) (pieces : List Piece) (checks : List Check) → Tells false script pieces checks → Tells true ((script ++ more) ++ rest) pieces checks
tells_twice script more rest pieces checks tells = tells_longer true (script ++ more) rest pieces checks (tells_longer false script more pieces checks tells)

-- and nothing need be
pub tells_failed : (script : List Command) (pieces : List Piece) (checks : List Check) → Tells false script pieces checks → Tells true script pieces checks
tells_failed script pieces checks tells =
    subst (λ x. Tells true x pieces checks) (append_none script) (tells_longer false script [] pieces checks tells)

module _ {L : Type 0} (dialogue : L → List Piece) (d : Dialogue L) (commands : List Command) (checks : List Check) where
  pub gathers_tells : Gathers dialogue d commands checks → Tells false commands (dialogue d.link) checks
  gathers_tells g = record {
    answered = g.answered;
    behind = g.gathered;
    begun = [];
    unsent = commands_text g.gathered;
    items = g.items;
    got_later = d.unread.items;
    all = g.all;
    sent_is = g.sent_is ∙ sym (append_none (commands_text g.answered));
    begun_is = refl;
    got_is = g.got_is;
    lawful = g.lawful;
    checks_are = g.checks_are;
    waits = (refl, g.plain, g.few);
    held = λ no_miss. none_plain g.gathered [] d.unread.items g.plain;
    pace = g.pace;
  }

  -- a check was sent, and pieces are got
  pub waits_tells : (missed : Bool) (new : List Piece) → GetsOn (dialogue d.link) new → (w : Waits dialogue d commands checks)
      → (missed ≡ false → (later rest : List ℕ) (items : List (List Token)) → got new ≡ got (dialogue d.link) ++ later → ShortItems (d.unread.items ++ later) items rest → Answers (w.waiting ++ CheckSat ∷ []) items → ⊥)
      → TellsOf true missed commands new checks
  waits_tells missed new gets w none =
      let old = dialogue d.link in
      let later : got new ≡ got old ++ got gets.0 = ap got gets.1 ∙ got-append old gets.0 in
      record {
        answered = w.answered;
        behind = w.waiting ++ CheckSat ∷ [];
        begun = commands_text (w.waiting ++ CheckSat ∷ []);
        unsent = [];
        items = w.items;
        got_later = d.unread.items ++ got gets.0;
        all = w.all ∙ append_assoc w.answered w.waiting (CheckSat ∷ []);
        sent_is = sent_by_gets old new gets ∙ (w.sent_is ∙ (ap commands_text (w.all ∙ append_assoc w.answered w.waiting (CheckSat ∷ [])) ∙ text_append w.answered (w.waiting ++ CheckSat ∷ [])));
        begun_is = append_none (commands_text (w.waiting ++ CheckSat ∷ []));
        got_is = subst (λ x. ShortItems x w.items (d.unread.items ++ got gets.0)) (sym later) (short_longer (got old) (got gets.0) w.items d.unread.items w.got_is);
        lawful = w.lawful;
        checks_are = w.checks_are;
        waits = tt;
        held = λ no_miss. held_unanswered w.waiting (commands_text (w.waiting ++ CheckSat ∷ [])) (d.unread.items ++ got gets.0) w.plain
            (λ rest items heard lawful. none no_miss (got gets.0) rest items later heard lawful);
        pace = pace_got commands old new gets w.pace;
      }

  -- where an answer may be missed
  pub waits_missed : (new : List Piece) → GetsOn (dialogue d.link) new → Waits dialogue d commands checks → TellsOf true true commands new checks
  waits_missed new gets w = waits_tells true new gets w (λ no_miss. absurd (cc))

  -- a call failed while the successes before a check's answer were read
  pub in_waiting_tells : (t : Talk) (owed : ℕ) (new : List Piece) → GetsOn (dialogue d.link) new → d.owed ≡ Some owed → FailsAfter t owed (got (dialogue d.link)) d.unread.items (got new)
      → Waits dialogue d commands checks → TellsOf true (may_miss t) commands new checks
  in_waiting_tells t owed new gets is fails w =
      let number : owed ≡ length w.waiting = same_Some owed (length w.waiting) (sym is ∙ w.owed_is) in
      let counted = subst (λ n. FailsAfter t n (got (dialogue d.link)) d.unread.items (got new)) number fails in
      waits_tells (may_miss t) new gets w (λ no_miss. unanswered_among t w.waiting (got (dialogue d.link)) d.unread.items (got new) no_miss w.plain counted)

  -- or the check's answer was
  pub in_answer_tells : (t : Talk) (owed : ℕ) (g1 u1 : List ℕ) (new : List Piece) → GetsOn (dialogue d.link) new → d.owed ≡ Some owed → ReadsSuccesses owed (got (dialogue d.link)) d.unread.items g1 u1
      → GivesNoReply t wanted.Answer g1 u1 (got new) → Waits dialogue d commands checks → TellsOf true (may_miss t) commands new checks
  in_answer_tells t owed g1 u1 new gets is reads gives w =
      let number : owed ≡ length w.waiting = same_Some owed (length w.waiting) (sym is ∙ w.owed_is) in
      let counted = subst (λ n. ReadsSuccesses n (got (dialogue d.link)) d.unread.items g1 u1) number reads in
      waits_tells (may_miss t) new gets w (λ no_miss. unanswered_check t w.waiting (got (dialogue d.link)) d.unread.items g1 u1 (got new) no_miss counted gives)

  -- Some commands were to be sent behind the answered ones, and a beginning of them is; then pieces are got.
  sends_tells : (g : Gathers dialogue d commands checks) (between new : List Piece) (batch : List ℕ) (script waiting : List Command) → script ≡ g.answered ++ waiting → batch ≡ commands_text waiting
      → length waiting ≤ 256 → Each IsSmallCommand script → SendsOn (dialogue d.link) between → GetsOn between new → KeepsPace script (dialogue d.link)
      → (rest : List ℕ) → sent between ++ rest ≡ sent (dialogue d.link) ++ batch → got between ≡ got (dialogue d.link)
      → ((begun later : List ℕ) → begun ++ rest ≡ commands_text waiting → HoldsNoAnswer waiting begun later) → Tells true script new checks
  sends_tells g between new batch script waiting all batch_is few small sends gets pace rest begun got_on holds =
      let old = dialogue d.link in
      let added : sent between ≡ sent old ++ sent sends.0 = ap sent sends.1 ∙ sent-append old sends.0 in
      let left : sent sends.0 ++ rest ≡ batch =
      append_cancel_left (sent old) (sent sends.0 ++ rest) batch (sym (append_assoc (sent old) (sent sends.0) rest) ∙ (ap (λ x. x ++ rest) (sym added) ∙ begun)) in
      let later : got new ≡ got old ++ got gets.0 = ap got gets.1 ∙ (got-append between gets.0 ∙ ap (λ x. x ++ got gets.0) got_on) in
      let kept = pace_begun old between batch rest script g.answered waiting g.items d.unread.items all sends begun g.sent_is batch_is few small g.got_is g.lawful pace in
      record {
        answered = g.answered;
        behind = waiting;
        begun = sent sends.0;
        unsent = rest;
        items = g.items;
        got_later = d.unread.items ++ got gets.0;
        all = all;
        sent_is = sent_by_gets between new gets ∙ (added ∙ ap (λ x. x ++ sent sends.0) g.sent_is);
        begun_is = left ∙ batch_is;
        got_is = subst (λ x. ShortItems x g.items (d.unread.items ++ got gets.0)) (sym later) (short_longer (got old) (got gets.0) g.items d.unread.items g.got_is);
        lawful = g.lawful;
        checks_are = g.checks_are;
        waits = tt;
        held = λ no_miss. holds (sent sends.0) (d.unread.items ++ got gets.0) (left ∙ batch_is);
        pace = pace_got script between new gets kept;
      }

  -- what is gathered
  pub batch_tells : (between new : List Piece) → SendsOn (dialogue d.link) between → GetsOn between new → ((rest : List ℕ) × (sent between ++ rest ≡ sent (dialogue d.link) ++ d.batch.items)) → got between ≡ got (dialogue d.link)
      → Gathers dialogue d commands checks → Tells true commands new checks
  batch_tells between new sends gets begun got_on g =
      sends_tells g between new d.batch.items commands g.gathered g.all g.batch_is g.few g.small sends gets g.pace begun.0 begun.1 got_on (λ front later _. none_plain g.gathered front later g.plain)

  -- and a check-sat behind it, not whole
  pub check_tells : (new : List Piece) → SendsOn (dialogue d.link) new → d.count < 256
      → ((rest : List ℕ) × (sent new ++ rest ≡ sent (dialogue d.link) ++ (d.batch.items ++ command_text CheckSat)))
      → length (sent new) < length (sent (dialogue d.link)) + length (d.batch.items ++ command_text CheckSat) → got new ≡ got (dialogue d.link)
      → Gathers dialogue d commands checks → Tells true (commands ++ CheckSat ∷ []) new checks
  check_tells new sends room begun part got_on g =
      let whole = sym (length-append (sent new) begun.0) ∙ (ap length begun.1 ∙ length-append (sent (dialogue d.link)) (d.batch.items ++ command_text CheckSat)) in
      let some : 0 < length begun.0 = omega arith in
      sends_tells g new new (d.batch.items ++ command_text CheckSat) (commands ++ CheckSat ∷ []) (g.gathered ++ CheckSat ∷ [])
      (ap (λ x. x ++ CheckSat ∷ []) g.all ∙ append_assoc g.answered g.gathered (CheckSat ∷ []))
      (ap (λ x. x ++ command_text CheckSat) g.batch_is ∙ sym (text_more g.gathered CheckSat)) (omega (arith, length_push g.gathered CheckSat, g.count_is))
      (small_join commands (CheckSat ∷ []) g.small (tt, tt)) sends (gets_none new)
      (pace_longer commands (CheckSat ∷ []) (dialogue d.link) g.pace) begun.0 begun.1 got_on (λ front later all. held_part g.gathered front begun.0 later g.plain some all)

pub standing_tells : {L : Type 0} (dialogue : L → List Piece) (certify : Bool) (functions : List Declared) (turns : List ScopedTurn) (d : Dialogue L) (checks : List Check)
    → Stands dialogue certify functions turns d checks → Tells false (script certify functions turns) (dialogue (link_of d)) checks
standing_tells dialogue certify functions turns d checks stands = gathers_tells dialogue d (script certify functions turns) checks stands.told

pub standing_longer : {L : Type 0} (dialogue : L → List Piece) (certify : Bool) (functions : List Declared) (turns : List ScopedTurn) (turn : ScopedTurn) (d : Dialogue L) (checks : List Check)
    → Stands dialogue certify functions turns d checks → Tells true (script certify functions (turns ++ turn ∷ [])) (dialogue (link_of d)) checks
standing_longer dialogue certify functions turns turn d checks stands =
    subst (λ x. Tells true x (dialogue (link_of d)) checks) (sym (script_more certify functions turns turn))
    (tells_longer false (script certify functions turns) (said_of (scope_from Outside turns) turn) (dialogue (link_of d)) checks (standing_tells dialogue certify functions turns d checks stands))

-- a script that goes on
pub breaks_longer : (t : Talk) (script more : List Command) (pieces : List Piece) (checks : List Check) → Breaks t script pieces checks → Breaks t (script ++ more) pieces checks
breaks_longer t script more pieces checks broken = record { explained = broken.explained; told = tells_longer true script more pieces checks broken.told }

-- the same script, written otherwise
pub breaks_at : (t : Talk) (script other : List Command) (pieces : List Piece) (checks : List Check) → script ≡ other → Breaks t script pieces checks → Breaks t other pieces checks
breaks_at t script other pieces checks same broken = subst (λ x. Breaks t x pieces checks) same broken

-- want of memory needs no explanation, nor does an earlier failure
pub breaks_want : {missed : Bool} (t : Talk) (script : List Command) (pieces : List Piece) (checks : List Check) → t ≡ talk.Want → TellsOf true missed script pieces checks → Breaks t script pieces checks
breaks_want t script pieces checks is told = record { explained = rw is tt; told = subst (λ x. TellsOf true (may_miss x) script pieces checks) (sym is) (tells_missed script pieces checks told) }

-- the link's own fault explains itself
pub breaks_link : (f : LinkFault) (t : Talk) (script : List Command) (pieces : List Piece) (checks : List Check) → t ≡ talk_of f → Tells true script pieces checks → Breaks t script pieces checks
breaks_link f t script pieces checks is told = record { explained = rw is (by_link f pieces); told = tells_any true (may_miss t) script pieces checks told }
