-- What is told of a dialogue as it goes on.
use Rattle.std.proofs.Common.{◌≡◌, ◌++◌, ◌+◌, ◌<◌, arith, ℕ, true, List, [], ◌∷◌, length, refl, ap, ◌∙◌, sym, subst, append_assoc, Some}
use Rattle.std.proofs.lemmas.Option.{same_Some}
use Rattle.std.proofs.lemmas.List.{length_push}
use Rattle.vx_ends.specs.declared.piece.Piece.{Piece}
use Rattle.vx_ends.specs.Dialogue.{sent, got, SendsOn, GetsOn}
use Rattle.vx_sexp.specs.declared.token.Token.{Token}
use Rattle.vx_smt_meaning.specs.Commands.{Command, CheckSat, empty_level, stack_from, stack_of}
use Rattle.vx_smt_meaning.specs.Replies.{answer_of}
use Rattle.vx_smt_meaning.specs.Dialogues.{is_plain, Answers, Check, check_at, checks_told}
use Rattle.vx_smt_meaning.specs.declared.reply.Reply.{Reply}
use Rattle.vx_smt_text.specs.Text.{command_text, commands_text}
use Rattle.vx_smt_text.specs.Small.{IsSmallCommand}
use Rattle.vx_dialogue.specs.declared.dialogue.Dialogue.{Dialogue}
use Rattle.vx_dialogue.specs.Items.{ShortItems, ReadsItem}
use Rattle.vx_dialogue.specs.Hears.{ReadsSuccesses}
use Rattle.vx_dialogue.specs.Dialogue.{Gathers, Waits, told_check}
use Rattle.vx_dialogue.specs.Pace.{KeepsPace}
use Rattle.vx_dialogue.proofs.Pace.{pace_none, pace_longer, pace_sent, pace_got}
use Rattle.vx_dialogue.proofs.Lists.{none_more, text_append, text_more, stack_append, plain_join, small_join, no_checks, successes_to, answers_join, checks_join}
use Rattle.vx_dialogue.proofs.Joined.{short_longer, short_join}

-- Items that were read, and then some more of what was got meanwhile.
items_go_on : (got0 unread0 got1 unread1 more : List ℕ) (xs ys : List (List Token)) → got1 ≡ got0 ++ more → ShortItems got0 xs unread0 → ShortItems (unread0 ++ more) ys unread1 → ShortItems got1 (xs ++ ys) unread1
items_go_on got0 unread0 got1 unread1 more xs ys is e f =
    subst (λ x. ShortItems x (xs ++ ys) unread1) (sym is) (short_join (got0 ++ more) xs ys (unread0 ++ more) unread1 (short_longer got0 more xs unread0 e) f)

-- one command more is gathered
pub gathers_said : {L : Type 0} (dialogue : L → List Piece) (d e : Dialogue L) (c : Command) → is_plain c ≡ true → IsSmallCommand c
    → e.link ≡ d.link → e.batch.items ≡ d.batch.items ++ command_text c → e.count ≡ d.count + 1 → e.unread.items ≡ d.unread.items → d.count < 256
    → (commands : List Command) (checks : List Check) → Gathers dialogue d commands checks → Gathers dialogue e (commands ++ c ∷ []) checks
gathers_said dialogue d e c plain small link batch count unread room commands checks g = record {
  answered = g.answered;
  gathered = g.gathered ++ c ∷ [];
  items = g.items;
  all = rw g.all (append_assoc g.answered g.gathered (c ∷ []));
  sent_is = rw link g.sent_is;
  batch_is = batch ∙ rw g.batch_is (sym (text_more g.gathered c));
  count_is = count ∙ rw g.count_is (sym (length_push g.gathered c));
  few = omega (arith, length_push g.gathered c, g.count_is);
  pace = rw link (pace_longer commands (c ∷ []) (dialogue d.link) g.pace);
  small = small_join commands (c ∷ []) g.small (small, tt);
  plain = plain_join g.gathered (c ∷ []) g.plain (plain, tt);
  got_is = rw (link, unread) g.got_is;
  lawful = g.lawful;
  checks_are = g.checks_are;
}

-- what is gathered is sent, and its replies are read
pub gathers_sent : {L : Type 0} (dialogue : L → List Piece) (d e : Dialogue L) (between : List Piece) → SendsOn (dialogue d.link) between → GetsOn between (dialogue e.link)
    → sent between ≡ sent (dialogue d.link) ++ d.batch.items → sent (dialogue e.link) ≡ sent (dialogue d.link) ++ d.batch.items
    → e.batch.items ≡ [] → e.count ≡ 0 → ReadsSuccesses d.count (got (dialogue d.link)) d.unread.items (got (dialogue e.link)) e.unread.items
    → (commands : List Command) (checks : List Check) → Gathers dialogue d commands checks → Gathers dialogue e commands checks
gathers_sent dialogue d e between sends gets sent_between sent_on batch count reads commands checks g =
    let successes = reads.2 in
    let replies : Answers g.gathered successes = successes_to g.gathered successes g.plain (reads.4 ∙ g.count_is) reads.5 in
    let no_new : checks_told (stack_from (empty_level ∷ []) g.answered) g.gathered successes ≡ [] = no_checks (stack_from (empty_level ∷ []) g.answered) g.gathered successes g.plain in
    let same : checks_told (empty_level ∷ []) (g.answered ++ g.gathered) (g.items ++ successes) ≡ checks_told (empty_level ∷ []) g.answered g.items =
    checks_join (empty_level ∷ []) g.answered g.gathered g.items successes g.lawful ∙ rw no_new (none_more (checks_told (empty_level ∷ []) g.answered g.items)) in
    record {
      answered = g.answered ++ g.gathered;
      gathered = [];
      items = g.items ++ successes;
      all = g.all ∙ sym (none_more (g.answered ++ g.gathered));
      sent_is = sent_on ∙ rw (g.sent_is, g.batch_is) (sym (text_append g.answered g.gathered));
      batch_is = batch;
      count_is = count;
      few = omega arith;
      pace = pace_got commands between (dialogue e.link) gets (pace_sent (dialogue d.link) between d.batch.items commands g.answered g.gathered g.items d.unread.items
          g.all sends sent_between g.sent_is g.batch_is g.few g.small g.got_is g.lawful g.pace);
      small = g.small;
      plain = tt;
      got_is = items_go_on _ _ _ _ reads.0 g.items successes reads.1 g.got_is reads.3;
      lawful = answers_join g.answered g.gathered g.items successes g.lawful replies;
      checks_are = g.checks_are ∙ sym same;
    }

-- what is gathered is sent, and a check-sat behind it
pub waits_sent : {L : Type 0} (dialogue : L → List Piece) (d e : Dialogue L) → SendsOn (dialogue d.link) (dialogue e.link) → d.count < 256 → sent (dialogue e.link) ≡ sent (dialogue d.link) ++ (d.batch.items ++ command_text CheckSat)
    → e.batch.items ≡ [] → e.count ≡ 0 → e.owed ≡ Some d.count → got (dialogue e.link) ≡ got (dialogue d.link) → e.unread.items ≡ d.unread.items
    → (commands : List Command) (checks : List Check) → Gathers dialogue d commands checks → Waits dialogue e (commands ++ CheckSat ∷ []) checks
waits_sent dialogue d e sends room sent_on batch count owed got_on unread commands checks g = record {
  answered = g.answered;
  waiting = g.gathered;
  items = g.items;
  all = ap (λ x. x ++ CheckSat ∷ []) g.all;
  sent_is = sent_on ∙ rw (g.sent_is, g.batch_is, text_more commands CheckSat, g.all, text_append g.answered g.gathered) (sym (append_assoc (commands_text g.answered) (commands_text g.gathered) (command_text CheckSat)));
  batch_is = batch;
  count_is = count;
  owed_is = owed ∙ ap Some g.count_is;
  pace = pace_sent (dialogue d.link) (dialogue e.link) (d.batch.items ++ command_text CheckSat) (commands ++ CheckSat ∷ []) g.answered (g.gathered ++ CheckSat ∷ []) g.items d.unread.items
      (ap (λ x. x ++ CheckSat ∷ []) g.all ∙ append_assoc g.answered g.gathered (CheckSat ∷ [])) sends sent_on g.sent_is (ap (λ x. x ++ command_text CheckSat) g.batch_is ∙ sym (text_more g.gathered CheckSat))
      (omega (arith, length_push g.gathered CheckSat, g.count_is)) (small_join commands (CheckSat ∷ []) g.small (tt, tt)) g.got_is g.lawful
      (pace_longer commands (CheckSat ∷ []) (dialogue d.link) g.pace);
  small = small_join commands (CheckSat ∷ []) g.small (tt, tt);
  plain = g.plain;
  got_is = rw (got_on, unread) g.got_is;
  lawful = g.lawful;
  checks_are = g.checks_are;
}

-- the replies are read, and the answer to the check; nothing is gathered
pub gathers_answered : {L : Type 0} (dialogue : L → List Piece) (d e : Dialogue L) (owed : ℕ) (got1 unread1 : List ℕ) (item : List Token) (reply : Reply)
    → GetsOn (dialogue d.link) (dialogue e.link) → d.owed ≡ Some owed → sent (dialogue e.link) ≡ sent (dialogue d.link) → e.batch.items ≡ d.batch.items → e.count ≡ d.count
    → ReadsSuccesses owed (got (dialogue d.link)) d.unread.items got1 unread1 → ReadsItem got1 unread1 (got (dialogue e.link)) e.unread.items item → answer_of item ≡ Some reply
    → (commands : List Command) (checks : List Check) → Waits dialogue d commands checks
    → Gathers dialogue e commands (checks ++ told_check (stack_of commands) reply ∷ [])
gathers_answered dialogue d e owed got1 unread1 item reply gets owed_is sent_on batch count reads answers is commands checks w =
    let base = empty_level ∷ [] in
    let before = w.answered ++ w.waiting in
    let successes = reads.2 in
    let number : owed ≡ length w.waiting = same_Some owed (length w.waiting) (sym owed_is ∙ w.owed_is) in
    let replies : Answers w.waiting successes = successes_to w.waiting successes w.plain (reads.4 ∙ number) reads.5 in
    let lawful_before : Answers before (w.items ++ successes) = answers_join w.answered w.waiting w.items successes w.lawful replies in
    let last : Answers (CheckSat ∷ []) (item ∷ []) = (rw is refl, tt) in
    let none_new : checks_told (stack_from base w.answered) w.waiting successes ≡ [] = no_checks (stack_from base w.answered) w.waiting successes w.plain in
    let old_checks : checks_told base before (w.items ++ successes) ≡ checks = checks_join base w.answered w.waiting w.items successes w.lawful ∙ (rw none_new (none_more (checks_told base w.answered w.items)) ∙ sym w.checks_are) in
    let levels : stack_of commands ≡ stack_from base before = ap stack_of w.all ∙ stack_append base before (CheckSat ∷ []) in
    let new_check : check_at (stack_from base before) item ≡ told_check (stack_of commands) reply = rw (levels, is) refl in
    let got_before = items_go_on _ _ _ _ reads.0 w.items successes reads.1 w.got_is reads.3 in
    record {
      answered = commands;
      gathered = [];
      items = (w.items ++ successes) ++ item ∷ [];
      all = sym (none_more commands);
      sent_is = sent_on ∙ w.sent_is;
      batch_is = batch ∙ w.batch_is;
      count_is = count ∙ w.count_is;
      few = omega arith;
      pace = pace_got commands (dialogue d.link) (dialogue e.link) gets w.pace;
      small = w.small;
      plain = tt;
      got_is = items_go_on _ _ _ _ answers.0 (w.items ++ successes) (item ∷ []) answers.1 got_before (_, answers.2, refl);
      lawful = subst (λ x. Answers x ((w.items ++ successes) ++ item ∷ [])) (sym w.all) (answers_join before (CheckSat ∷ []) (w.items ++ successes) (item ∷ []) lawful_before last);
      checks_are = sym (ap (λ x. checks_told base x ((w.items ++ successes) ++ item ∷ [])) w.all
          ∙ checks_join base before (CheckSat ∷ []) (w.items ++ successes) (item ∷ []) lawful_before ∙ rw (old_checks, new_check) refl);
    }

-- nothing is said yet
pub gathers_none : {L : Type 0} (dialogue : L → List Piece) (d : Dialogue L) → dialogue d.link ≡ [] → d.batch.items ≡ [] → d.count ≡ 0 → d.unread.items ≡ [] → Gathers dialogue d [] []
gathers_none dialogue d link batch count unread = record {
  answered = [];
  gathered = [];
  items = [];
  all = refl;
  sent_is = ap sent link;
  batch_is = batch;
  count_is = count;
  few = omega arith;
  pace = subst (KeepsPace []) (sym link) (pace_none []);
  small = tt;
  plain = tt;
  got_is = unread ∙ sym (ap got link);
  lawful = tt;
  checks_are = refl;
}
