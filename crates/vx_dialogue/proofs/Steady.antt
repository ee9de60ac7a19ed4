-- Why a reply is owed whenever one is awaited.
use Rattle.std.proofs.Common.{◌≡◌, ◌++◌, ◌+◌, ◌-◌, ◌<◌, ◌≤◌, ℕ, Bool, false, IsTrue, List, [], ◌∷◌, length, map, take, drop, Some, refl, ap, ◌∙◌, sym, subst, append_assoc, length-append, arith, Result, Err, IfErr}
use Rattle.std.proofs.lemmas.Grind.{common_steps}
use Rattle.std.proofs.lemmas.List.{length_push}
use Rattle.std.proofs.lemmas.Option.{same_Some}
use Rattle.vx_ends.specs.declared.piece.Piece.{Piece}
use Rattle.vx_ends.specs.Causes.{HasCause, IsCalm}
use Rattle.vx_ends.specs.Dialogue.{sent, got, IsOwedReply}
use Rattle.vx_sexp.specs.declared.token.Token.{Token}
use Rattle.vx_sexp.specs.declared.reader.SexpFault.TheVariants as fault
use Rattle.vx_sexp.specs.First.{Faults}
use Rattle.vx_sexp.specs.Finished.{finished}
use Rattle.vx_smt_meaning.specs.Commands.{Command, CheckSat}
use Rattle.vx_smt_meaning.specs.Names.{AreCommands}
use Rattle.vx_smt_meaning.specs.Replies.{Items}
use Rattle.vx_smt_meaning.specs.Dialogues.{Answers, Check}
use Rattle.vx_smt_text.specs.Text.{commands_text}
use Rattle.vx_dialogue.specs.declared.dialogue.Dialogue.{Dialogue}
use Rattle.vx_dialogue.specs.Items.{Keeps, ReadsItem}
use Rattle.vx_dialogue.specs.Hears.{ReadsSuccesses}
use Rattle.vx_sexp.specs.Characters.{is_symbol_byte, is_digit}
use Rattle.vx_dialogue.specs.Preamble.{print_success, preamble}
use Rattle.vx_dialogue.specs.Dialogue.{Gathers, Waits}
use Rattle.vx_dialogue.specs.Steady.{IsSteady, Owes}
use Rattle.vx_dialogue.proofs.Joined.{items_longer, items_more, items_join, items_of}
use Rattle.vx_dialogue.proofs.Lists.{text_append, map_whole}
use Rattle.vx_dialogue.proofs.Counts.{finished_items, finished_none, text_least}

-- ---- a call that doesn't fail

pub calm_steady : {L E T : Type 0} (steady : L → Bool) (faults : L → ℕ) (old new : L) (failed : E) (r : Result T E) → steady new ≡ steady old → IsCalm failed (faults old) (faults new) r
    → IsSteady steady faults old → IsSteady steady faults new
calm_steady steady faults old new failed r fixed calm is = (subst IsTrue (sym fixed) is.0, calm.same ∙ is.1)

-- the count rose with the last call's, or in it
pub cause_on : {T U E : Type 0} (failed e : E) (old mid new : ℕ) (r : Result T E) (s : Result U E) → old ≤ mid → r ≡ Err e → s ≡ Err e → HasCause failed mid new r → HasCause failed old new s
cause_on failed e old mid new r s on is told cause =
    let later = cause.later in
    record {
      later = omega arith;
      rose = λ fails. let rose = cause.rose (is ∙ ap Err (subst (λ x. IfErr x (λ y. e ≡ y)) (sym told ∙ fails) refl)) in grind (arith, common_steps);
    }

-- ---- what is owed

pub owes_less : (m n : ℕ) (pieces : List Piece) (unread : List ℕ) → m ≤ n → Owes n pieces unread → Owes m pieces unread
owes_less m n pieces unread less owes = let most = owes.2 in (owes.0, owes.1, omega arith)

pub owes_keeps : (n : ℕ) (old new : List Piece) (u0 u1 : List ℕ) → Keeps (got old) u0 (got new) u1 → sent new ≡ sent old → Owes n old u0 → Owes n new u1
owes_keeps n old new u0 u1 keeps same owes =
    let sent_same = ap finished same in
    let most = owes.2 in (
      owes.0,
      subst (λ x. Items (got new) owes.0 x) (sym keeps.2) (subst (λ x. Items x owes.0 (u0 ++ keeps.0)) (sym keeps.1) (items_longer (got old) keeps.0 owes.0 u0 owes.1)),
      omega arith,
    )

pub owes_read : (n : ℕ) (old new : List Piece) (u0 u1 : List ℕ) (item : List Token) → ReadsItem (got old) u0 (got new) u1 item → sent new ≡ sent old → Owes (n + 1) old u0 → Owes n new u1
owes_read n old new u0 u1 item reads same owes =
    let sent_same = ap finished same in
    let longer = length_push owes.0 item in
    let most = owes.2 in (
      owes.0 ++ item ∷ [],
      subst (λ x. Items x (owes.0 ++ item ∷ []) u1) (sym reads.1)
          (items_more (got old ++ reads.0) owes.0 (u0 ++ reads.0) item u1 (items_longer (got old) reads.0 owes.0 u0 owes.1) reads.2.first),
      omega arith,
    )

pub owes_successes : (n m : ℕ) (old new : List Piece) (u0 u1 : List ℕ) → ReadsSuccesses n (got old) u0 (got new) u1 → sent new ≡ sent old → Owes (n + m) old u0 → Owes m new u1
owes_successes n m old new u0 u1 reads same owes =
    let sent_same = ap finished same in
    let longer = length-append owes.0 reads.2 in
    let count = reads.4 in
    let most = owes.2 in (
      owes.0 ++ reads.2,
      subst (λ x. Items x (owes.0 ++ reads.2) u1) (sym reads.1)
          (items_join (got old ++ reads.0) owes.0 reads.2 (u0 ++ reads.0) u1 (items_longer (got old) reads.0 owes.0 u0 owes.1) (items_of (u0 ++ reads.0) reads.2 u1 reads.3)),
      omega arith,
    )

-- where the next item isn't finished, a reply is owed
pub owed_reply : (pieces : List Piece) (unread : List ℕ) (at : ℕ) → Faults (fault.Unfinished at) unread → Owes 1 pieces unread → IsOwedReply pieces
owed_reply pieces unread at open_yet owes =
    let begun = open_yet.3 in
    let none = finished_none open_yet.1 unread open_yet.2 begun.lexed begun.open_yet open_yet.4 in
    let all = finished_items owes.0 (got pieces) unread owes.1 in
    let most = owes.2 in
    omega arith

-- more is got while the next item isn't finished
pub received : {L E T : Type 0} (dialogue : L → List Piece) (steady : L → Bool) (faults : L → ℕ) (old new : L) (failed : E) (r : Result T E) (unread : List ℕ) (at : ℕ)
    → steady new ≡ steady old → (IsTrue (steady old) → faults old ≡ 0 → IsOwedReply (dialogue old) → IsCalm failed (faults old) (faults new) r)
    → Faults (fault.Unfinished at) unread → Owes 1 (dialogue old) unread → IsSteady steady faults old → IsSteady steady faults new
received dialogue steady faults old new failed r unread at fixed calm open_yet owes is =
    calm_steady steady faults old new failed r fixed (calm is.0 is.1 (owed_reply (dialogue old) unread at open_yet owes)) is

-- one reply more is read, of those that are owed
pub next_steady : {L : Type 0} (dialogue : L → List Piece) (steady : L → Bool) (faults : L → ℕ) (old new : L) (count i : ℕ) (u0 u1 : List ℕ) (item : List Token) → i < count
    → (IsSteady steady faults old → Owes 1 (dialogue old) u0 → IsSteady steady faults new) → ReadsItem (got (dialogue old)) u0 (got (dialogue new)) u1 item
    → sent (dialogue new) ≡ sent (dialogue old) → IsSteady steady faults old × Owes (count - i) (dialogue old) u0
    → IsSteady steady faults new × Owes (count - (i + 1)) (dialogue new) u1
next_steady dialogue steady faults old new count i u0 u1 item below on reads same is =
    let owes : Owes ((count - (i + 1)) + 1) (dialogue old) u0 = owes_less ((count - (i + 1)) + 1) (count - i) (dialogue old) u0 (omega arith) is.1 in (
      on is.0 (owes_less 1 (count - i) (dialogue old) u0 (omega arith) is.1),
      owes_read (count - (i + 1)) (dialogue old) (dialogue new) u0 u1 item reads same owes,
    )

pub first_owed : {L : Type 0} (dialogue : L → List Piece) (steady : L → Bool) (faults : L → ℕ) (old new : L) (n : ℕ) (u0 : List ℕ) → 0 < n
    → (IsSteady steady faults old → Owes 1 (dialogue old) u0 → IsSteady steady faults new) → IsSteady steady faults old × Owes n (dialogue old) u0 → IsSteady steady faults new
first_owed dialogue steady faults old new n u0 some on is = on is.0 (owes_less 1 n (dialogue old) u0 (omega arith) is.1)

answers_length : (cs : List Command) (items : List (List Token)) → Answers cs items → length items ≡ length cs
answers_length [] [] e = refl
answers_length [] (i ∷ items) e = absurd e
answers_length (c ∷ cs) [] e = absurd e
answers_length (c ∷ cs) (i ∷ items) e = let h = answers_length cs items e.1 in omega arith

module _ {L : Type 0} (dialogue : L → List Piece) (d : Dialogue L) (commands : List Command) (checks : List Check) where
  -- what is gathered is sent
  pub owes_batch : (new : List Piece) → sent new ≡ sent (dialogue d.link) ++ d.batch.items → got new ≡ got (dialogue d.link) → AreCommands commands
      → Gathers dialogue d commands checks → Owes d.count new d.unread.items
  owes_batch new sent_on got_on named g =
      let text : sent new ≡ commands_text commands = sent_on ∙ (rw (g.sent_is, g.batch_is) (sym (text_append g.answered g.gathered)) ∙ ap commands_text (sym g.all)) in
      let all = ap length g.all ∙ length-append g.answered g.gathered in
      let replies = answers_length g.answered g.items g.lawful in
      let least = text_least commands named in
      let sent_same = ap finished text in
      let count = g.count_is in
      (g.items, subst (λ x. Items x g.items d.unread.items) (sym got_on) (items_of (got (dialogue d.link)) g.items d.unread.items g.got_is), omega arith)

  -- a check waits behind so many others
  pub owes_check : (owed : ℕ) → d.owed ≡ Some owed → AreCommands commands → Waits dialogue d commands checks → Owes (owed + 1) (dialogue d.link) d.unread.items
  owes_check owed owed_is named w =
      let number : owed ≡ length w.waiting = same_Some owed (length w.waiting) (sym owed_is ∙ w.owed_is) in
      let all = ap length w.all ∙ (length_push (w.answered ++ w.waiting) CheckSat ∙ ap (λ n. n + 1) (length-append w.answered w.waiting)) in
      let replies = answers_length w.answered w.items w.lawful in
      let least = text_least commands named in
      let sent_same = ap finished w.sent_is in
      (w.items, items_of (got (dialogue d.link)) w.items d.unread.items w.got_is, omega arith)

pub commands_front : (xs ys : List Command) → AreCommands (xs ++ ys) → AreCommands xs
commands_front [] ys named = tt
commands_front (x ∷ xs) ys named = (named.0, commands_front xs ys named.1)

pub commands_join : (xs ys : List Command) → AreCommands xs → AreCommands ys → AreCommands (xs ++ ys)
commands_join [] ys e f = f
commands_join (x ∷ xs) ys e f = (e.0, commands_join xs ys e.1 f)

-- the names of a list are those of its front
pub commands_upto : {A : Type 0} (f : A → Command) (all : List A) (i : ℕ) (xs : List Command) → AreCommands (xs ++ map f all) → AreCommands (xs ++ map f (take i all))
commands_upto f all i xs named =
    commands_front (xs ++ map f (take i all)) (map f (drop i all))
    (subst AreCommands (ap (λ x. xs ++ x) (sym (map_whole f all i)) ∙ sym (append_assoc xs (map f (take i all)) (map f (drop i all)))) named)

-- ---- the names that every dialogue says

pub preamble_named : AreCommands (preamble false [])
unfolding print_success is_symbol_byte is_digit
preamble_named = (refl, (refl, (refl, (refl, ((tt, tt, tt), ((tt, tt, tt), ((tt, (tt, (tt, tt)), tt), ((tt, (tt, tt), tt), ((tt, (tt, tt), tt), ((tt, (tt, tt), tt), ((tt, (tt, tt), tt), ((tt, (tt, tt), tt), ((tt, (tt, tt), tt), ((tt, (tt, tt), tt), ((tt, (tt, tt), tt), ((tt, (tt, tt), tt), ((tt, (tt, tt), tt), tt)))))))))))))))))
