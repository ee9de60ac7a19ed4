-- A dialogue that keeps its pace as pieces are added.
use Rattle.std.proofs.Common.{◌≡◌, ◌⊎◌, inl, inr, ◌++◌, ℕ, ◌≤◌, List, [], ◌∷◌, length, refl, ap, ◌∙◌, sym, subst, append_assoc, arith}
use Rattle.std.proofs.lemmas.List.{append_cancel_left}
use Rattle.vx_ends.specs.declared.piece.Piece.{Piece}
use Rattle.vx_ends.specs.declared.piece.Piece.TheVariants.{Sent, Got}
use Rattle.vx_ends.specs.Dialogue.{sent, got, AreSent, AreGot, SendsOn, GetsOn}
use Rattle.vx_ends.proofs.Dialogues.{sent-append, got-append}
use Rattle.vx_sexp.specs.declared.token.Token.{Token}
use Rattle.vx_smt_meaning.specs.Commands.{Command}
use Rattle.vx_smt_meaning.specs.Dialogues.{Answers}
use Rattle.vx_smt_text.specs.Text.{commands_text}
use Rattle.vx_smt_text.specs.Small.{IsSmallCommand}
use Rattle.vx_terms.specs.Interpretations.{Each}
use Rattle.vx_dialogue.specs.Items.{ShortItems}
use Rattle.vx_dialogue.specs.Pace.{FewWait, KeepsPace}
use Rattle.vx_dialogue.proofs.Joined.{append_none, short_longer, none_sent}

-- a front of two lists ends in the first or in the second
pub fronts : {A : Type 0} (xs ys before after : List A) → xs ++ ys ≡ before ++ after
    → ((m : List A) × (xs ≡ before ++ m)) ⊎ ((m : List A) × (before ≡ xs ++ m) × (ys ≡ m ++ after))
fronts [] ys before after e = inr (before, refl, e)
fronts (x ∷ xs) ys [] after e = inl (x ∷ xs, refl)
fronts {A = A} (x ∷ xs) ys (b ∷ before) after e =
    let head : x ≡ b = cc in
    let tail : xs ++ ys ≡ before ++ after = cc in
    by_rest head (fronts xs ys before after tail)
  where
    by_rest : x ≡ b → ((m : List A) × (xs ≡ before ++ m)) ⊎ ((m : List A) × (before ≡ xs ++ m) × (ys ≡ m ++ after))
        → ((m : List A) × (x ∷ xs ≡ b ∷ before ++ m)) ⊎ ((m : List A) × (b ∷ before ≡ x ∷ xs ++ m) × (ys ≡ m ++ after))
    by_rest head (inl f) = inl (f.0, ap (λ z. z ∷ xs) head ∙ ap (λ z. b ∷ z) f.1)
    by_rest head (inr f) = inr (f.0, ap (λ z. z ∷ before) (sym head) ∙ ap (λ z. x ∷ z) f.1, f.2)

none_got : (xs : List Piece) → AreSent xs → got xs ≡ []
none_got [] e = refl
none_got (Sent b ∷ xs) e = none_got xs e
none_got (Got b ∷ xs) e = absurd e

sent_front : (xs ys : List Piece) → AreSent (xs ++ ys) → AreSent xs
sent_front [] ys e = tt
sent_front (Sent b ∷ xs) ys e = sent_front xs ys e
sent_front (Got b ∷ xs) ys e = absurd e

got_front : (xs ys : List Piece) → AreGot (xs ++ ys) → AreGot xs
got_front [] ys e = tt
got_front (Sent b ∷ xs) ys e = absurd e
got_front (Got b ∷ xs) ys e = got_front xs ys e

pub pace_none : (script : List Command) → KeepsPace script []
pace_none script before after e = at_none before e
  where
    at_none : (before : List Piece) → [] ≡ before ++ after → FewWait script before
    at_none [] f = record {
      answered = [];
      waiting = [];
      later = script;
      begun = [];
      unsent = [];
      items = [];
      rest = [];
      all = refl;
      sent_is = refl;
      begun_is = refl;
      few = omega arith;
      small = tt;
      got_is = refl;
      lawful = tt;
    }
    at_none (p ∷ before) f = absurd (cc)

-- A longer script changes nothing of it.
pub pace_longer : (script more : List Command) (pieces : List Piece) → KeepsPace script pieces → KeepsPace (script ++ more) pieces
pace_longer script more pieces pace before after e =
    let few = pace before after e in
    record {
      answered = few.answered;
      waiting = few.waiting;
      later = few.later ++ more;
      begun = few.begun;
      unsent = few.unsent;
      items = few.items;
      rest = few.rest;
      all = ap (λ x. x ++ more) few.all ∙ append_assoc (few.answered ++ few.waiting) few.later more;
      sent_is = few.sent_is;
      begun_is = few.begun_is;
      few = few.few;
      small = few.small;
      got_is = few.got_is;
      lawful = few.lawful;
    }

-- Where all that was sent has its replies, a batch of 256 commands at most is sent, or a beginning of it.
pub pace_begun : (old new : List Piece) (batch left : List ℕ) (script answered waiting : List Command) (items : List (List Token)) (rest : List ℕ) → script ≡ answered ++ waiting
    → SendsOn old new → sent new ++ left ≡ sent old ++ batch → sent old ≡ commands_text answered → batch ≡ commands_text waiting → length waiting ≤ 256
    → Each IsSmallCommand script → ShortItems (got old) items rest → Answers answered items → KeepsPace script old → KeepsPace script new
pace_begun old new batch left script answered waiting items rest all more sent_on sent_is batch_is few small heard lawful pace before after e =
    by_front (fronts old more.0 before after (sym more.1 ∙ e))
  where
    added : sent more.0 ++ left ≡ batch
    added = append_cancel_left (sent old) (sent more.0 ++ left) batch
        (sym (append_assoc (sent old) (sent more.0) left) ∙ (ap (λ x. x ++ left) (sym (sent-append old more.0) ∙ ap sent (sym more.1)) ∙ sent_on))

    by_front : ((m : List Piece) × (old ≡ before ++ m)) ⊎ ((m : List Piece) × (before ≡ old ++ m) × (more.0 ≡ m ++ after)) → FewWait script before
    by_front (inl f) = pace before f.0 f.1
    by_front (inr f) =
        let silent : got f.0 ≡ [] = none_got f.0 (sent_front f.0 after (subst AreSent f.2 more.2)) in
        let same : got before ≡ got old = ap got f.1 ∙ got-append old f.0 ∙ ap (λ x. got old ++ x) silent ∙ append_none (got old) in
        record {
          answered = answered;
          waiting = waiting;
          later = [];
          begun = sent f.0;
          unsent = sent after ++ left;
          items = items;
          rest = rest;
          all = all ∙ sym (append_none (answered ++ waiting));
          sent_is = ap sent f.1 ∙ (sent-append old f.0 ∙ ap (λ x. x ++ sent f.0) sent_is);
          begun_is = sym (append_assoc (sent f.0) (sent after) left) ∙ (ap (λ x. x ++ left) (sym (sent-append f.0 after) ∙ ap sent (sym f.2)) ∙ (added ∙ batch_is));
          few = few;
          small = subst (Each IsSmallCommand) all small;
          got_is = subst (λ x. ShortItems x items rest) (sym same) heard;
          lawful = lawful;
        }

-- and the whole batch
pub pace_sent : (old new : List Piece) (batch : List ℕ) (script answered waiting : List Command) (items : List (List Token)) (rest : List ℕ) → script ≡ answered ++ waiting
    → SendsOn old new → sent new ≡ sent old ++ batch → sent old ≡ commands_text answered → batch ≡ commands_text waiting → length waiting ≤ 256
    → Each IsSmallCommand script → ShortItems (got old) items rest → Answers answered items → KeepsPace script old → KeepsPace script new
pace_sent old new batch script answered waiting items rest all more sent_on =
    pace_begun old new batch [] script answered waiting items rest all more (append_none (sent new) ∙ sent_on)

-- Getting pieces changes nothing of it.
pub pace_got : (script : List Command) (old new : List Piece) → GetsOn old new → KeepsPace script old → KeepsPace script new
pace_got script old new more pace before after e = by_front (fronts old more.0 before after (sym more.1 ∙ e))
  where
    by_front : ((m : List Piece) × (old ≡ before ++ m)) ⊎ ((m : List Piece) × (before ≡ old ++ m) × (more.0 ≡ m ++ after)) → FewWait script before
    by_front (inl f) = pace before f.0 f.1
    by_front (inr f) =
        let few = pace old [] (sym (append_none old)) in
        let still : sent f.0 ≡ [] = none_sent f.0 (got_front f.0 after (subst AreGot f.2 more.2)) in
        let same : sent before ≡ sent old = ap sent f.1 ∙ sent-append old f.0 ∙ ap (λ x. sent old ++ x) still ∙ append_none (sent old) in
        record {
          answered = few.answered;
          waiting = few.waiting;
          later = few.later;
          begun = few.begun;
          unsent = few.unsent;
          items = few.items;
          rest = few.rest ++ got f.0;
          all = few.all;
          sent_is = same ∙ few.sent_is;
          begun_is = few.begun_is;
          few = few.few;
          small = few.small;
          got_is = subst (λ x. ShortItems x few.items (few.rest ++ got f.0)) (sym (ap got f.1 ∙ got-append old f.0)) (short_longer (got old) (got f.0) few.items few.rest few.got_is);
          lawful = few.lawful;
        }
