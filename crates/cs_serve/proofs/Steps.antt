-- A solver goes on, or stops.
use Rattle.std.proofs.Common.{◌≡◌, ◌⊎◌, inl, inr, ℕ, ◌+◌, ◌≤◌, Bool, true, false, List, [], ◌++◌, length, take, drop, Option, Some, IfSome, IsSomeAnd, refl, arith, sym, ap, ◌∙◌, subst, append_assoc, append-nil}
use Rattle.std.proofs.lemmas.List.{take-append-drop, take_all, length-append}
use Rattle.vx_sexp.specs.Beginnings.{IsBeginning}
use Rattle.vx_ends.specs.Talks.{talk_on, Says}
use Rattle.vx_ends.specs.declared.piece.Piece.{Piece}
use Rattle.vx_ends.specs.declared.piece.Piece.TheVariants.{Got}
use Rattle.cs_session.specs.declared.reply.Reply.{Reply}
use Rattle.cs_session.specs.Views.{State}
use Rattle.cs_session.specs.Texts.{reply_text}
use Rattle.cs_session.specs.Replies.{Replies}
use Rattle.cs_serve.specs.declared.ending.Ending.{Ending}
use Rattle.cs_serve.specs.declared.ending.Ending.TheVariants as endings
use Rattle.cs_serve.specs.Endings.{status, farewell}
use Rattle.cs_session.specs.Answering.{EndsAt}
use Rattle.cs_session.specs.Answering.{start}
use Rattle.cs_serve.specs.Serving.{Serves, begun, given, answered, put, most_at_once, is_last, IsDue, Puts, HasEnded}
use Rattle.cs_serve.specs.Working.{Before, IsTalk, IsAt, Stops, HasStopped, IsStill, IsToldInTurn}
use Rattle.cs_serve.proofs.Turns.{begins_talk, talk_goes_on, talk_says, talk_in_turn}

-- what is added to a list that is told
told_on : (old new : Option (List ℕ)) (xs ys : List ℕ) → old ≡ Some xs → IfSome old (λ bytes. new ≡ Some (bytes ++ ys)) → new ≡ Some (xs ++ ys)
told_on old new xs ys is more = subst (λ o. IfSome o (λ bytes. new ≡ Some (bytes ++ ys))) is more

-- nothing is due
all_put : (text told due : List ℕ) → told ++ due ≡ text → due ≡ [] → told ≡ text
all_put text told due is none = sym (append-nil told) ∙ ap (λ x. told ++ x) (sym none) ∙ is

-- ---- it goes on

pub starts : (before : Before) (talk : Option (List Piece)) → (before.told ≡ true → talk ≡ Some []) → IsAt before (Some []) (Some before.taken) talk [] 0 [] start false
starts before talk is = record {
  all = [];
  text = [];
  put = [];
  is_given = refl;
  is_taken = ap Some (sym (append-nil before.taken));
  is_talk = λ told. begins_talk talk (is told);
  is_due = refl;
  counted = refl;
  serves = begun;
}

-- a command is answered
pub goes_on : (before : Before) (due more : List ℕ) (from taken : Option (List ℕ)) (talk : Option (List Piece)) (total : ℕ) (left : List ℕ) (s u : State) (n : ℕ) (r : Reply)
    → IsAt before from taken talk due total left s false → EndsAt n left → Replies left s r u → more ≡ due ++ reply_text r
    → IsAt before from taken talk more total (drop n left) u (is_last r)
goes_on before due more from taken talk total left s u n r at ends replies is = record {
  all = at.all;
  text = at.text ++ reply_text r;
  put = at.put;
  is_given = at.is_given;
  is_taken = at.is_taken;
  is_talk = at.is_talk;
  is_due = ap (λ x. at.put ++ x) is ∙ sym (append_assoc at.put due (reply_text r)) ∙ ap (λ x. x ++ reply_text r) at.is_due;
  counted = at.counted;
  serves = answered n r at.serves ends replies;
}

-- a piece is given
pub given_more : (before : Before) (piece : List ℕ) (old new taken : Option (List ℕ)) (talk later : Option (List Piece)) (total : ℕ) (left : List ℕ) (s : State)
    → IsAt before old taken talk [] total left s false → IfSome old (λ bytes. new ≡ Some (bytes ++ piece)) → later ≡ talk_on talk (Got piece)
    → length piece ≤ most_at_once → IsBeginning left → IsAt before new taken later [] (total + length piece) (left ++ piece) s false
given_more before piece old new taken talk later total left s at more said short waits =
    let all = all_put at.text at.put [] at.is_due refl in
    let serves = subst (λ x. Serves at.all at.text x left s false) all at.serves in
    record {
      all = at.all ++ piece;
      text = at.text;
      put = at.text;
      is_given = told_on old new at.all piece at.is_given more;
      is_taken = at.is_taken ∙ ap (λ x. Some (before.taken ++ x)) all;
      is_talk = λ told.
          let here = subst (λ x. IsSomeAnd talk (IsTalk at.all x)) all (at.is_talk told) in
          talk_goes_on talk later at.all at.text piece said (left, s, serves, waits) here;
      is_due = append-nil at.text;
      counted = length-append at.all piece ∙ ap (λ n. n + length piece) at.counted;
      serves = given piece short waits serves;
    }

-- some of what is due is put
puts_on : (before : Before) (due now later : List ℕ) (from old new : Option (List ℕ)) (talk spoken : Option (List Piece)) (total : ℕ) (left : List ℕ) (s : State) (over : Bool)
    → (at : IsAt before from old talk due total left s over) → now ++ later ≡ due → Says now old new talk spoken → IsAt before from new spoken later total left s over
puts_on before due now later from old new talk spoken total left s over at is says =
    let whole : (at.put ++ now) ++ later ≡ at.text = append_assoc at.put now later ∙ ap (λ x. at.put ++ x) is ∙ at.is_due in
    record {
      all = at.all;
      text = at.text;
      put = at.put ++ now;
      is_given = at.is_given;
      is_taken = told_on old new (before.taken ++ at.put) now at.is_taken says.taken ∙ ap Some (append_assoc before.taken at.put now);
      is_talk = λ told. talk_says talk spoken at.all at.put now says.talks (at.is_talk told);
      is_due = whole;
      counted = at.counted;
      serves = put now later at.serves whole;
    }

-- all that is due is put
pub at_put : (before : Before) (due : List ℕ) (from old new : Option (List ℕ)) (talk spoken : Option (List Piece)) (total : ℕ) (left : List ℕ) (s : State) (over : Bool)
    → IsAt before from old talk due total left s over → Says due old new talk spoken → IsAt before from new spoken [] total left s over
at_put before due from old new talk spoken total left s over at says = puts_on before due due [] from old new talk spoken total left s over at (append-nil due) says

-- ---- it stops

pub stops_at : (e : Ending) (before : Before) (due : List ℕ) (from taken : Option (List ℕ)) (talk : Option (List Piece)) (total : ℕ) (left : List ℕ) (s : State) (over at_end : Bool)
    → (at : IsAt before from taken talk due total left s over) → IsDue e at.all left over at_end → Stops e before from taken talk due at_end
stops_at e before due from taken talk total left s over at_end at ends = record { total = total; left = left; state = s; over = over; at = at; ends = ends }

pub has_stopped : (e : Ending) (before : Before) (from taken : Option (List ℕ)) (talk : Option (List Piece)) (total : ℕ) (left : List ℕ) (s : State) (over at_end : Bool)
    → (at : IsAt before from taken talk [] total left s over) → IsDue e at.all left over at_end → HasStopped e before from taken talk at_end
has_stopped e before from taken talk total left s over at_end at ends = record { due = []; stops = stops_at e before [] from taken talk total left s over at_end at ends; all_put = inl refl }

-- all that is due is put then
pub stops_put : (e : Ending) (before : Before) (due : List ℕ) (from old new : Option (List ℕ)) (talk spoken : Option (List Piece)) (at_end : Bool)
    → Stops e before from old talk due at_end → Says due old new talk spoken → HasStopped e before from new spoken at_end
unfolding at_put puts_on
stops_put e before due from old new talk spoken at_end s says =
    has_stopped e before from new spoken s.total s.left s.state s.over at_end (at_put before due from old new talk spoken s.total s.left s.state s.over s.at says) s.ends

-- the sink failed before it had taken all that was due
pub stops_short : (before : Before) (due : List ℕ) (from old new : Option (List ℕ)) (talk spoken : Option (List Piece)) (total : ℕ) (left : List ℕ) (s : State) (over at_end : Bool)
    → IsAt before from old talk due total left s over → (n : ℕ) × Says (take n due) old new talk spoken → HasStopped endings.SinkFailed before from new spoken at_end
stops_short before due from old new talk spoken total left s over at_end at says =
    let rest = drop says.0 due in
    let there = puts_on before due (take says.0 due) rest from old new talk spoken total left s over at (take-append-drop says.0 due) says.1 in
    record { due = rest; stops = stops_at endings.SinkFailed before rest from new spoken total left s over at_end there tt; all_put = inr refl }

-- ---- the farewell

whole_said : (e : Ending) (text told : List ℕ) (due : Ending → Type 0) → told ≡ text → Puts e text told (farewell e) due
whole_said endings.Exited text told due is = (is, refl)
whole_said endings.Exhausted text told due is = (is, refl)
whole_said endings.BadToken text told due is = (is, refl)
whole_said endings.Unfinished text told due is = (is, refl)
whole_said endings.SourceFailed text told due is = (is, refl)
whole_said endings.TooLong text told due is = (is, refl)
whole_said endings.SinkFailed text told due is = inl refl
whole_said endings.Want text told due is = (is, refl)

said : (e : Ending) (text told : List ℕ) (due : Ending → Type 0) → (told ≡ text) ⊎ (e ≡ endings.SinkFailed) → Puts e text told (farewell e) due
said e text told due (inl is) = whole_said e text told due is
said e text told due (inr is) = subst (λ d. Puts d text told (farewell d) due) (sym is) (inl refl)

cut_short : (e : Ending) (text told : List ℕ) (due : Ending → Type 0) (n : ℕ)
    → due e → (told ≡ text) ⊎ (e ≡ endings.SinkFailed) → Puts endings.SinkFailed text told (take n (farewell e)) due
cut_short e text told due n d (inl is) = inr (is, e, d, drop n (farewell e), take-append-drop n (farewell e))
cut_short e text told due n d (inr is) = inl (ap (λ x. take n (farewell x)) is ∙ take_all n [] (omega arith))

-- whether all answers are put
whole_or : (e : Ending) (text told due : List ℕ) → told ++ due ≡ text → (due ≡ []) ⊎ (e ≡ endings.SinkFailed) → (told ≡ text) ⊎ (e ≡ endings.SinkFailed)
whole_or e text told due is (inl none) = inl (all_put text told due is none)
whole_or e text told due is (inr failed) = inr failed

ends_whole : (e : Ending) (before : Before) (from old new : Option (List ℕ)) (talk spoken : Option (List Piece)) (at_end : Bool)
    → HasStopped e before from old talk at_end → Says (farewell e) old new talk spoken → HasEnded e before.taken from new at_end
ends_whole e before from old new talk spoken at_end stopped says =
    let s = stopped.stops in
    let at = s.at in
    record {
      all = at.all;
      text = at.text;
      put = at.put;
      last = farewell e;
      left = s.left;
      state = s.state;
      over = s.over;
      is_given = at.is_given;
      is_taken = told_on old new (before.taken ++ at.put) (farewell e) at.is_taken says.taken;
      serves = at.serves;
      ends = s.ends;
      puts = said e at.text at.put (λ d. IsDue d at.all s.left s.over at_end) (whole_or e at.text at.put stopped.due at.is_due stopped.all_put);
    }

ends_short : (e : Ending) (before : Before) (from old new : Option (List ℕ)) (talk spoken : Option (List Piece)) (at_end : Bool)
    → HasStopped e before from old talk at_end → (n : ℕ) × Says (take n (farewell e)) old new talk spoken → HasEnded endings.SinkFailed before.taken from new at_end
ends_short e before from old new talk spoken at_end stopped some =
    let s = stopped.stops in
    let at = s.at in
    record {
      all = at.all;
      text = at.text;
      put = at.put;
      last = take some.0 (farewell e);
      left = s.left;
      state = s.state;
      over = s.over;
      is_given = at.is_given;
      is_taken = told_on old new (before.taken ++ at.put) (take some.0 (farewell e)) at.is_taken some.1.taken;
      serves = at.serves;
      ends = tt;
      puts = cut_short e at.text at.put (λ d. IsDue d at.all s.left s.over at_end) some.0 s.ends (whole_or e at.text at.put stopped.due at.is_due stopped.all_put);
    }

-- the dialogue is in turn then
says_in_turn : (before : Before) (due now : List ℕ) (from old new : Option (List ℕ)) (talk spoken : Option (List Piece)) (total : ℕ) (left : List ℕ) (s : State) (over : Bool)
    → IsAt before from old talk due total left s over → Says now old new talk spoken → IsToldInTurn before spoken
says_in_turn before due now from old new talk spoken total left s over at says = λ told.
    talk_in_turn spoken at.all (at.put ++ now) (talk_says talk spoken at.all at.put now says.talks (at.is_talk told))

pub leaves_whole : (e : Ending) (before : Before) (from old new : Option (List ℕ)) (talk spoken : Option (List Piece)) (at_end : Bool)
    → HasStopped e before from old talk at_end → Says (farewell e) old new talk spoken → HasEnded e before.taken from new at_end × IsToldInTurn before spoken
leaves_whole e before from old new talk spoken at_end stopped says =
    let s = stopped.stops in
    (ends_whole e before from old new talk spoken at_end stopped says, says_in_turn before stopped.due (farewell e) from old new talk spoken s.total s.left s.state s.over s.at says)

pub leaves_short : (e : Ending) (before : Before) (from old new : Option (List ℕ)) (talk spoken : Option (List Piece)) (at_end : Bool)
    → HasStopped e before from old talk at_end → (n : ℕ) × Says (take n (farewell e)) old new talk spoken
    → HasEnded endings.SinkFailed before.taken from new at_end × IsToldInTurn before spoken
leaves_short e before from old new talk spoken at_end stopped some =
    let s = stopped.stops in
    (ends_short e before from old new talk spoken at_end stopped some, says_in_turn before stopped.due (take some.0 (farewell e)) from old new talk spoken s.total s.left s.state s.over s.at some.1)

-- ---- the status

pub only_source : (e : Ending) → status e ≡ 3 → e ≡ endings.SourceFailed
only_source endings.Exited is = absurd (omega (arith, is))
only_source endings.Exhausted is = absurd (omega (arith, is))
only_source endings.BadToken is = absurd (omega (arith, is))
only_source endings.Unfinished is = absurd (omega (arith, is))
only_source endings.SourceFailed is = refl
only_source endings.TooLong is = absurd (omega (arith, is))
only_source endings.SinkFailed is = absurd (omega (arith, is))
only_source endings.Want is = absurd (omega (arith, is))

pub only_sink : (e : Ending) → status e ≡ 6 → e ≡ endings.SinkFailed
only_sink endings.Exited is = absurd (omega (arith, is))
only_sink endings.Exhausted is = absurd (omega (arith, is))
only_sink endings.BadToken is = absurd (omega (arith, is))
only_sink endings.Unfinished is = absurd (omega (arith, is))
only_sink endings.SourceFailed is = absurd (omega (arith, is))
only_sink endings.TooLong is = absurd (omega (arith, is))
only_sink endings.SinkFailed is = refl
only_sink endings.Want is = absurd (omega (arith, is))

-- the count of the sink stays, unless the status tells of it
pub still_by_status : (e : Ending) (before now : ℕ) → IsStill endings.SinkFailed e before now → (status e ≡ 6 → ⊥) → now ≡ before
still_by_status e before now (inl is) other = absurd (other (ap status is))
still_by_status e before now (inr same) other = same
