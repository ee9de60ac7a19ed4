use Rattle.std.proofs.Common.{rules, ◌≡◌, ◌≤◌, ◌++◌, ◌∷◌, [], false, ap, ◌∙◌, sym, subst}
use Rattle.std.proofs.lemmas.List.{append-nil}
use Rattle.std.proofs.Math.Logic.{∥∥₁_map}
use Rattle.vx_ends.specs.Dialogue.{sent, got}
use Rattle.vx_ends.specs.declared.piece.Piece.TheVariants.{Sent}
use Rattle.vx_ends.proofs.Dialogues.{sent_by_sent, got_by_sent}
use Rattle.vx_sexp.specs.Finished.{finished}
use Rattle.cs_session.specs.Answering.{Answering, given}
use Rattle.cs_session.specs.Views.{state}
use Rattle.vx_companion.specs.Companion.{KeepsUp, HasReplied}
use Rattle.vx_companion.proofs.Replies.{answered_on, replies_all, by_companion}
use Rattle.vx_companion.proofs.builtin.CompanionLinkLink.send.Goals as goal

pub invariant_of-self-2 : goal.invariant_of-self-2
invariant_of-self-2 c =
    let old = c.args.self.now in
    let new = c.push_sent.new.self in
    let piece = c.args.piece.now in
    let rest = c.in_ok-rest.rest.now in
    let replies = c.reply_all.new.replies.items in
    let session = c.reply_all.new.session in
    let known = old.causes.items in
    let causes = known ++ c.reply_all.new.causes.items in
    let all = sent old.pieces ++ piece in
    let pieces : new ≡ old.pieces ++ Sent piece ∷ [] = search rules in
    let bytes : c.deref.result.now ≡ old.unread.items ++ piece = search rules in
    let kept : c.in_ok-self.field-0.items ≡ rest = search rules in
    let told : c.append.new.self.items ≡ causes = search rules in
    let none_yet : known ++ c.new-causes.result.items ≡ known = ap (λ x. known ++ x) c.new-causes.ensures.items ∙ append-nil known in
    let fresh : old.is_spent ≡ false = search rules in
    let sent_on : sent new ≡ all = sent_by_sent old.pieces new piece pieces in
    let got_on : got new ≡ got old.pieces = got_by_sent old.pieces new piece pieces in
    let before : KeepsUp all c.deref.result.now (got old.pieces ++ old.replies.items) =
    rw bytes (answered_on (sent old.pieces) old.unread.items (got old.pieces ++ old.replies.items) piece (old.keeps_up fresh)) in
    let now : KeepsUp all rest (got old.pieces ++ replies) = c.in_ok-rest.ensures.keeps_up all (got old.pieces) before in
    let owed : finished (sent new) ≤ finished (got new ++ replies) =
    rw (sent_on, got_on) (replies_all all rest (got old.pieces ++ replies) c.in_ok-rest.ensures.none_left now) in
    let replied : ∥ HasReplied new replies rest causes (state session) ∥₁ =
    ∥∥₁_map (old.replied fresh) (λ h. record {
      answering = rw (sent_on, got_on) (c.in_ok-rest.ensures.answering all (got old.pieces) known
          (subst (λ x. Answering all (got old.pieces ++ old.replies.items) c.deref.result.now x (state old.session)) (sym none_yet)
          (subst (λ x. Answering all (got old.pieces ++ old.replies.items) x known (state old.session)) (sym bytes) (given piece h.answering))));
      none_left = c.in_ok-rest.ensures.none_left;
    }) in
    record {
      owed = λ again. owed;
      keeps_up = λ again. rw (sent_on, got_on, kept) now;
      replied = λ again. rw (kept, told) replied;
      right = rw told (∥∥₁_map replied (λ h. by_companion h));
    }

-- ---- where memory runs out

pub invariant_of-self-in-Break-branch-4 : goal.invariant_of-self-in-Break-branch-4
invariant_of-self-in-Break-branch-4 c =
    let old = c.args.self.now in
    record { owed = λ fresh. absurd (cc); keeps_up = λ fresh. absurd (cc); replied = λ fresh. absurd (cc); right = rw c.reserve.ensures.items old.right }

pub invariant_of-self-in-Break-branch-5 : goal.invariant_of-self-in-Break-branch-5
invariant_of-self-in-Break-branch-5 c =
    let old = c.args.self.now in
    let same : c.push_sent.new.self ≡ old.pieces = search rules in
    record { owed = λ fresh. absurd (cc); keeps_up = λ fresh. absurd (cc); replied = λ fresh. absurd (cc); right = rw (same, c.reserve.ensures.items) old.right }
