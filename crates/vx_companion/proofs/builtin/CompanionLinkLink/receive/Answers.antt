use Rattle.std.proofs.Common.{rules, ◌≡◌, ◌++◌, ◌∷◌, [], false}
use Rattle.std.proofs.Math.Logic.{∥∥₁_map}
use Rattle.vx_ends.specs.Dialogue.{sent, got}
use Rattle.vx_ends.specs.declared.piece.Piece.TheVariants.{Got}
use Rattle.vx_ends.proofs.Dialogues.{sent_by_got}
use Rattle.cs_session.specs.Views.{state}
use Rattle.vx_companion.specs.Companion.{HasReplied}
use Rattle.vx_companion.proofs.Replies.{after_got, replied_on, by_companion}
use Rattle.vx_companion.proofs.builtin.CompanionLinkLink.receive.Goals as goal

pub invariant_of-self-2 : goal.invariant_of-self-2
invariant_of-self-2 c =
    let old = c.args.self.now in
    let new = c.push_got.new.self in
    let front = c.split_at.result.0.now in
    let back = c.in_ok-rest.rest.items in
    let pieces : new ≡ old.pieces ++ Got front ∷ [] = search rules in
    let replies : old.replies.items ≡ front ++ back = search rules in
    let sent_same : sent new ≡ sent old.pieces = sent_by_got old.pieces new front pieces in
    let same : got new ++ back ≡ got old.pieces ++ old.replies.items = after_got old.pieces new old.replies.items front back pieces replies in
    let fresh : old.is_spent ≡ false = search rules in
    let replied : ∥ HasReplied new back old.unread.items old.causes.items (state old.session) ∥₁ =
    ∥∥₁_map (old.replied fresh) (λ h. replied_on old.pieces new old.replies.items back old.unread.items old.causes.items (state old.session) sent_same same h) in
    record {
      owed = λ again. rw (sent_same, same) (old.owed again);
      keeps_up = λ again. rw (sent_same, same) (old.keeps_up again);
      replied = λ again. replied;
      right = ∥∥₁_map replied (λ h. by_companion h);
    }

pub invariant_of-self-in-Break-branch-3 : goal.invariant_of-self-in-Break-branch-3
invariant_of-self-in-Break-branch-3 c =
    let old = c.args.self.now in
    let same : c.push_got.new.self ≡ old.pieces = search rules in
    record {
      owed = λ fresh. rw same (old.owed fresh);
      keeps_up = λ fresh. rw same (old.keeps_up fresh);
      replied = λ fresh. rw same (old.replied fresh);
      right = rw same old.right;
    }
