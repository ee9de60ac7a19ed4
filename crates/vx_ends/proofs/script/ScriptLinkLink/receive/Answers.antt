use Rattle.std.proofs.Common.{rules, ◌≡◌, ◌∙◌, [], ◌∷◌, ◌++◌, length-append}
use Rattle.vx_ends.specs.declared.piece.Piece.TheVariants.{Got}
use Rattle.vx_ends.proofs.Dialogues.{sent_by_got, got_by_got}
use Rattle.vx_ends.proofs.script.ScriptLinkLink.receive.Goals as goal

pub invariant_of-self-2 : goal.invariant_of-self-2
invariant_of-self-2 c =
    let old = c.self.inside.pieces in
    let new = c.push_got.new.self in
    let pieces_are : new ≡ old ++ Got c.in_ok-piece.piece.items ∷ [] = search rules in
    let sent_now = sent_by_got old new c.in_ok-piece.piece.items pieces_are in
    let got_now = got_by_got old new c.in_ok-piece.piece.items pieces_are in
    (sent_now ∙ c.self.invariant.0, rw (got_now, length-append, c.self.invariant.1) (search rules))
