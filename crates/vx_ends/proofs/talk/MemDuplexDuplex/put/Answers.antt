use Rattle.std.proofs.Common.{rules, Some, ◌≡◌, ◌++◌, ◌∷◌, [], length, refl, ap}
use Rattle.vx_ends.proofs.Talks.{sent_whole, talk_whole}
use Rattle.vx_ends.specs.declared.piece.Piece.TheVariants.{Sent}
use Rattle.vx_ends.proofs.talk.MemDuplexDuplex.put.Goals as goal

pub returns-in-Ok-clause-taken : goal.returns-in-Ok-clause-taken
returns-in-Ok-clause-taken c =
    let old = c.args.self.now.dialogue in
    let new = c.push_sent.new.self in
    let bytes = c.args.piece.now in
    let is : new ≡ old ++ Sent bytes ∷ [] = search rules in
    ap Some (sent_whole old new bytes (length bytes) is refl)

pub returns-in-Ok-clause-dialogue : goal.returns-in-Ok-clause-dialogue
returns-in-Ok-clause-dialogue c =
    let old = c.args.self.now.dialogue in
    let new = c.push_sent.new.self in
    let bytes = c.args.piece.now in
    let is : new ≡ old ++ Sent bytes ∷ [] = search rules in
    talk_whole old new bytes (length bytes) is refl
