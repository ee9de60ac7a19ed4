use Rattle.std.proofs.Common.{rules, ◌<◌, length, take, ap, ◌∙◌}
use Rattle.vx_dialogue.specs.declared.standing.Sent.{Sent}
use Rattle.vx_dialogue.specs.Standing.{entries_of}
use Rattle.vx_dialogue.proofs.Counted.{front_of, back_sound}
use Rattle.vx_dialogue.proofs.standing.Standing.back_to.Goals as goal

pub returns-then-count-len-clause-path : goal.returns-then-count-len-clause-path
returns-then-count-len-clause-path c = ap entries_of c.truncate.ensures.items ∙ front_of c.args.count c.args.self.now.sent.items

pub returns-then-count-len-clause-sound : goal.returns-then-count-len-clause-sound
returns-then-count-len-clause-sound c =
    let below : c.args.count < length c.args.self.now.sent.items = search rules in
    back_sound c.args.self.now _ c.args.count c.index.result.now below c.truncate.ensures.items
    (c.back_to.ensures ∙ ap (λ (s : Sent). take s.before c.args.self.now.declared) c.index.ensures) c.requires
