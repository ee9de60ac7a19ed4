use Rattle.std.proofs.Common.{map}
use Rattle.vx_segments.specs.Views.{entry}
use Rattle.vx_dialogue.specs.Bases.{path_behind}
use Rattle.vx_dialogue.specs.Dialogue.{shared, scope_of}
use Rattle.vx_dialogue.proofs.Lists.{if_ok_map}
use Rattle.vx_dialogue.proofs.Explained.{if_err_map}
use Rattle.vx_dialogue.proofs.dialogue.Dialogue.ask.Goals as goal

pub returns-clause-reply : goal.returns-clause-reply
returns-clause-reply g c =
    if_ok_map c.take.result _ _ (λ reply taken. λ certify functions turns checks stands.
    taken certify functions turns (path_behind c.args.base (scope_of c.args.self.now) (map entry c.args.path.now)) (shared c.args.condition.now) checks (c.in_ok-post.ensures.asks certify functions turns checks stands))
    c.take.ensures.reply

pub returns-clause-fault : goal.returns-clause-fault
returns-clause-fault g c =
    if_err_map c.take.result _ _ (λ talk broken. λ certify functions turns checks stands named.
    broken certify functions turns (path_behind c.args.base (scope_of c.args.self.now) (map entry c.args.path.now)) (shared c.args.condition.now) checks (c.in_ok-post.ensures.asks certify functions turns checks stands) named)
    c.take.ensures.fault

pub returns-clause-steady : goal.returns-clause-steady
returns-clause-steady g c = λ steady certify functions turns checks stands named.
    c.take.ensures.steady (c.post.ensures.steady steady certify functions turns checks stands named) certify functions turns (path_behind c.args.base (scope_of c.args.self.now) (map entry c.args.path.now)) (shared c.args.condition.now) checks
    (c.in_ok-post.ensures.asks certify functions turns checks stands) named
