use Rattle.std.proofs.Common.{rules, ◌≡◌, ap, refl, ◌∙◌}
use Rattle.vx_ends.proofs.Cuts.{cut_sent, cut_none}
use Rattle.vx_ends.specs.Cuts.{cut_last}
use Rattle.vx_ends.specs.declared.piece.Piece.TheVariants.{Sent}
use Rattle.vx_edge.proofs.child.ChildLinkLink.send.Goals as goal

pub returns-then-count-gt0-clause-record : goal.returns-then-count-gt0-clause-record
returns-then-count-gt0-clause-record c =
    let count : c.unwrap_or.result ≡ c.in-Ok.count = rw (c.unwrap_or.ensures, c.in-Ok.is) refl in
    let cut : c.cut_last.new.self ≡ cut_last c.in-Ok.count c.push_sent.new.self = c.cut_last.ensures ∙ ap (cut_last c.unwrap_or.result) c.put-put.ensures.pieces ∙ ap (λ n. cut_last n c.push_sent.new.self) count in
    (search rules, search rules, cut_sent c.in-Ok.count c.args.self.now.pieces c.push_sent.new.self c.cut_last.new.self c.args.piece.now (search rules) cut (search rules))

pub returns-clause-record : goal.returns-clause-record
returns-clause-record c =
    let none : c.unwrap_or.result ≡ 0 = rw (c.unwrap_or.ensures, c.in-Ok.is) (search rules) in
    let cut : c.cut_last.new.self ≡ cut_last c.unwrap_or.result c.push_sent.new.self = c.cut_last.ensures ∙ ap (cut_last c.unwrap_or.result) c.put-put.ensures.pieces in
    cut_none c.unwrap_or.result c.args.self.now.pieces c.push_sent.new.self c.cut_last.new.self (Sent c.args.piece.now) (search rules) cut none

pub returns-in_default-clause-record : goal.returns-in_default-clause-record
returns-in_default-clause-record c =
    let none : c.unwrap_or.result ≡ 0 = rw (c.unwrap_or.ensures, c.in_default.is) refl in
    let cut : c.cut_last.new.self ≡ cut_last c.unwrap_or.result c.push_sent.new.self = c.cut_last.ensures ∙ ap (cut_last c.unwrap_or.result) c.put-put.ensures.pieces in
    cut_none c.unwrap_or.result c.args.self.now.pieces c.push_sent.new.self c.cut_last.new.self (Sent c.args.piece.now) (search rules) cut none
