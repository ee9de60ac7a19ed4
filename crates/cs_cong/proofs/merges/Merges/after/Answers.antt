use Rattle.cs_cong.proofs.Walks.{after_moved, after_stays}
use Rattle.cs_cong.proofs.merges.Merges.after.Goals as goal

pub returns-then-link-when : goal.returns-then-link-when
returns-then-link-when c =
    let s = c.args.self.now in
    let m = after_moved s.log.items s.links.items s.tree c.args.at c.args.when c.index-link.result.now c.requires.within c.index-link.ensures c.if-link-when.true c.requires.stays c.requires.some in
    record { within = m.0; value = m.1; rests = m.2 }

pub returns-else-link-when : goal.returns-else-link-when
returns-else-link-when c =
    let s = c.args.self.now in
    let m = after_stays s.log.items s.links.items s.tree c.args.at c.args.when c.index-link.result.now c.requires.within c.index-link.ensures c.if-link-when.false in
    record { within = c.requires.within; value = m.0; rests = m.1 }
