use Rattle.std.proofs.Common.{◌++◌, ap, ◌∙◌}
use Rattle.vx_edge.proofs.Aheads.{reads_on}
use Rattle.vx_edge.proofs.ahead.Ahead.read.Goals as goal

pub returns-clause-more : goal.returns-clause-more
returns-clause-more g c =
    let buffer = c.read_behind-count.new.buffer.items in
    let on = reads_on c.self.inside.from c.self.inside.to c.read_behind-count.result c.self.inside.buffer.items buffer c.self.invariant.0 c.self.invariant.1 c.read_behind-count.ensures.kept in
    (on.0, on.1 ∙ ap (λ l. l ++ on.0) c.self.view_is)
