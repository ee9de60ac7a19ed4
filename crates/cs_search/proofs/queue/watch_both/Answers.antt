use Rattle.std.proofs.Common.{◌∙◌, length}
use Rattle.cs_search.proofs.Queues.{entered_at}
use Rattle.cs_search.proofs.queue.watch_both.Goals as goal

pub returns-clause-rows : goal.returns-clause-rows
returns-clause-rows c =
    let q = c.args.queue.now in
    entered_at q.rows.items c.put.new.rows.items c.put-2.new.rows.items (length q.watches.items) c.len-number.result c.slot.result c.slot-2.result c.args.pair (c.len-number.ensures ∙ q.watches.ok.0) c.slot.ensures c.slot-2.ensures c.in_ok-put.ensures c.in_ok-put-2.ensures
