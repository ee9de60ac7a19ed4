use Rattle.std.proofs.Common.{◌∙◌}
use Rattle.cs_search.proofs.Rounds.{latest_found, latest_over}
use Rattle.cs_search.proofs.search.latest.Goals as goal

pub returns-clause-some : goal.returns-clause-some
returns-clause-some c =
    let t = c.args.search.now.made.trail in
    latest_found t.items c.last_decision.result c.len.result (c.len.ensures ∙ t.ok.0) (latest_over t.items _ c.len.result c.last_decision.result c.deref.ensures.value c.last_decision.ensures)
