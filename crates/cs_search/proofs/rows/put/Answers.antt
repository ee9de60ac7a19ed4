use Rattle.cs_search.proofs.Places.{put_grown}
use Rattle.cs_search.proofs.rows.put.Goals as goal

pub returns : goal.returns
returns c = put_grown c.args.rows.now.items c.reach.new.rows.items c.append.new.rows.items c.args.at c.args.number c.in_ok-reach.ensures.same c.in_ok-append.ensures
