use Rattle.cs_search.proofs.Places.{without_last}
use Rattle.cs_search.proofs.rows.leave_out.Goals as goal

pub returns : goal.returns
returns c = without_last c.pop.new.self.items c.args.list.now.items c.write.new.list.items c.args.k c.in-Some.last c.in-Some.ensures.items c.write.ensures c.requires
