use Rattle.cs_search.proofs.Places.{put_in}
use Rattle.cs_search.proofs.rows.append.Goals as goal

pub returns : goal.returns
returns c = put_in c.args.rows.now.items c.args.at c.args.number c.index_mut.result.now c.push.new.self c.requires c.index_mut.ensures.value c.in_ok-push.ensures.items
