use Rattle.cs_cong.proofs.Walks.{walk_leads}
use Rattle.cs_cong.proofs.laws.walks_lead.Goals as goal

pub returns : goal.returns
returns c = walk_leads
