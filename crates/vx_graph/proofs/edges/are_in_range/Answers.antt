use Rattle.std.proofs.Common.{arith}
use Rattle.std.proofs.lemmas.Grind.{elements}
use Rattle.vx_graph.proofs.edges.are_in_range.Goals as goal

pub returns : goal.returns
returns c = grind (arith, elements)
