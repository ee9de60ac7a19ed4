use Rattle.std.proofs.lemmas.List.{map-set}
use Rattle.vx_heap.specs.Views.{shared}
use Rattle.vx_heap.proofs.heap.SymHeap.replace.Goals as goal

pub returns-then-row-clause-ok : goal.returns-then-row-clause-ok
returns-then-row-clause-ok c = map-set shared c.args.self.now.chunks.items c.args.at c.args.chunk
