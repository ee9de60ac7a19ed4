use Rattle.std.proofs.Common.{map, ap, sym, ◌∙◌, arith}
use Rattle.std.proofs.lemmas.List.{length-map}
use Rattle.vx_heap.specs.Places.{places, row}
use Rattle.vx_heap.specs.Views.{shared}
use Rattle.vx_heap.proofs.Heaps.{element_at, without_map}
use Rattle.vx_heap.proofs.Listed.{listed_without}
use Rattle.vx_heap.proofs.heap.SymHeap.take.Goals as goal

pub invariant_of-self : goal.invariant_of-self
invariant_of-self c = record {
  listed = λ k.
      listed_without c.args.self.now.chunks.items c.args.at c.args.self.now.rows c.close_up.new.self c.args.self.now.listed c.close_up.ensures k
      ∙ ap (λ l. places k 0 (map row l)) (sym c.remove-chunk.ensures.items);
}

pub returns-clause-chunk : goal.returns-clause-chunk
returns-clause-chunk c =
    let items = c.args.self.now.chunks.items in
    element_at shared items c.args.at c.remove-chunk.result (omega (arith, c.requires, length-map items shared)) c.remove-chunk.ensures.value

pub returns-clause-rest : goal.returns-clause-rest
returns-clause-rest c = ap (map shared) c.remove-chunk.ensures.items ∙ without_map shared c.args.at c.args.self.now.chunks.items
