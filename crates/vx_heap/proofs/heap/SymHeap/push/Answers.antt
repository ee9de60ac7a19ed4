use Rattle.std.proofs.Common.{map, ap, ap₂, sym, ◌∙◌, ◌≡◌, nat_eq, length, arith}
use Rattle.std.proofs.lemmas.Grind.{common_steps}
use Rattle.vx_heap.specs.Names.{name}
use Rattle.vx_heap.specs.Places.{places, row, row_of, under, with_number}
use Rattle.vx_heap.proofs.Listed.{listed_more, heap_more}
use Rattle.vx_heap.proofs.heap.SymHeap.push.Goals as goal

pub invariant_of-self-in-Ok : goal.invariant_of-self-in-Ok
invariant_of-self-in-Ok c =
    let items = c.args.self.now.chunks.items in
    let rows = c.args.self.now.rows in
    let end : c.len-number.result ≡ length items = omega (arith, c.len-number.ensures, c.args.self.now.chunks.ok.0) in
    record {
      listed = λ k.
          listed_more items c.args.chunk rows c.add.new.self c.args.self.now.listed
          (λ j. c.in-Ok.ensures.ok j ∙ ap₂ (λ r n. with_number (nat_eq r j) (under rows j) n) (c.row-row.ensures ∙ ap (λ y. row_of (name y.resource)) c.deref.ensures) end) k
          ∙ ap (λ l. places k 0 (map row l)) (sym c.in_ok-push.ensures.items);
    }

pub invariant_of-self-in-Err : goal.invariant_of-self-in-Err
invariant_of-self-in-Err c = grind (arith, common_steps)

pub returns-in-Ok-clause-ok : goal.returns-in-Ok-clause-ok
returns-in-Ok-clause-ok c = grind (arith, heap_more)

pub returns-in-Err-clause-err : goal.returns-in-Err-clause-err
returns-in-Err-clause-err c = grind (arith, common_steps)
