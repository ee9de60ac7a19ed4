use Rattle.std.proofs.Common.{◌≡◌, ◌+◌, ◌∙◌, suc, ap, sym, true, false, arith}
use Rattle.vx_terms.specs.Build.{zero_amount}
use Rattle.vx_terms.specs.Terms.{same}
use Rattle.vx_terms.specs.Views.{term}
use Rattle.vx_heap.specs.Heaps.{emptied_from}
use Rattle.vx_heap.specs.Views.{chunk, heap}
use Rattle.vx_heap.proofs.Heaps.{emptied_gone, emptied_past}
use Rattle.vx_heap.proofs.heap.SymHeap.drop_at.Goals as goal

pub returns-then-is_zero-clause-same : goal.returns-then-is_zero-clause-same
returns-then-is_zero-clause-same c =
    let at = c.args.at in
    let here = chunk c.chunk.result.now in
    let none : same here.amount zero_amount ≡ true = ap (λ t. same (term t) zero_amount) (sym c.deref.ensures) ∙ sym c.is_zero.ensures ∙ c.if-is_zero.true in
    ap (emptied_from at) c.take-gone.ensures.rest ∙ emptied_gone at (heap c.args.self.now) here c.chunk.ensures none

pub returns-clause-same : goal.returns-clause-same
returns-clause-same c =
    let at = c.args.at in
    let here = chunk c.chunk.result.now in
    let some : same here.amount zero_amount ≡ false = ap (λ t. same (term t) zero_amount) (sym c.deref.ensures) ∙ sym c.is_zero.ensures ∙ c.if-is_zero.false in
    let next : at + 1 ≡ suc at = omega arith in
    ap (λ n. emptied_from n (heap c.args.self.now)) next ∙ emptied_past at (heap c.args.self.now) here c.chunk.ensures some
