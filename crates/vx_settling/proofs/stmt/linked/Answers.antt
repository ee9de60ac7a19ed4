use Rattle.std.proofs.Common.{◌∙◌, sym, ap}
use Rattle.vx_resolved.specs.Resolved as view
use Rattle.vx_settling.specs.Parts.{onto, stmts}
use Rattle.vx_settling.proofs.Statements.{onto_last, stmts_last}
use Rattle.vx_settling.proofs.stmt.linked.Goals as goal

pub loop-s-preserved : goal.loop-s-preserved
loop-s-preserved c =
    let left = c.pop.new.self.items in
    let b = view.block c.loop-s.block.value in
    ap (onto (stmts left)) c.in_ok-block-2.ensures
    ∙ sym (onto_last (stmts left) (view.stmt c.in-Some.s.value) b)
    ∙ ap (λ ss. onto ss b) (sym (stmts_last left c.in-Some.s) ∙ ap stmts (sym c.in-Some.ensures.items))
    ∙ c.loop-s.invariant
