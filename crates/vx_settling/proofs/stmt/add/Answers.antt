use Rattle.std.proofs.Common.{◌∙◌, ap}
use Rattle.vx_resolved.specs.Resolved as view
use Rattle.vx_settling.specs.Parts.{onto, stmts}
use Rattle.vx_settling.proofs.Statements.{onto_last, stmts_last}
use Rattle.vx_settling.proofs.stmt.add.Goals as goal

pub returns : goal.returns
returns c =
    let old = c.args.block.now.items in
    λ rest.
    ap (λ ss. onto ss rest) (ap stmts c.in_ok-push.ensures.items ∙ stmts_last old c.args.s) ∙ onto_last (stmts old) (view.stmt c.args.s.value) rest
