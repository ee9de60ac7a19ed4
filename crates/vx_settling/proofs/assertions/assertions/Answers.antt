use Rattle.std.proofs.Common.{◌∙◌, ◌++◌, ◌∷◌, ◌+◌, ap, sym, drop, append-nil}
use Rattle.std.proofs.lemmas.List.{drop_all}
use Rattle.vx_ast.specs.Resolve.{assertion, assertions}
use Rattle.vx_ast.specs.Written.{written_all, written_expr}
use Rattle.vx_resolved.specs.Resolved as view
use Rattle.vx_settling.specs.Names.{names_in}
use Rattle.vx_settling.proofs.Loops.{left}
use Rattle.vx_settling.proofs.assertions.assertions.Goals as goal

pub loop-e-preserved : goal.loop-e-preserved
loop-e-preserved c =
    let names = names_in c.args.names.now in
    let all = c.args.all.now in
    let k = c.loop-e.e-index in
    let done = view.assertions c.loop-e.done.items in
    let behind = assertions names (written_all (drop (k + 1) all)) in
    c.in_ok-add_assertion.ensures behind
    ∙ ap (λ e. done ++ assertion names (written_expr e) ∷ behind) c.deref.ensures
    ∙ ap (λ es. done ++ assertions names (written_all es)) (sym (left all k c.e-item.result c.loop-e-test.true c.e-item.is))
    ∙ c.loop-e.invariant

pub returns : goal.returns
returns c =
    let done = view.assertions c.loop-e.done.items in
    sym (append-nil done)
    ∙ ap (λ es. done ++ assertions (names_in c.args.names.now) (written_all es)) (sym (drop_all _ c.args.all.now c.loop-e-test.false))
    ∙ c.loop-e.invariant
