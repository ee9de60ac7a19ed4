use Rattle.std.proofs.Common.{◌∙◌, ◌++◌, ◌+◌, ap, sym, drop, map, append-nil}
use Rattle.std.proofs.lemmas.List.{drop_all}
use Rattle.vx_ast.specs.Resolve.{expression}
use Rattle.vx_ast.specs.Written.{ensures_of, written_clause}
use Rattle.vx_resolved.specs.Resolved as view
use Rattle.vx_settling.proofs.Loops.{left}
use Rattle.vx_settling.proofs.functions.promises.Goals as goal

pub loop-clause-preserved : goal.loop-clause-preserved
loop-clause-preserved c =
    let all = c.args.all.now in
    let k = c.loop-clause.clause-index in
    c.in_ok-add_promise.ensures (map written_clause (drop (k + 1) all))
    ∙ ap (λ cs. view.expressions c.loop-clause.promises.items ++ map expression (ensures_of (map written_clause cs))) (sym (left all k c.clause-item.result c.loop-clause-test.true c.clause-item.is))
    ∙ c.loop-clause.invariant

pub returns : goal.returns
returns c =
    let done = view.expressions c.loop-clause.promises.items in
    sym (append-nil done)
    ∙ ap (λ cs. done ++ map expression (ensures_of (map written_clause cs))) (sym (drop_all _ c.args.all.now c.loop-clause-test.false))
    ∙ c.loop-clause.invariant
