use Rattle.std.proofs.Common.{◌≡◌, ◌∙◌, ◌++◌, ◌∷◌, ◌+◌, drop, map, ap, sym, append-nil}
use Rattle.std.proofs.lemmas.List.{drop_all}
use Rattle.vx_resolved.specs.Resolved as view
use Rattle.vx_ast.specs.Written.{written_clause}
use Rattle.vx_settling.specs.Names.{names_in}
use Rattle.vx_settling.specs.Parts.{required, ensured}
use Rattle.vx_settling.proofs.Loops.{left}
use Rattle.vx_settling.proofs.clauses.clauses.Goals as goal

pub loop-clause-preserved : goal.loop-clause-preserved
loop-clause-preserved c =
    let all = c.args.all.now in
    let names = names_in c.args.names.now in
    let k = c.loop-clause.clause-index in
    let item = c.clause-item.result in
    let next : drop k all ≡ item ∷ drop (k + 1) all = left all k item c.loop-clause-test.true c.clause-item.is in
    record {
      before =
          c.in_ok-add.ensures.requires_settled (map written_clause (drop (k + 1) all))
          ∙ ap (λ xs. view.assertions c.loop-clause.contract.preconditions.items ++ required names (map written_clause xs)) (sym next)
          ∙ c.loop-clause.invariant.before;
      after =
          c.in_ok-add.ensures.ensures_settled (map written_clause (drop (k + 1) all))
          ∙ ap (λ xs. view.assertions c.loop-clause.contract.postconditions.items ++ ensured names (map written_clause xs)) (sym next)
          ∙ c.loop-clause.invariant.after;
    }

pub returns-clause-requires_settled : goal.returns-clause-requires_settled
returns-clause-requires_settled c =
    let done = view.assertions c.loop-clause.contract.preconditions.items in
    sym (append-nil done)
    ∙ ap (λ xs. done ++ required (names_in c.args.names.now) (map written_clause xs)) (sym (drop_all _ c.args.all.now c.loop-clause-test.false))
    ∙ c.loop-clause.invariant.before

pub returns-clause-ensures_settled : goal.returns-clause-ensures_settled
returns-clause-ensures_settled c =
    let done = view.assertions c.loop-clause.contract.postconditions.items in
    sym (append-nil done)
    ∙ ap (λ xs. done ++ ensured (names_in c.args.names.now) (map written_clause xs)) (sym (drop_all _ c.args.all.now c.loop-clause-test.false))
    ∙ c.loop-clause.invariant.after
