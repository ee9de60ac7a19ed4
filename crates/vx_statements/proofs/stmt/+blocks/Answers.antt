use Rattle.std.proofs.Common.{◌∙◌, List, ap, sym, subst, refl}
use Rattle.std.proofs.lemmas.List.{drop_all}
use Rattle.vx_ast.specs.declared.Stmt as declared
use Rattle.vx_expressions.specs.Scopes.{Scope}
use Rattle.vx_statements.specs.Statements.{scope_after}
use Rattle.vx_statements.proofs.Loops.{goes_on, ends}
use Rattle.vx_expressions.specs.Gives.{Gives}
use Rattle.vx_statements.specs.StatementFaults.{block, stmt}
use Rattle.vx_expressions.specs.Views.{table, known}
use Rattle.vx_ast.specs.Written.{written_list, written_stmt}
use Rattle.vx_statements.proofs.Blocks.{grows, left}
use Rattle.vx_ast.proofs.Rows.{rows}
use Rattle.vx_expressions.proofs.Fails.{passed}
use Rattle.vx_statements.proofs.stmt.+blocks.Goals as goal

pub block-returns-in_err-statements-clause-first : goal.block-returns-in_err-statements-clause-first
block-returns-in_err-statements-clause-first t c =
    let walk = block (table c.args.members.now.entries) (known c.args.variables.now.entries) in
    subst (Gives (λ x. tt {0}) c.from_residual.result) (ap walk (ap written_list c.deref.ensures.value ∙ sym (rows c.args.b.now)))
    (passed (λ x. tt {0}) c.from_residual.result c.in_err-statements.field-0.0 _ c.from_residual.ensures.1 c.in_err-statements.ensures.first)

pub block-returns-clause-first : goal.block-returns-clause-first
block-returns-clause-first t c =
    let walk = block (table c.args.members.now.entries) (known c.args.variables.now.entries) in
    ap walk (rows c.args.b.now ∙ ap written_list (sym c.deref.ensures.value)) ∙ c.in_ok-statements.ensures.first

pub block-returns-clause-after : goal.block-returns-clause-after
block-returns-clause-after t c =
    ap known c.truncate.ensures.entries ∙ left c.args.variables.now.entries c.statements.new.variables.entries c.len-kept.result c.len-kept.ensures.len c.in_ok-statements.ensures.kept

pub statements-loop-s-preserved : goal.statements-loop-s-preserved
statements-loop-s-preserved t c =
    let members = table c.args.members.now.entries in
    let s = c.s-item.result in
    let before = known c.loop-s.variables.entries in
    record {
      walk =
          goes_on (λ (b : Scope) (ss : List declared.Stmt). block members b (written_list ss)) (λ b s. stmt members b (written_stmt s.place s.kind)) (λ b s. scope_after (written_stmt s.place s.kind) b) (λ b s ss. refl)
          c.args.all.now c.loop-s.s-index s before _ _ _ c.loop-s-test.true c.s-item.is c.in_ok-statement.ensures.first c.in_ok-statement.ensures.after c.loop-s.invariant.walk;
      kept = grows (written_stmt s.place s.kind) _ before _ c.loop-s.invariant.kept c.in_ok-statement.ensures.after;
    }

pub statements-returns-in_err-statement-clause-first : goal.statements-returns-in_err-statement-clause-first
statements-returns-in_err-statement-clause-first t c =
    let members = table c.args.members.now.entries in
    let f = c.in_err-statement.field-0.0 in
    passed (λ x. tt {0}) c.from_residual.result f _ c.from_residual.ensures.1
    (ends (λ (b : Scope) (ss : List declared.Stmt). block members b (written_list ss)) (λ b s. stmt members b (written_stmt s.place s.kind)) (λ b s. scope_after (written_stmt s.place s.kind) b) (λ b s ss. refl)
    c.args.all.now c.loop-s.s-index c.s-item.result (known c.loop-s.variables.entries) _ f c.loop-s-test.true c.s-item.is c.in_err-statement.ensures.first c.loop-s.invariant.walk)

pub statements-returns-clause-first : goal.statements-returns-clause-first
statements-returns-clause-first t c =
    c.loop-s.invariant.walk
    ∙ ap (λ ss. block (table c.args.members.now.entries) (known c.loop-s.variables.entries) (written_list ss)) (drop_all _ c.args.all.now c.loop-s-test.false)
