use Rattle.std.proofs.Common.{◌∙◌, ◌++◌, ◌∷◌, [], List, ap, map, refl}
use Rattle.std.proofs.lemmas.List.{drop_all}
use Rattle.vx_ast.specs.declared.Name as declared
use Rattle.vx_ast.specs.Written.{Name, name_of}
use Rattle.vx_expressions.specs.Views.{table, listed}
use Rattle.vx_expressions.proofs.Fails.{passed}
use Rattle.vx_statements.specs.StatementFaults.{fields, new_field}
use Rattle.vx_statements.proofs.Loops.{goes_on, ends}
use Rattle.vx_statements.proofs.stmt.fields.Goals as goal

pub loop-f-preserved : goal.loop-f-preserved
loop-f-preserved c =
    let members = table c.args.members.now.entries in
    goes_on (λ (b : List Name) (fs : List declared.Name). fields members b (map name_of fs)) (λ b f. new_field members b (name_of f)) (λ b f. b ++ (name_of f).name ∷ []) (λ b f fs. refl)
    c.args.fs.now c.loop-f.f-index c.f-item.result (listed c.loop-f.names.keys) _ _ _ c.loop-f-test.true c.f-item.is c.in_ok-new_field.ensures.first c.in_ok-new_field.ensures.added c.loop-f.invariant

pub returns-in_err-new_field : goal.returns-in_err-new_field
returns-in_err-new_field c =
    let members = table c.args.members.now.entries in
    let f = c.in_err-new_field.field-0.0 in
    passed (λ x. tt {0}) c.from_residual.result f _ c.from_residual.ensures.1
    (ends (λ (b : List Name) (fs : List declared.Name). fields members b (map name_of fs)) (λ b f. new_field members b (name_of f)) (λ b f. b ++ (name_of f).name ∷ []) (λ b f fs. refl)
    c.args.fs.now c.loop-f.f-index c.f-item.result (listed c.loop-f.names.keys) _ f c.loop-f-test.true c.f-item.is c.in_err-new_field.ensures.first c.loop-f.invariant)

pub returns : goal.returns
returns c =
    c.loop-f.invariant
    ∙ ap (λ fs. fields (table c.args.members.now.entries) (listed c.loop-f.names.keys) (map name_of fs)) (drop_all _ c.args.fs.now c.loop-f-test.false)
