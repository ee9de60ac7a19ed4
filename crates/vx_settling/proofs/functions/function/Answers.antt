use Rattle.std.proofs.Common.{◌∙◌, ap, map}
use Rattle.vx_ast.specs.declared.Expr as expr'
use Rattle.vx_ast.specs.Resolve as resolve
use Rattle.vx_ast.specs.Syntax.{IsFunction}
use Rattle.vx_resolved.specs.Resolved as view
use Rattle.vx_resolved.specs.declared.Function as declared
use Rattle.vx_ast.specs.Written.{ensures_of, measure_of, written_clause, written_declaration, written_expr}
use Rattle.vx_settling.specs.Names.{names_in}
use Rattle.vx_settling.specs.Parts.{required}
use Rattle.vx_settling.proofs.Methods.{same_function}
use Rattle.vx_settling.proofs.functions.function.Goals as goal

pub returns : goal.returns
returns c =
    let names = names_in c.args.names.now in
    ap (λ (m : declared.Function). IsFunction (view.function m)) c.in_ok-new.ensures.ok
    ∙ same_function c.args.place c.args.f.now.value_type _ _ _ _ _ _ _ _ _ _
    (c.in_ok-parameters.ensures names ∙ ap (λ ds. map (resolve.declaration names) (map written_declaration ds)) c.deref.ensures.value)
    (c.in_ok-preconditions.ensures ∙ ap (λ cs. required names (map written_clause cs)) c.deref-2.ensures.value)
    (c.in_ok-postconditions.ensures ∙ ap (λ cs. map resolve.expression (ensures_of (map written_clause cs))) c.deref-3.ensures.value)
    (c.in_ok-measure.ensures ∙ ap (λ cs. resolve.optional_measure names (measure_of (map written_clause cs))) c.deref-4.ensures.value)
    (c.in_ok-body.ensures ∙ ap (λ (e : expr'.Expr). resolve.expression (written_expr e)) c.deref-5.ensures)
