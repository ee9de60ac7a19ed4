use Rattle.std.proofs.Common.{◌∙◌, ap, map}
use Rattle.vx_ast.specs.Resolve as resolve
use Rattle.vx_ast.specs.Syntax.{IsMethod}
use Rattle.vx_resolved.specs.Resolved as view
use Rattle.vx_resolved.specs.declared.Method as declared
use Rattle.vx_ast.specs.Written.{written_clause, written_declaration}
use Rattle.vx_settling.specs.Names.{names_in}
use Rattle.vx_settling.specs.Parts.{required, ensured}
use Rattle.vx_settling.proofs.Methods.{same_method}
use Rattle.vx_settling.proofs.members.method.Goals as goal

pub returns : goal.returns
returns c =
    let names = names_in c.args.names.now in
    ap (λ (m : declared.Method). IsMethod (view.method m)) c.in_ok-new.ensures.ok
    ∙ same_method c.args.place _ _ _ _ _ _ _ _ _ _
    (c.in_ok-parameters.ensures names ∙ ap (λ ds. map (resolve.declaration names) (map written_declaration ds)) c.deref.ensures.value)
    (c.in_ok-returns.ensures names ∙ ap (λ ds. map (resolve.declaration names) (map written_declaration ds)) c.deref-2.ensures.value)
    (c.in_ok-contract.ensures.requires_settled ∙ ap (λ cs. required names (map written_clause cs)) c.deref-3.ensures.value)
    (c.in_ok-contract.ensures.ensures_settled ∙ ap (λ cs. ensured names (map written_clause cs)) c.deref-3.ensures.value)
    c.in_ok-body.ensures
