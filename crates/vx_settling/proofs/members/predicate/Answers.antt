use Rattle.std.proofs.Common.{◌∙◌, ap, map}
use Rattle.vx_ast.specs.Resolve as resolve
use Rattle.vx_ast.specs.Syntax.{IsPredicate}
use Rattle.vx_resolved.specs.Resolved as view
use Rattle.vx_resolved.specs.declared.Predicate as declared
use Rattle.vx_ast.specs.Written.{written_declaration}
use Rattle.vx_settling.specs.Names.{names_in}
use Rattle.vx_settling.proofs.Methods.{same_predicate}
use Rattle.vx_settling.proofs.members.predicate.Goals as goal

pub returns : goal.returns
returns c =
    let names = names_in c.args.names.now in
    ap (λ (m : declared.Predicate). IsPredicate (view.predicate m)) c.in_ok-new.ensures.ok
    ∙ same_predicate c.args.place _ _ _ _
    (c.in_ok-parameters.ensures names ∙ ap (λ ds. map (resolve.declaration names) (map written_declaration ds)) c.deref.ensures.value)
    c.in_ok-body.ensures
