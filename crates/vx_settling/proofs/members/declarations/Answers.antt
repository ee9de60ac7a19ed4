use Rattle.std.proofs.Common.{◌∙◌, ap, map}
use Rattle.std.proofs.lemmas.List.{take_all}
use Rattle.vx_ast.specs.Resolve as resolve
use Rattle.vx_resolved.specs.Resolved as view
use Rattle.vx_ast.specs.Written.{written_declaration}
use Rattle.vx_settling.proofs.Loops.{one_more}
use Rattle.vx_settling.proofs.members.declarations.Goals as goal

pub loop-d-preserved : goal.loop-d-preserved
loop-d-preserved c = λ names. ap (map view.declaration) c.in_ok-push.ensures.items
    ∙ one_more view.declaration (resolve.declaration names) written_declaration c.loop-d.settled.items c.in_ok-declaration.field-0 c.args.all.now c.loop-d.d-index c.d-item.result
    c.loop-d-test.true c.d-item.is (c.in_ok-declaration.ensures names) (c.loop-d.invariant names)

pub returns : goal.returns
returns c = λ names.
    c.loop-d.invariant names ∙ ap (λ ds. map (resolve.declaration names) (map written_declaration ds)) (take_all c.loop-d.d-index c.args.all.now c.loop-d-test.false)
