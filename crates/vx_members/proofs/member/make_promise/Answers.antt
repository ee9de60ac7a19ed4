use Rattle.std.proofs.Common.{◌≡◌, refl, ap, ◌∙◌}
use Rattle.vx_ast.specs.Syntax.{joined}
use Rattle.vx_resolved.specs.Resolved.{assertion, assertions}
use Rattle.vx_members.proofs.member.make_promise.Goals as goal

pub returns : goal.returns
returns c =
    let m = c.args.m.now in
    let a : assertion c.in_ok-all.all.value ≡ joined m.place (assertions m.postconditions.items) = c.in_ok-all.ensures ∙ ap (λ l. joined m.place (assertions l)) c.deref.ensures.value in
    rw (a, c.in_ok-state.ensures, c.in_ok-finish.ensures.ok, c.in_ok-production.ensures.scale, c.in_ok-production.ensures.snapshot) refl
