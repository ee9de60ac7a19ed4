use Rattle.std.proofs.Common.{◌≡◌, refl, sym, ◌∙◌, ap, ap₂, arith}
use Rattle.std.proofs.lemmas.Result.{IfOk-weaker}
use Rattle.vx_resolved.specs.Resolved.{kind, member, optional_block, method, block}
use Rattle.vx_resolved.specs.Settled.{settled}
use Rattle.vx_resolved.specs.declared.Method.{Method as Method'}
use Rattle.vx_resolved.specs.declared.Block.{Block as Block'}
use Rattle.vx_run.specs.Drawn.{drawn}
use Rattle.vx_run.specs.Means.{IsDrawn}
use Rattle.vx_run.specs.Views.{outcome}
use Rattle.vx_run.proofs.Bodied.{no_member, no_method, no_body, by_body}
use Rattle.vx_run.proofs.run.run_whole.Goals as goal

pub returns-then-method-len : goal.returns-then-method-len
returns-then-method-len c = λ m b h. no_member (settled c.args.program.now) c.args.method m b h (let a = c.len.ensures in let b = c.if-method-len.true in omega (a, b, arith))

pub returns-in-Field : goal.returns-in-Field
returns-in-Field c = λ m b h. no_method (settled c.args.program.now) c.args.method m b h (member c.member.result.now) c.member.ensures _ (ap kind c.in-Field.is) refl

pub returns-in-Predicate : goal.returns-in-Predicate
returns-in-Predicate c = λ m b h. no_method (settled c.args.program.now) c.args.method m b h (member c.member.result.now) c.member.ensures _ (ap kind c.in-Predicate.is) refl

pub returns-in-Function : goal.returns-in-Function
returns-in-Function c = λ m b h. no_method (settled c.args.program.now) c.args.method m b h (member c.member.result.now) c.member.ensures _ (ap kind c.in-Function.is) refl

pub returns-in-None : goal.returns-in-None
returns-in-None c = λ m b h.
    no_body (settled c.args.program.now) c.args.method m b h (member c.member.result.now) c.member.ensures (method c.in-Method.m.value) (ap kind c.in-Method.is)
    (ap (λ (f : Method'). optional_block f.body) (sym c.deref.ensures) ∙ ap optional_block c.in-None.is)

pub returns-in-Some : goal.returns-in-Some
returns-in-Some c =
    let p = settled c.args.program.now in
    let n = c.args.method in
    let seed = c.args.seed in
    let steps = c.args.steps in
    IfOk-weaker c.run_method.result (λ w. outcome w ≡ drawn p (method c.deref-in-Some.result.now) (block c.deref-in-Some-2.result.now) seed steps) (IsDrawn p n seed steps)
    (λ w e m b h. by_body p n m b h (member c.member.result.now) c.member.ensures (method c.in-Method.m.value) (ap kind c.in-Method.is) (block c.in-Some.body.value) seed steps (outcome w)
    (ap (λ (f : Method'). optional_block f.body) (sym c.deref.ensures) ∙ ap optional_block c.in-Some.is)
    (e ∙ ap₂ (λ (f : Method') (a : Block'). drawn p (method f) (block a) seed steps) c.deref-in-Some.ensures c.deref-in-Some-2.ensures))
    c.run_method.ensures
