use Rattle.vx_terms.specs.Views.{term}
use Rattle.cs_derivation.specs.View.{reached}
use Rattle.cs_ground.proofs.Lists.{item_at}
use Rattle.cs_ground.proofs.Naming.{names_first, others_next, others_all}
use Rattle.cs_ground.proofs.pairs.with_others.Goals as goal

pub loop-b-init : goal.loop-b-init
loop-b-init c = λ stack h k l. names_first (λ x. term x.value) c.args.others.now stack (reached c.args.derivation) (term c.args.a.now.value) h

pub loop-b-preserved : goal.loop-b-preserved
loop-b-preserved c = λ stack h k l.
    others_next (λ x. term x.value) c.args.others.now c.loop-b.b-index c.b-item.result stack (reached c.args.derivation) (reached c.loop-b.derivation) (reached c.in_ok-derivation.derivation) (term c.args.a.now.value) (item_at c.args.others.now c.loop-b.b-index c.b-item.result c.loop-b-test.true c.b-item.is) k l (c.loop-b.invariant stack h k l) (c.in_ok-derivation.ensures stack)

pub returns : goal.returns
returns c = λ stack h k l.
    others_all (λ x. term x.value) c.args.others.now c.loop-b.b-index stack (reached c.args.derivation) (reached c.loop-b.derivation) (term c.args.a.now.value) c.loop-b-test.false (c.loop-b.invariant stack h k l)
