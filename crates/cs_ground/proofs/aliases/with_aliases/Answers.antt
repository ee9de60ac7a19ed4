use Rattle.std.proofs.Common.{sym, subst}
use Rattle.vx_terms.specs.Views.{term}
use Rattle.cs_derivation.specs.View.{reached}
use Rattle.cs_ground.specs.Steps.{NamesAliases}
use Rattle.cs_ground.proofs.Lists.{item_at}
use Rattle.cs_ground.proofs.Naming.{FirstOf}
use Rattle.cs_ground.proofs.Chosen.{no_aliases, aliases_next, aliases_all}
use Rattle.cs_ground.proofs.aliases.with_aliases.Goals as goal

pub loop-t-init : goal.loop-t-init
loop-t-init c = λ stack h k.
    let r = reached c.args.derivation in
    subst (λ xs. NamesAliases stack r r xs (FirstOf (λ x. term x.value) c.args.terms.now 0)) (sym c.new-aliases.ensures.items) (no_aliases (λ x. term x.value) c.args.terms.now stack r h)

pub loop-t-preserved : goal.loop-t-preserved
loop-t-preserved c = λ stack h k.
    aliases_next (λ x. term x.value) c.args.terms.now c.loop-t.t-index c.t-item.result stack (reached c.args.derivation) (reached c.loop-t.derivation) (reached c.in_ok-derivation.derivation) c.loop-t.aliases.items c.with_turned.new.aliases.items
    (item_at c.args.terms.now c.loop-t.t-index c.t-item.result c.loop-t-test.true c.t-item.is) k (c.loop-t.invariant stack h k) (c.in_ok-derivation.ensures stack)

pub returns : goal.returns
returns c = λ stack h k.
    aliases_all (λ x. term x.value) c.args.terms.now c.loop-t.t-index stack (reached c.args.derivation) (reached c.loop-t.derivation) c.loop-t.aliases.items c.loop-t-test.false (c.loop-t.invariant stack h k)
