use Rattle.std.proofs.Common.{sym, ◌∙◌, ap, subst}
use Rattle.vx_terms.specs.Views.{term}
use Rattle.cs_derivation.specs.View.{reached}
use Rattle.cs_ground.specs.Steps.{NamesTurned}
use Rattle.cs_ground.proofs.Chosen.{sides_are, alias_more}
use Rattle.cs_ground.proofs.aliases.with_turned.Goals as goal

pub returns-in-Ok : goal.returns-in-Ok
returns-in-Ok c = λ stack h k.
    let t = term c.args.t.now.value in
    let b = term c.in-Some.left.now.value in
    let a = term c.in-Some.right.now.value in
    let r = reached c.args.derivation in
    let q = reached c.in_ok-derivation.derivation in
    let is = ap term (sym c.deref.ensures) ∙ sides_are (term c.deref.result.now) b a c.in-Some.ensures in
    subst (λ xs. NamesTurned stack r q c.args.aliases.now.items xs t) (sym c.in-Ok.ensures.items)
    (alias_more stack r q c.args.aliases.now.items c.in_ok-derivation.alias t b a is (c.in_ok-derivation.ensures stack h k is))
