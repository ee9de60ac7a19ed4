use Rattle.std.proofs.Common.{◌≡◌, Some, subst}
use Rattle.vx_terms.specs.Views.{term}
use Rattle.cs_certificate.specs.Certificate.{Contains}
use Rattle.cs_numbers.specs.Listed.{terms_in}
use Rattle.cs_numbers.specs.Numbering.{place}
use Rattle.cs_derivation.specs.View.{reached}
use Rattle.cs_ground.specs.Steps.{IsFresh}
use Rattle.cs_ground.proofs.Chosen.{alias_made}
use Rattle.cs_ground.proofs.aliases.with_alias.Goals as goal

pub returns : goal.returns
returns c = λ stack h here is.
    let b = term c.args.left.now.value in
    let a = term c.args.right.now.value in
    let x = c.in_ok-alias.alias in
    alias_made stack (reached c.args.derivation) (reached c.in_ok-derivation.derivation) (reached c.in_ok-derivation-2.derivation)
    (term c.args.whole.now.value) b a (term c.in_ok-choice.choice.value) (term c.in_ok-same.same.value) (term c.in_ok-turned.turned.value) (term c.in_ok-joined.joined.value) c.in_ok-derivation._number c.in_ok-derivation-2._number x h here is
    (subst (λ ts. Contains (terms_in ts) b → IsFresh (terms_in ts) b (term c.in_ok-choice.choice.value)) c.terms.ensures c.in_ok-choice.ensures)
    c.in_ok-same.ensures c.in_ok-turned.ensures c.in_ok-joined.ensures (c.in_ok-derivation.ensures stack) (c.in_ok-derivation-2.ensures stack)
    (subst (λ ts. place (terms_in ts) (term c.args.whole.now.value) ≡ Some x.whole) c.terms-2.ensures c.in_ok-alias.ensures.whole)
    (subst (λ ts. place (terms_in ts) b ≡ Some x.left) c.terms-2.ensures c.in_ok-alias.ensures.left)
    (subst (λ ts. place (terms_in ts) a ≡ Some x.right) c.terms-2.ensures c.in_ok-alias.ensures.right)
    (subst (λ ts. place (terms_in ts) (term c.in_ok-choice.choice.value) ≡ Some x.choice) c.terms-2.ensures c.in_ok-alias.ensures.choice)
    (subst (λ ts. place (terms_in ts) (term c.in_ok-turned.turned.value) ≡ Some x.equality) c.terms-2.ensures c.in_ok-alias.ensures.equality)
