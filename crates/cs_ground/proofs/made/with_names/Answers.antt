use Rattle.std.proofs.Common.{◌≡◌, map, sym, ◌∙◌, ap, subst}
use Rattle.std.proofs.lemmas.Result.{IfOk-weaker}
use Rattle.vx_terms.specs.Views.{term}
use Rattle.cs_certificate.specs.Certificate.{Contains}
use Rattle.cs_numbers.specs.Listed.{terms_in}
use Rattle.cs_derivation.specs.View.{reached}
use Rattle.cs_ground.specs.Steps.{NamesPairs, NamesAliases, AllIn}
use Rattle.cs_ground.proofs.Chosen.{names_all}
use Rattle.cs_ground.proofs.Naming.{still_named}
use Rattle.cs_ground.proofs.made.with_names.Goals as goal

pub returns : goal.returns
returns c = λ stack h.
    let r = reached c.args.derivation in
    let q = reached c.in_ok-derivation.derivation in
    let copies = c.in_ok-firsts.ensures ∙ ap (map (λ x. term x.value)) c.deref.ensures.value ∙ ap terms_in c.terms.ensures in
    let first : map (λ x. term x.value) c.deref-2.result.now ≡ r.terms = ap (map (λ x. term x.value)) c.deref-2.ensures.value ∙ copies in
    let second : map (λ x. term x.value) c.deref-3.result.now ≡ r.terms = ap (map (λ x. term x.value)) c.deref-3.ensures.value ∙ copies in
    let pairs = subst (NamesPairs stack r q) first (c.in_ok-derivation.ensures stack h (subst (AllIn r.terms) (sym first) (λ t w. w))) in
    IfOk-weaker c.with_aliases.result _ _
    (λ x k. names_all stack r q (reached x.0) x.1.items pairs (subst (λ ts. NamesAliases stack q (reached x.0) x.1.items (Contains ts)) second k))
    (c.with_aliases.ensures stack (pairs.more).naming (subst (AllIn q.terms) (sym second) (λ t w. still_named stack r q t pairs.more w)))
