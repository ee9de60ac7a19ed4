use Rattle.std.proofs.Common.{rules, ◌≡◌, Some, ◌∙◌, sym, ap, subst}
use Rattle.vx_terms.specs.Views.{term}
use Rattle.cs_numbers.specs.Listed.{terms_in}
use Rattle.cs_numbers.specs.Numbering.{place}
use Rattle.cs_table.specs.Gives.{Fails}
use Rattle.cs_proof.specs.declared.checker.Want.{Want}
use Rattle.cs_derivation.specs.View.{reached}
use Rattle.cs_opposites.proofs.Gained.{took_row, never_row, never_missed}
use Rattle.cs_opposites.proofs.steps.first_row.Goals as goal

pub returns-in_err-number : goal.returns-in_err-number
returns-in_err-number c = λ stack cs d h within row.
    let all = c.args.derivation.now.terms in
    let t = term c.args.t.now.value in
    let same : place (terms_in c.terms.result.now) (term c.deref.result.now) ≡ place (terms_in all) t = ap (λ x. place (terms_in c.terms.result.now) (term x)) c.deref.ensures ∙ ap (λ ts. place (terms_in ts) t) c.terms.ensures in
    let e = never_missed stack cs (reached c.args.derivation.now) h t within c.in_err-number.field-0.0 (subst (Fails c.in_err-number.field-0.0) same c.in_err-number.ensures) in
    search rules

pub returns-in-Ok-Some : goal.returns-in-Ok-Some
returns-in-Ok-Some c = λ stack cs d h within row.
    let all = c.args.derivation.now.terms in
    let t = term c.args.t.now.value in
    let n = c.in_ok-number.number in
    let here : place (terms_in all) t ≡ Some n = ap (λ ts. place (terms_in ts) t) (sym c.terms.ensures) ∙ ap (λ x. place (terms_in c.terms.result.now) (term x)) (sym c.deref.ensures) ∙ c.in_ok-number.ensures in
    took_row stack cs (reached c.args.derivation.now) h n t here d row Want (reached c.define.new.self) c.in-Ok-Some.field-0 (c.in-Ok-Some.ensures stack h.stands) c.in-Ok-Some.number c.in-Ok-Some.field-0-is

pub returns-in-Ok-None : goal.returns-in-Ok-None
returns-in-Ok-None c = λ stack cs d h within row.
    let all = c.args.derivation.now.terms in
    let t = term c.args.t.now.value in
    let n = c.in_ok-number.number in
    let here : place (terms_in all) t ≡ Some n = ap (λ ts. place (terms_in ts) t) (sym c.terms.ensures) ∙ ap (λ x. place (terms_in c.terms.result.now) (term x)) (sym c.deref.ensures) ∙ c.in_ok-number.ensures in
    absurd (never_row stack cs (reached c.args.derivation.now) h n t here d row Want (reached c.define.new.self) c.in-Ok-None.field-0 (c.in-Ok-None.ensures stack h.stands) c.in-Ok-None.field-0-is)
