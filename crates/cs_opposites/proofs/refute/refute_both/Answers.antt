use Rattle.std.proofs.Common.{rules, ◌≡◌, [], ◌∷◌, sym, subst}
use Rattle.vx_terms.specs.Terms.{Not}
use Rattle.vx_terms.specs.Views.{term}
use Rattle.cs_certificate.specs.Certificate.{Yes, No, At, Contains, Defines, not-0}
use Rattle.cs_derivation.specs.View.{reached}
use Rattle.cs_opposites.proofs.Gained.{weaker, both_hints, emptied}
use Rattle.cs_opposites.proofs.refute.refute_both.Goals as goal

pub returns-in_err-holds : goal.returns-in_err-holds
returns-in_err-holds c = λ stack is h t at not.
    let e = c.in_err-holds.ensures stack [] t h at in
    search rules

pub returns-in_err-negation : goal.returns-in_err-negation
returns-in_err-negation c = λ stack is h t at not.
    let f = c.in_ok-holds.ensures stack [] t h at in
    let e = c.in_err-negation.ensures stack _ (Not t) f.has not in
    search rules

pub returns-in_err-row : goal.returns-in_err-row
returns-in_err-row c = λ stack is h t at not.
    let f = c.in_ok-holds.ensures stack [] t h at in
    let g = c.in_ok-negation.ensures stack _ (Not t) f.has not in
    let same : term c.in_ok-t.t.now.value ≡ Not t = c.in_ok-t.ensures (Not t) (subst (λ ts. At ts c.args.denied (Not t)) is not) in
    let within : Contains stack.assertions (term c.in_ok-t.t.now.value) = (c.args.denied, subst (At stack.assertions c.args.denied) (sym same) not) in
    let e = c.in_err-row.ensures stack _ (No (Not t) ∷ No t ∷ []) g.has within (subst (λ x. Defines x 0 (No (Not t) ∷ No t ∷ [])) (sym same) (not-0 t)) in
    search rules

pub returns : goal.returns
returns c = λ stack is h t at not.
    let f = c.in_ok-holds.ensures stack [] t h at in
    let g = c.in_ok-negation.ensures stack _ (Not t) f.has not in
    let same : term c.in_ok-t.t.now.value ≡ Not t = c.in_ok-t.ensures (Not t) (subst (λ ts. At ts c.args.denied (Not t)) is not) in
    let within : Contains stack.assertions (term c.in_ok-t.t.now.value) = (c.args.denied, subst (At stack.assertions c.args.denied) (sym same) not) in
    let k = c.in_ok-row.ensures stack _ (No (Not t) ∷ No t ∷ []) g.has within (subst (λ x. Defines x 0 (No (Not t) ∷ No t ∷ [])) (sym same) (not-0 t)) in
    let by = both_hints stack t (reached c.input.new.derivation) (reached c.input-2.new.derivation) (reached c.first_row.new.derivation) c.in_ok-holds.holds c.in_ok-negation.negation c.in_ok-row.row f g k in
    let cs = (Yes t ∷ []) ∷ (Yes (Not t) ∷ []) ∷ (No (Not t) ∷ No t ∷ []) ∷ [] in
    weaker _ _ c.empty.result (λ u x. emptied stack cs (reached c.empty.new.derivation) x) (c.empty.ensures stack cs k.has by)
