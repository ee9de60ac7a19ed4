use Rattle.std.proofs.Common.{rules, ◌≡◌, false, [], ◌∷◌, sym, subst}
use Rattle.vx_terms.specs.Terms.{Truth}
use Rattle.vx_terms.specs.Views.{term}
use Rattle.cs_certificate.specs.Certificate.{Yes, No, At, Contains, Defines, false-is}
use Rattle.cs_derivation.specs.View.{reached}
use Rattle.cs_opposites.proofs.Gained.{weaker, false_hints, emptied}
use Rattle.cs_opposites.proofs.refute.refute_false.Goals as goal

pub returns-in_err-holds : goal.returns-in_err-holds
returns-in_err-holds c = λ stack is h at.
    let e = c.in_err-holds.ensures stack [] (Truth false) h at in
    search rules

pub returns-in_err-row : goal.returns-in_err-row
returns-in_err-row c = λ stack is h at.
    let g = c.in_ok-holds.ensures stack [] (Truth false) h at in
    let same : term c.in_ok-t.t.now.value ≡ Truth false = c.in_ok-t.ensures (Truth false) (subst (λ ts. At ts c.args.place (Truth false)) is at) in
    let within : Contains stack.assertions (term c.in_ok-t.t.now.value) = (c.args.place, subst (At stack.assertions c.args.place) (sym same) at) in
    let e = c.in_err-row.ensures stack _ (No (Truth false) ∷ []) g.has within (subst (λ x. Defines x 0 (No (Truth false) ∷ [])) (sym same) false-is) in
    search rules

pub returns : goal.returns
returns c = λ stack is h at.
    let g = c.in_ok-holds.ensures stack [] (Truth false) h at in
    let same : term c.in_ok-t.t.now.value ≡ Truth false = c.in_ok-t.ensures (Truth false) (subst (λ ts. At ts c.args.place (Truth false)) is at) in
    let within : Contains stack.assertions (term c.in_ok-t.t.now.value) = (c.args.place, subst (At stack.assertions c.args.place) (sym same) at) in
    let k = c.in_ok-row.ensures stack _ (No (Truth false) ∷ []) g.has within (subst (λ x. Defines x 0 (No (Truth false) ∷ [])) (sym same) false-is) in
    let by = false_hints stack (reached c.input.new.derivation) (reached c.first_row.new.derivation) c.in_ok-holds.holds c.in_ok-row.row g k in
    let cs = (Yes (Truth false) ∷ []) ∷ (No (Truth false) ∷ []) ∷ [] in
    weaker _ _ c.empty.result (λ u x. emptied stack cs (reached c.empty.new.derivation) x) (c.empty.ensures stack cs k.has by)
