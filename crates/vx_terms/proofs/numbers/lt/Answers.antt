use Rattle.std.proofs.Common.{◌≡◌, ◌∙◌, true, sym, ap₂}
use Rattle.vx_terms.specs.Terms.{same}
use Rattle.vx_terms.specs.Views.{term}
use Rattle.vx_terms.proofs.numbers.lt.Goals as goal

pub returns-then-is_same : goal.returns-then-is_same
returns-then-is_same c =
    let e : same (term c.args.s.now.value) (term c.args.t.now.value) ≡ true = ap₂ (λ x y. same (term x) (term y)) (sym c.deref.ensures) (sym c.deref-2.ensures) ∙ sym c.is_same.ensures ∙ c.if-is_same.true in
    rw e c.boolean.ensures
