use Rattle.std.proofs.Common.{sym, ◌∙◌, ap₂}
use Rattle.vx_terms.specs.Views.{term}
use Rattle.cs_derivation.specs.View.{reached}
use Rattle.cs_ground.specs.Steps.{have_one_sort}
use Rattle.cs_ground.proofs.Naming.{names_no_equality, equality_named}
use Rattle.cs_ground.proofs.pairs.with_equality.Goals as goal

pub returns-then-not-branch : goal.returns-then-not-branch
returns-then-not-branch c = λ stack h k l.
    names_no_equality stack (reached c.args.derivation) (term c.args.a.now.value) (term c.args.b.now.value) h
    (ap₂ (λ a b. have_one_sort (term a) (term b)) (sym c.deref.ensures) (sym c.deref-2.ensures) ∙ sym c.in_ok-have_one_sort.ensures ∙ c.if-not-branch.true)

pub returns : goal.returns
returns c = λ stack h k l.
    equality_named stack (reached c.args.derivation) (reached c.in_ok-derivation.derivation) (term c.args.a.now.value) (term c.args.b.now.value) (term c.in_ok-equality.equality.value) c.in_ok-derivation._number c.in_ok-equality.ensures h k l
    (ap₂ (λ a b. have_one_sort (term a) (term b)) (sym c.deref.ensures) (sym c.deref-2.ensures) ∙ sym c.in_ok-have_one_sort.ensures ∙ c.if-not-branch.false)
    (c.in_ok-derivation.ensures stack)
