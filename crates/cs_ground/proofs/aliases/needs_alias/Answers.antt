use Rattle.std.proofs.Common.{sym, ◌∙◌, ap, lt-ltb}
use Rattle.vx_terms.specs.Sorts.{BoolSort, same_sort}
use Rattle.vx_terms.specs.Terms.{sort_of}
use Rattle.vx_terms.specs.Views.{term}
use Rattle.cs_numbers.specs.Listed.{terms_in}
use Rattle.cs_numbers.specs.Numbering.{place}
use Rattle.cs_ground.proofs.Chosen.{not_bool, other_placed, other_before}
use Rattle.cs_ground.proofs.aliases.needs_alias.Goals as goal

pub returns-then-is_same : goal.returns-then-is_same
returns-then-is_same c = λ table is h.
    absurd (not_bool (terms_in c.args.terms.now) (term c.args.left.now.value) (term c.args.right.now.value) table h
    (ap (λ x. same_sort (sort_of (term x)) BoolSort) (sym c.deref.ensures) ∙ ap (λ s. same_sort s BoolSort) (sym c.in_ok-sort.ensures) ∙ sym c.is_same.ensures ∙ c.if-is_same.true))

pub returns-in-Some : goal.returns-in-Some
returns-in-Some c = λ table is h.
    lt-ltb c.in-Some.before c.in_ok-number.number
    (other_before (terms_in c.args.terms.now) (term c.args.left.now.value) (term c.args.right.now.value) table h (term c.in_ok-other.other.value) (term c.args.whole.now.value) c.in-Some.before c.in_ok-number.number c.in_ok-other.ensures is (sym c.in-Some.is ∙ c.in_ok-before.ensures) (ap (λ x. place (terms_in c.args.terms.now) (term x)) (sym c.deref-2.ensures) ∙ c.in_ok-number.ensures))

pub returns : goal.returns
returns c = λ table is h.
    absurd (other_placed (terms_in c.args.terms.now) (term c.args.left.now.value) (term c.args.right.now.value) table h (term c.in_ok-other.other.value) c.in_ok-other.ensures (sym c.in-None.is ∙ c.in_ok-before.ensures))
