use Rattle.std.proofs.lemmas.List.{drop_all}
use Rattle.std.proofs.Common.{◌+◌, drop, map, sym, ◌∙◌, ap}
use Rattle.vx_terms.specs.Views.{term}
use Rattle.cs_certificate.specs.Terms.{parts_of}
use Rattle.cs_numbers.specs.Listed.{terms_in}
use Rattle.cs_numbers.specs.Numbering.{added}
use Rattle.cs_numbers.proofs.Walks.{one_more}
use Rattle.cs_numbers.proofs.adding.number.Goals as goal

pub loop-assertion-preserved : goal.loop-assertion-preserved
loop-assertion-preserved c =
    c.loop-assertion.invariant
    ∙ one_more (λ x. term x.value) c.args.assertions.now c.loop-assertion.assertion-index c.assertion-item.result c.loop-assertion-test.true c.assertion-item.is (terms_in c.loop-assertion.all)
    ∙ ap (λ ts. added ts (parts_of (map (λ x. term x.value) (drop (c.loop-assertion.assertion-index + 1) c.args.assertions.now)))) (sym c.in_ok-add.ensures)

pub returns : goal.returns
returns c = sym (c.loop-assertion.invariant ∙ ap (λ xs. added (terms_in c.loop-assertion.all) (parts_of (map (λ x. term x.value) xs))) (drop_all c.loop-assertion.assertion-index c.args.assertions.now c.loop-assertion-test.false))
