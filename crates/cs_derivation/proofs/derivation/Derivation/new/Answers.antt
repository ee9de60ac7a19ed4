use Rattle.std.proofs.Common.{sym, ◌∙◌, ap, map, []}
use Rattle.cs_certificate.specs.Terms.{parts_of}
use Rattle.cs_numbers.specs.Listed.{terms_in}
use Rattle.cs_numbers.specs.Numbering.{added, places}
use Rattle.cs_proof.specs.Views.{written}
use Rattle.cs_derivation.proofs.Starting.{is_new}
use Rattle.cs_derivation.proofs.derivation.Derivation.new.Goals as goal

pub returns : goal.returns
returns c = λ stack is sorted.
    is_new stack _ sorted (c.in_ok-terms.ensures ∙ ap (λ ts. added [] (parts_of ts)) (sym is)) (ap (λ cs. map (λ x. x.literals.items) cs) c.new-2.ensures.items) (ap (map written) c.new-3.ensures.items)
    c.in_ok-nodes.ensures (ap (places (terms_in c.in_ok-terms.terms)) is ∙ c.in_ok-roots.ensures)
