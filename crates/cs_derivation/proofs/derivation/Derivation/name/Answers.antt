use Rattle.std.proofs.Common.{sym, ap, ◌∙◌, drop, map}
use Rattle.std.proofs.lemmas.List.{length-map}
use Rattle.vx_terms.specs.Views.{term}
use Rattle.cs_numbers.specs.Listed.{terms_in}
use Rattle.cs_numbers.specs.Numbering.{place, nodes_after}
use Rattle.cs_table.specs.Table.{nodes_in}
use Rattle.cs_proof.specs.Views.{written}
use Rattle.cs_derivation.specs.View.{reached}
use Rattle.cs_derivation.proofs.NewTerms.{is_named}
use Rattle.cs_derivation.proofs.derivation.Derivation.name.Goals as goal

pub returns : goal.returns
returns c = λ stack stands sorted live writable.
    let all = terms_in c.add.new.all in
    is_named stack (reached c.args.self) stands (term c.args.t.now.value) sorted live writable (terms_in c.add.new.all) (nodes_in c.extend.new.all) c.in_ok-add.ensures
    (ap (λ n. nodes_after (nodes_in c.args.self.nodes) all (drop n all)) (length-map c.args.self.nodes.nodes.items _) ∙ c.in_ok-extend.ensures.value)
    (map written c.push_term.new.steps.items) c.in_ok-number.number c.in_ok-push_term.ensures (ap (λ t. place all (term t)) (sym c.deref.ensures) ∙ c.in_ok-number.ensures)
