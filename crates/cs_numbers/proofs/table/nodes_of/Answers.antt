use Rattle.std.proofs.Common.{◌≡◌, ◌<◌, ◌+◌, ◌∷◌, ◌++◌, [], rules, drop, length, sym, ◌∙◌, ap, subst}
use Rattle.std.proofs.lemmas.List.{length-map, map-append}
use Rattle.vx_terms.specs.Views.{term}
use Rattle.cs_table.specs.Views.{node, nodes}
use Rattle.cs_table.specs.Gives.{Fails}
use Rattle.cs_numbers.specs.Listed.{terms_in}
use Rattle.cs_numbers.specs.Numbering.{nodes_of, nodes_after}
use Rattle.cs_numbers.proofs.Ahead.{one_node, failed}
use Rattle.cs_numbers.proofs.table.nodes_of.Goals as goal

pub loop-number-preserved : goal.loop-number-preserved
loop-number-preserved c =
    let all = terms_in c.args.all.now in
    let old = c.loop-number.nodes.items in
    let more : nodes c.push.new.self.items ≡ nodes old ++ node c.in_ok-node_at.field-0 ∷ [] = ap nodes c.in_ok-push.ensures.items ∙ map-append node old (c.in_ok-node_at.field-0 ∷ []) in
    ap (λ ns. nodes_after ns all (drop (c.loop-number.number + 1) all)) more
    ∙ sym (one_node (nodes old) all c.loop-number.number (node c.in_ok-node_at.field-0) c.in_ok-node_at.ensures)
    ∙ c.loop-number.invariant

pub returns-in_err-node_at : goal.returns-in_err-node_at
returns-in_err-node_at c =
    let all = terms_in c.args.all.now in
    let stop = c.in_err-node_at.field-0.0 in
    let count : c.len-number-end.result ≡ length c.args.all.now.terms.items = search rules in
    let lt : c.loop-number.number < length all = subst (λ n. c.loop-number.number < n) (count ∙ sym (length-map c.args.all.now.terms.items (λ x. term x.value))) c.loop-number-test.true in
    let fails : Fails stop (nodes_of all all) = subst (Fails stop) c.loop-number.invariant (failed stop (nodes c.loop-number.nodes.items) all c.loop-number.number lt c.in_err-node_at.ensures) in
    search (rules, fails)
