use Rattle.std.proofs.Common.{◌≡◌, ◌<◌, ◌+◌, ◌∷◌, ◌++◌, [], rules, drop, length, sym, ◌∙◌, ap, subst, arith}
use Rattle.std.proofs.lemmas.List.{length-map, length-append, map-append}
use Rattle.vx_terms.specs.Views.{term}
use Rattle.cs_table.specs.Views.{node, nodes}
use Rattle.cs_table.specs.Table.{nodes_in}
use Rattle.cs_table.specs.Gives.{Fails}
use Rattle.cs_numbers.specs.Listed.{terms_in}
use Rattle.cs_numbers.specs.Numbering.{nodes_after}
use Rattle.cs_numbers.proofs.Ahead.{one_node, failed}
use Rattle.cs_numbers.proofs.extending.extend.Goals as goal

pub loop-number-preserved : goal.loop-number-preserved
loop-number-preserved c =
    let all = terms_in c.args.terms.now in
    let old = c.loop-number.all.nodes.items in
    let more : nodes_in c.push.new.self ≡ nodes_in c.loop-number.all ++ node c.in_ok-node.node ∷ [] = ap nodes c.in_ok-push.ensures.pushed ∙ map-append node old (c.in_ok-node.node ∷ []) in
    let longer : length c.push.new.self.nodes.items ≡ length old + 1 = ap length c.in_ok-push.ensures.pushed ∙ length-append old (c.in_ok-node.node ∷ []) in
    record {
      value =
          ap (λ ns. nodes_after ns all (drop (c.loop-number.number + 1) all)) more
          ∙ sym (one_node (nodes_in c.loop-number.all) all c.loop-number.number (node c.in_ok-node.node) c.in_ok-node.ensures)
          ∙ c.loop-number.invariant.value;
      grown = (let a = c.loop-number.invariant.grown in omega (arith, a, longer));
    }

pub returns-in_err-node-clause-value : goal.returns-in_err-node-clause-value
returns-in_err-node-clause-value c =
    let all = terms_in c.args.terms.now in
    let stop = c.in_err-node.field-0.0 in
    let count : c.len-number-end.result ≡ length c.args.terms.now.terms.items = search rules in
    let lt : c.loop-number.number < length all = subst (λ n. c.loop-number.number < n) (count ∙ sym (length-map c.args.terms.now.terms.items (λ x. term x.value))) c.loop-number-test.true in
    let fails : Fails stop (nodes_after (nodes_in c.args.all.now) all (drop (length c.args.all.now.nodes.items) all)) = subst (Fails stop) c.loop-number.invariant.value (failed stop (nodes_in c.loop-number.all) all c.loop-number.number lt c.in_err-node.ensures) in
    search (rules, fails)
