use Rattle.std.proofs.Common.{◌&&◌, [], ◌∙◌, ap}
use Rattle.std.proofs.lemmas.List.{drop_all}
use Rattle.cs_certificate.specs.Terms.{NumberHead}
use Rattle.vx_terms.specs.Sorts.{same_text}
use Rattle.cs_certificate.specs.Nodes.{number_of}
use Rattle.cs_table.specs.Views.{nodes}
use Rattle.cs_table.proofs.Shifts.{further, at_first, at_end}
use Rattle.cs_table.proofs.numbers.see_numbers.Goals as goal

pub loop-node-init : goal.loop-node-init
loop-node-init c z far = at_first _

pub loop-node-preserved : goal.loop-node-preserved
loop-node-preserved c z far =
    c.loop-node.invariant z far
    ∙ further c.args.all.now (NumberHead z) [] c.loop-node.node-index c.node-item.result c.loop-node-test.true c.node-item.is (ap (λ b. b && same_text [] c.node-item.result.parts.items) (c.see_number.ensures z far))

pub returns : goal.returns
returns c z far =
    c.loop-node.invariant z far ∙ at_end c.loop-node.node-index _ (ap (λ ns. number_of (nodes ns) (NumberHead z) []) (drop_all _ c.args.all.now c.loop-node-test.false))
