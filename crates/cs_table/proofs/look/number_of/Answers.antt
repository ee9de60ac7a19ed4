use Rattle.std.proofs.Common.{get_or, sym, ◌∙◌, ap}
use Rattle.std.proofs.lemmas.List.{drop_all}
use Rattle.cs_index.specs.Found.{found, passes_at}
use Rattle.cs_index.specs.Under.{under}
use Rattle.cs_index.proofs.Indexed.{found_here}
use Rattle.cs_certificate.specs.Nodes.{is_node}
use Rattle.cs_table.specs.Table.{nodes_in}
use Rattle.cs_table.specs.Views.{head, nodes}
use Rattle.cs_table.proofs.Looked.{looked_up}
use Rattle.cs_table.proofs.look.number_of.Goals as goal

pub loop-number-init : goal.loop-number-init
loop-number-init c =
    ap (found (is_node (head c.args.of.now) c.args.parts.now) (nodes_in c.args.all.now)) (c.under-number-items.ensures ∙ ap (under c.args.all.now.index) c.key_over.ensures)
    ∙ looked_up (nodes_in c.args.all.now) c.args.all.now.index (head c.args.of.now) c.args.parts.now c.args.all.now.indexed

pub returns-then-is_at : goal.returns-then-is_at
returns-then-is_at c =
    sym (found_here (is_node (head c.args.of.now) c.args.parts.now) (nodes_in c.args.all.now) c.under-number-items.result.now c.loop-number.number-index c.loop-number-test.true (ap (λ ns. passes_at (is_node (head c.args.of.now) c.args.parts.now) (nodes ns) (get_or c.under-number-items.result.now c.loop-number.number-index 0)) (sym c.deref.ensures.value) ∙ sym c.is_at.ensures ∙ c.if-is_at.true))
    ∙ c.loop-number.invariant

pub returns : goal.returns
returns c =
    sym (ap (found (is_node (head c.args.of.now) c.args.parts.now) (nodes_in c.args.all.now)) (drop_all _ c.under-number-items.result.now c.loop-number-test.false))
    ∙ c.loop-number.invariant
