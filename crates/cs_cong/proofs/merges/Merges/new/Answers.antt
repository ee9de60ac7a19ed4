use Rattle.std.proofs.Common.{List, sym, subst, arith}
use Rattle.cs_cong.specs.declared.merges.Merge.{Merge}
use Rattle.cs_cong.specs.Trees.{IsTree}
use Rattle.cs_cong.proofs.Trees.{no_tree, links_more}
use Rattle.cs_cong.proofs.merges.Merges.new.Goals as goal

pub invariant_of-result-clause-tree : goal.invariant_of-result-clause-tree
invariant_of-result-clause-tree c =
    subst (λ (log : List Merge). IsTree log c.loop-term.links.items) (sym c.new.ensures.items)
    (no_tree c.loop-term.links.items (λ a lt. c.loop-term.invariant.1 a (omega (arith, lt, c.loop-term.invariant.0))))

pub loop-term-preserved : goal.loop-term-preserved
loop-term-preserved c = links_more c.loop-term.links.items c.push.new.self.items c.loop-term.term c.loop-term.invariant.0 c.loop-term.invariant.1 c.in_ok-push.ensures.items
