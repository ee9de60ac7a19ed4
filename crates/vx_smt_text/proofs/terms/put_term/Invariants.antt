use Rattle.std.proofs.Common.{◌≡◌, ◌++◌}
use Rattle.vx_terms.specs.Views.{term}
use Rattle.vx_smt_text.specs.Text.{term_text}
use Rattle.vx_smt_text.specs.Small.{IsSmallTerm}
use Rattle.vx_smt_text.specs.Pending.{texts, load, ArePendingSmall}
use Rattle.vx_smt_text.proofs.terms.put_term.Given as goal

-- what is written and what is pending are the whole; its numbers fit where those of what is pending do
abbrev pub invariant-loop-next : goal.invariant-loop-next
invariant-loop-next l = (l.text.items ++ texts l.pending.items ≡ l.fn.text.items ++ term_text (term l.t)) × (ArePendingSmall l.pending.items → IsSmallTerm (term l.t))

abbrev pub decreases-loop-next : goal.decreases-loop-next
decreases-loop-next l = load l.pending.items
