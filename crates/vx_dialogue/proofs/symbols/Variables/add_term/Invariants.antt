use Rattle.std.proofs.Common.{◌≡◌}
use Rattle.vx_terms.specs.Views.{term}
use Rattle.vx_dialogue.specs.Symbols.{with_variables}
use Rattle.vx_dialogue.specs.Pending.{with_pending, load}
use Rattle.vx_dialogue.proofs.symbols.Variables.add_term.Given as goal

-- with what is pending the symbols are those of the whole
abbrev pub invariant-loop-next : goal.invariant-loop-next
invariant-loop-next l = with_pending l.self l.pending.items ≡ with_variables l.fn.self (term l.t)

abbrev pub decreases-loop-next : goal.decreases-loop-next
decreases-loop-next l = load l.pending.items
