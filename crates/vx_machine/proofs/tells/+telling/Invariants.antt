use Rattle.std.proofs.Common.{◌≡◌, ◌+◌, ◌*◌, ◌++◌}
use Rattle.vx_heap.specs.Views.{terms_of}
use Rattle.vx_machine.specs.Told.{leaves_below, nodes_below, said_by}
use Rattle.vx_resolved.specs.Settled.{settled}
use Rattle.vx_rules.specs.Rules.{gathered}
use Rattle.vx_rules.specs.Trees.{leaves}
use Rattle.vx_stack.specs.Stack.{side_tree}
use Rattle.vx_states.specs.SymStates.{state}
use Rattle.vx_machine.proofs.tells.+telling.Given as goal

-- what was gathered, and what the sides that wait leave, is what the start leaves
abbrev pub invariant-gather-loop-side : goal.invariant-gather-loop-side
invariant-gather-loop-side l =
    terms_of l.facts.items ++ gathered (state l.before) (said_by l.said) (leaves_below (settled l.program) l.conts.sides.items) ≡ gathered (state l.before) (said_by l.said) (leaves (side_tree (settled l.program) l.fn.start))

abbrev pub decreases-gather-loop-side : goal.decreases-gather-loop-side
decreases-gather-loop-side l = nodes_below (settled l.program) l.conts.sides.items

abbrev pub decreases-with_equations : goal.decreases-with_equations
decreases-with_equations l = 7 * l.levels

abbrev pub decreases-tell : goal.decreases-tell
decreases-tell l = 7 * l.levels + 1

abbrev pub decreases-step_quietly : goal.decreases-step_quietly
decreases-step_quietly l = 7 * l.levels + 2

abbrev pub decreases-gather : goal.decreases-gather
decreases-gather l = 7 * l.levels + 3

abbrev pub decreases-with_sides : goal.decreases-with_sides
decreases-with_sides l = 7 * l.levels + 4

abbrev pub decreases-with_body : goal.decreases-with_body
decreases-with_body l = 7 * l.levels + 5

abbrev pub decreases-with_promise : goal.decreases-with_promise
decreases-with_promise l = 7 * l.levels + 5
