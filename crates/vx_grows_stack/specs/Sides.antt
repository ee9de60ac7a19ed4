-- Sides whose paths only grow.
use Rattle.vx_ast.specs.Syntax.{Program}
use Rattle.vx_rules.specs.States.{path_terms}
use Rattle.vx_states.specs.SymStates.{state}
use Rattle.vx_stack.specs.declared.frame.Side.{Side}
use Rattle.vx_stack.specs.Stack.{side_tree}
use Rattle.vx_grows.specs.Grows.{Grows}

-- for each side, whatever it does next
abbrev pub SidesGrow : Type 0
SidesGrow = (p : Program) (a : Side) → Grows (path_terms (state a.state).path) (side_tree p a)
