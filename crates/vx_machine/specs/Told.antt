-- What a side comes to, and what the sides of a quiet evaluation leave.
use Rattle.std.specs.Prelude.{◌≡◌, ℕ, ◌+◌, ◌<◌, true, List, [], ◌∷◌, ◌++◌}
use Rattle.std.specs.Prelude.{string_bytes}
use Rattle.vx_ast.specs.Syntax.{Program}
use Rattle.vx_heap.specs.Views.{held_term}
use Rattle.vx_machine.specs.declared.ready.Ready.{Ready}
use Rattle.vx_machine.specs.declared.ready.Ready.TheVariants as ready'
use Rattle.vx_machine.specs.declared.tells.Said.{Said}
use Rattle.vx_machine.specs.declared.tells.Said.TheVariants as said'
use Rattle.vx_resolved.specs.Resolved.{function}
use Rattle.vx_rules.specs.Groups.{function_number}
use Rattle.vx_rules.specs.Rules.{terms}
use Rattle.vx_rules.specs.States.{State, sort_of_type}
use Rattle.vx_rules.specs.Trees.{Tree, End, Impossible, On, Step, Ask, Probe, Fork, Left, leaves}
use Rattle.vx_stack.specs.declared.conts.Move.{Move}
use Rattle.vx_stack.specs.declared.conts.Move.TheVariants as move'
use Rattle.vx_stack.specs.declared.frame.Side.{Side}
use Rattle.vx_stack.specs.declared.waiting.Applied.{Applied}
use Rattle.vx_stack.specs.Stack.{frame_tree, giving, side_tree, told}
use Rattle.vx_stack.specs.Values.{values}
use Rattle.vx_states.specs.SymStates.{state}
use Rattle.vx_steps.specs.Steps.{is_plain}
use Rattle.vx_terms.specs.Build.{application, equals}
use Rattle.vx_terms.specs.Terms.{Term}

-- how many parts a tree has
abbrev pub nodes : Tree → ℕ
nodes End = 1
nodes (Impossible s) = 1
nodes (On t s) = 1
nodes (Step t) = nodes t + 1
nodes (Ask q t) = nodes t + 1
nodes (Probe q a b) = nodes a + nodes b + 1
nodes (Fork a b) = nodes a + nodes b + 1

-- what is said of a value
abbrev pub said_by : Said → Term → Term
said_by (said'.Equals t) w = equals (held_term t) w
said_by said'.Itself w = w

-- the value of an application, with its snapshot's name
abbrev pub value_told : Program → Applied → Term
value_told p x =
    let a = x.application.value in
    application (function_number p (string_bytes a.name.value)) (sort_of_type (function a.function.value).of) (held_term x.snapshot) (terms (values a.arguments.value))

-- the side that a step leaves, if it leaves one
abbrev pub left_by : Move → List Left
left_by (move'.Leave l) = record { value = held_term l.value; state = state l.state } ∷ []
left_by move'.End = []
left_by move'.Go = []
left_by move'.Fork = []
left_by (move'.Check q) = []

module _ (p : Program) where
  abbrev pub IsReady : Tree → Ready → Type 0
  IsReady t ready'.Over = (z : State) × (t ≡ Impossible z)
  IsReady t (ready'.Telling x h s) = t ≡ told p x.value (giving p h.value) (state s)
  IsReady t (ready'.Plain f s) = (t ≡ frame_tree p f (state s)) × (is_plain f ≡ true)

  -- what the sides of a stack leave, the last one first, and how many parts their trees have
  abbrev pub leaves_below : List Side → List Left
  leaves_below [] = []
  leaves_below (a ∷ rest) = leaves_below rest ++ leaves (side_tree p a)

  abbrev pub nodes_below : List Side → ℕ
  nodes_below [] = 0
  nodes_below (a ∷ rest) = nodes_below rest + nodes (side_tree p a)

  -- a step from a tree over a stack leaves as much, and less is to be done
  pub record Leaves (t : Tree) (old : List Side) (m : Move) (new : List Side) : Type 0 where
    pub same : left_by m ++ leaves_below new ≡ leaves t ++ leaves_below old
    pub fewer : nodes_below new < nodes t + nodes_below old
