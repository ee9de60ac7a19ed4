use Rattle.std.proofs.Common.{◌≡◌, ◌≤◌, ◌++◌}
use Rattle.vx_heap.specs.Views.{terms_of}
use Rattle.vx_stack.specs.declared.waiting.Values.{size-Values}
use Rattle.vx_stack.specs.Values.{values}
use Rattle.vx_stack.proofs.waiting.Values.to_vec.Given as goal

-- what is left of the list is still to be added
abbrev pub invariant-loop-left : goal.invariant-loop-left
invariant-loop-left l = (size-Values l.left ≤ size-Values l.fn.self) × (terms_of l.terms.items ++ values l.left ≡ values l.fn.self)
