use Rattle.std.proofs.Common.{[], ap, ◌∙◌}
use Rattle.vx_rules.specs.States.{with_heap}
use Rattle.vx_exec.proofs.loops.without_chunks.Goals as goal

pub returns : goal.returns
returns c = c.in_ok-clear_heap.ensures ∙ ap (with_heap []) c.in_ok-copy.ensures
