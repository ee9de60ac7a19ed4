use Rattle.std.proofs.Common.{ap, ◌∙◌}
use Rattle.vx_heap.specs.Views.{heap}
use Rattle.vx_heap.specs.declared.heap.SymHeap.{SymHeap}
use Rattle.vx_terms.specs.Build.{unit}
use Rattle.vx_rules.specs.States.{with_heap}
use Rattle.vx_rules.specs.Trees.{Step}
use Rattle.vx_rules.specs.Rules.{Going}
use Rattle.vx_stack.specs.declared.frame.Hole.{Hole}
use Rattle.vx_stack.specs.Stack.{giving, going}
use Rattle.vx_consume.proofs.waits.frame_of_unit.Goals as goal

pub returns : goal.returns
returns c = λ p.
    ap (going p) c.in_ok-new.ensures.ok
    ∙ ap {B = Going} (λ (h : SymHeap) s. Step (giving p c.in_ok-clone-2.field-0.value unit (with_heap (heap h) s))) c.in_ok-clone.ensures.cases
    ∙ ap {B = Going} (λ (k : Hole) s. Step (giving p k unit (with_heap (heap c.args.heap.now.value) s))) c.in_ok-clone-2.ensures.cases
