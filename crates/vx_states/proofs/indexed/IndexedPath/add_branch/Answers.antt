use Rattle.std.proofs.Common.{◌+◌, true, ap, ◌∙◌}
use Rattle.vx_heap.specs.Views.{held_term}
use Rattle.vx_states.specs.Paths.{entries}
use Rattle.vx_states.proofs.Stores.{one_longer}
use Rattle.vx_states.proofs.Found.{indexed_more}
use Rattle.vx_states.proofs.indexed.IndexedPath.add_branch.Goals as goal

pub invariant_of-result : goal.invariant_of-result
invariant_of-result c =
    let t = held_term c.args.t in
    record {
      indexed = rw c.in_ok-new.ensures.ok (indexed_more (entries c.args.self.path) c.args.self.index c.in_ok-index.index t true c.args.self.indexed c.in_ok-index.ensures);
      counted = rw c.in_ok-new.ensures.ok (c.in_ok-count.ensures ∙ ap (λ n. n + 1) c.args.self.counted ∙ one_longer (entries c.args.self.path) t true);
    }
