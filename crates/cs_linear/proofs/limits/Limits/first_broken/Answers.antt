use Rattle.std.proofs.Common.{ℕ, ◌<◌, ◌≤◌, ◌≡◌, ◌∙◌, length, arith}
use Rattle.cs_linear.proofs.Lists.{long}
use Rattle.cs_linear.proofs.limits.Limits.first_broken.Goals as goal

before_end : (k n e i : ℕ) → k < n → e ≡ n → e ≤ i → k < i
before_end k n e i lt same le = omega arith

pub returns-clause-none : goal.returns-clause-none
returns-clause-none c k lt = c.loop-k.invariant.pending k (c.loop-k.invariant.done k (before_end k (length c.args.marks.now.items) c.len-k-end.result c.loop-k.k lt (c.len-k-end.ensures ∙ long c.args.marks.now) c.loop-k-test.false))
