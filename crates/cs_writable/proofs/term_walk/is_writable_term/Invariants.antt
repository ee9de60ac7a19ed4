use Rattle.std.proofs.Common.{◌≡◌}
use Rattle.vx_terms.specs.Views.{term}
use Rattle.cs_writable.specs.Tests.{is_writable_term}
use Rattle.cs_writable.specs.Pending.{all_writable, load}
use Rattle.cs_writable.proofs.term_walk.is_writable_term.Given as goal

-- what is pending is read back where the whole is
abbrev pub invariant-loop-next : goal.invariant-loop-next
invariant-loop-next l = all_writable l.pending.items ≡ is_writable_term (term l.t)

abbrev pub decreases-loop-next : goal.decreases-loop-next
decreases-loop-next l = load l.pending.items
