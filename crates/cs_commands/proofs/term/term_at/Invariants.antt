use Rattle.std.proofs.Common.{◌≡◌, [], length}
use Rattle.cs_commands.specs.Terms.{term_from}
use Rattle.cs_commands.specs.Views.{scope, stack}
use Rattle.cs_commands.proofs.term.term_at.Given as goal

abbrev pub invariant-loop-next : goal.invariant-loop-next
invariant-loop-next l = term_from (scope l.live) (stack l.frames.items) l.rest ≡ term_from (scope l.live) [] l.fn.tokens

abbrev pub decreases-loop-next : goal.decreases-loop-next
decreases-loop-next l = length l.rest
