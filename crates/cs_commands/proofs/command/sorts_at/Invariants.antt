use Rattle.std.proofs.Common.{◌≡◌, length, map}
use Rattle.vx_terms.specs.Views.{sort}
use Rattle.cs_commands.specs.Outcomes.{with_front}
use Rattle.cs_commands.specs.Commands.{sorts_at}
use Rattle.cs_commands.specs.Views.{scope}
use Rattle.cs_commands.proofs.command.sorts_at.Given as goal

abbrev pub invariant-loop-first : goal.invariant-loop-first
invariant-loop-first l = with_front (map sort l.found.items) (sorts_at (scope l.live) l.rest) ≡ sorts_at (scope l.live) l.fn.tokens

abbrev pub decreases-loop-first : goal.decreases-loop-first
decreases-loop-first l = length l.rest
