use Rattle.std.proofs.Common.{◌+◌, ◌*◌}
use Rattle.cs_farkas.proofs.read.+terms.Given as goal

abbrev pub decreases-read_term : goal.decreases-read_term
decreases-read_term l = 2 * l.layers

abbrev pub decreases-read_as : goal.decreases-read_as
decreases-read_as l = 2 * l.layers + 1
