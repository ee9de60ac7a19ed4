use Rattle.std.proofs.Common.{◌-◌}
use Rattle.vx_states.proofs.index.+two.Given as goal

-- so many levels are left
abbrev pub decreases-two : goal.decreases-two
decreases-two l = 16 - l.level
