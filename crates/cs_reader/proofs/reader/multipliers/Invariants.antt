use Rattle.std.proofs.Common.{◌≡◌, ◌-◌, length, map}
use Rattle.vx_frac.specs.Fraction.{fraction}
use Rattle.cs_reader.specs.Items.{with_front, items_for}
use Rattle.cs_reader.specs.Reading.{more_at}
use Rattle.cs_reader.proofs.reader.multipliers.Given as goal

abbrev pub invariant-loop-count : goal.invariant-loop-count
invariant-loop-count l = with_front (map fraction l.found.items) (items_for more_at (length l.fn.tokens - l.count) l.rest) ≡ items_for more_at (length l.fn.tokens) l.fn.tokens
