use Rattle.std.proofs.Common.{◌≡◌, ◌-◌, length, map}
use Rattle.cs_reader.specs.Steps.{step}
use Rattle.cs_reader.specs.Reading.{with_steps, steps_for}
use Rattle.cs_reader.proofs.reader.steps.Given as goal

abbrev pub invariant-loop-n : goal.invariant-loop-n
invariant-loop-n l = with_steps (map step l.found.items) (steps_for (length l.fn.tokens - l.n) l.n l.rest) ≡ steps_for (length l.fn.tokens) 0 l.fn.tokens
