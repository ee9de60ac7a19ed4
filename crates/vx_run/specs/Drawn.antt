-- The whole run of a seed: its choices are draws, and its numbers stay within 128 bits.
use Rattle.std.specs.Prelude.{ℕ}
use Rattle.vx_ast.specs.Syntax.{Program, Method, Block}
use Rattle.vx_run.specs.Draws.{by_draws}
use Rattle.vx_run.specs.Going.{Outcome}
use Rattle.vx_run.specs.Widths.{within_128_bits}
use Rattle.vx_run.specs.Whole.{whole}

abbrev pub drawn : Program → Method → Block → (seed steps : ℕ) → Outcome
drawn p m b seed steps = whole p by_draws within_128_bits steps seed m b
