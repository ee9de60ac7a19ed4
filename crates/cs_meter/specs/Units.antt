-- The units that a check may spend.
use Rattle.std.specs.Prelude.{ℕ}

abbrev pub limit : ℕ
limit = 100000
