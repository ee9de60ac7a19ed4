-- What a caller sees of the comparisons of a stack.
use Rattle.std.specs.Prelude.{List}
use Rattle.vx_frac.specs.declared.Frac.{Frac}
use Rattle.cs_sums.specs.declared.columns.Columns.{Columns}
use Rattle.cs_sums.specs.declared.arithmetic.Arithmetic.{Arithmetic}

-- the columns of terms and of sums
abbrev pub columns_of : Arithmetic → Columns
columns_of a = a.columns

-- their values, as the last check left them
abbrev pub values_of : Arithmetic → List Frac
values_of a = a.values.items
