-- Blanks and comments, byte by byte.
use Rattle.std.specs.Prelude.{ℕ, Bool, false, List, Option, Some, None}
use Rattle.vx_sexp.specs.Tokens.{is_space_from}

-- behind a byte that leaves a comment open, or none; or that can't stand there
abbrev pub space_by : Option Bool → List ℕ → Bool
space_by (Some comment) bytes = is_space_from comment bytes
space_by None bytes = false
