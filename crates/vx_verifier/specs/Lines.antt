-- Which members of a program have a line in the report: all but its fields.
use Rattle.std.specs.Prelude.{ℕ, ◌+◌, Bool, true, false, List, [], ◌∷◌, if◌then◌else◌}
use Rattle.vx_ast.specs.Syntax.{Program, Kind, IsField, IsPredicate, IsFunction, IsMethod}

abbrev pub has_line : Kind → Bool
has_line (IsField t) = false
has_line (IsPredicate p) = true
has_line (IsFunction f) = true
has_line (IsMethod m) = true

-- the numbers of those members, where the first member has this number
abbrev pub lines_from : ℕ → Program → List ℕ
lines_from n [] = []
lines_from n (m ∷ p) = if has_line m.kind then n ∷ lines_from (n + 1) p else lines_from (n + 1) p

-- their numbers, in file order
abbrev pub lines : Program → List ℕ
lines p = lines_from 0 p
