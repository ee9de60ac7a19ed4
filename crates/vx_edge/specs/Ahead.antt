-- Bytes that come behind others.
use Rattle.std.specs.Prelude.{◌≡◌, ℕ, List, ◌++◌}

-- Some come behind those of before, which stay.
abbrev pub Grows : List ℕ → List ℕ → Type 0
Grows before now = (more : List ℕ) × (now ≡ before ++ more)
