-- The law of scanning.
use Rattle.std.specs.Prelude.{◌≡◌, ℕ, List}
use Rattle.vx_ast.specs.declared.Place.{Place}
use Rattle.vx_tokens.specs.Tokens.{Token}
use Rattle.vx_tokens.specs.Text.{Scans, Ending}
use Rattle.vx_tokens.specs.Scanning.{scan, Scanned}

-- what scanning gives is what the text is made of
abbrev pub ScanningIsRight : Type 0
ScanningIsRight = (p : Place) (bytes : List ℕ) → Scans p bytes (scan 0 p bytes).tokens (scan 0 p bytes).ending

-- and a text is made of nothing else
abbrev pub ScanningIsAll : Type 0
ScanningIsAll = (p : Place) (bytes : List ℕ) (ts : List Token) (e : Ending) → Scans p bytes ts e → (let s : Scanned = record { tokens = ts; ending = e } in scan 0 p bytes ≡ s)
