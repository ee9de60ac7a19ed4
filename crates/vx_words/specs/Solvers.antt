-- The command of a solver: the text between blanks, which are spaces and tabs, without the empty parts.
use Rattle.std.specs.Prelude.{ℕ, ◌==◌, Bool, not, List, length, filter, flat_map}
use Rattle.std.specs.List.{slice_split}

abbrev pub is_filled : List ℕ → Bool
is_filled part = not (length part == 0)

abbrev pub filled_between_tabs : List ℕ → List (List ℕ)
filled_between_tabs text = filter is_filled (slice_split (λ b. b == 9) text)

abbrev pub parts_in : List ℕ → List (List ℕ)
parts_in text = flat_map filled_between_tabs (slice_split (λ b. b == 32) text)
