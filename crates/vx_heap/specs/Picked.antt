-- The chunks at some places of a heap.
use Rattle.std.specs.Prelude.{ℕ, Bool, false, ◌&&◌, if◌then◌else◌, List, [], ◌∷◌, slice_get, Option, Some, None}
use Rattle.vx_terms.specs.Terms.{same_bool}
use Rattle.vx_rules.specs.States.{Chunk, Heap}
use Rattle.vx_rules.specs.Chunks.{Candidate, is_kin, same_arguments}

-- of the key's resource, with identical arguments or with others
abbrev pub passes : Bool → Chunk → Chunk → Bool
passes identical key c = is_kin key c && same_bool identical (same_arguments key.arguments c.arguments)

-- whether there is such a chunk at a place
abbrev pub passes_at : Bool → Chunk → Heap → ℕ → Bool
passes_at identical key h n = elim (slice_get h n) [ Some c ↦ passes identical key c | None ↦ false ]

-- such a chunk at a place, before others
abbrev pub picked_onto : Bool → Chunk → Option Chunk → ℕ → List Candidate → List Candidate
picked_onto identical key None n rest = rest
picked_onto identical key (Some c) n rest = if passes identical key c then record { number = n; chunk = c } ∷ rest else rest

-- such chunks at these places, in their order
abbrev pub picked : Bool → Chunk → Heap → List ℕ → List Candidate
picked identical key h [] = []
picked identical key h (n ∷ ns) = picked_onto identical key (slice_get h n) n (picked identical key h ns)
