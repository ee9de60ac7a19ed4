-- How much of a path stays on its levels where another path comes next.
use Rattle.std.specs.Prelude.{ℕ, suc, Bool, ◌&&◌, nat_eq, if◌then◌else◌, List, [], ◌∷◌, Option, Some, None}
use Rattle.vx_terms.specs.Terms.{same}
use Rattle.vx_segments.specs.Segments.{Entry}

-- the same term in the same segment
abbrev pub same_entry : Entry → Entry → Bool
same_entry a b = nat_eq a.segment b.segment && same a.term b.term

-- The first `place` entries of both paths are the same. The last of them is of the segment `last`, whose level begins behind the first `start` entries (None: it is the member's own level).
-- Where the old path ends, all of it stays. Where the two part, only whole levels stay: if the old path goes on in the segment `last`, what stays ends where the level of that segment begins.
abbrev pub kept_from : (last : ℕ) → (start : Option ℕ) → (place : ℕ) → List Entry → List Entry → Option ℕ
kept_from last start place [] new = Some place
kept_from last start place (a ∷ as') [] = if nat_eq a.segment last then start else Some place
kept_from last start place (a ∷ as') (b ∷ bs) =
    let here = if nat_eq a.segment last then start else Some place in
    if same_entry a b then kept_from a.segment here (suc place) as' bs else here

-- how many entries of the old path stay where the new one comes next (None: not even the member's own level stays)
abbrev pub kept : List Entry → List Entry → Option ℕ
kept old new = kept_from 0 None 0 old new
