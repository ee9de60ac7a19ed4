-- Which terms stand in an index.
use Rattle.std.specs.Prelude.{◌≡◌, ℕ, zero, suc, ◌/◌, ◌%◌, Bool, false, List, ◌||◌, if◌then◌else◌, nat_eq}
use Rattle.vx_terms.specs.Terms.{Term, same}
use Rattle.vx_heap.specs.Views.{held_term}
use Rattle.vx_rules.specs.States.{Entry, in_path}
use Rattle.vx_states.specs.Keys.{key_of}
use Rattle.vx_states.specs.declared.index.Index.{Index}
use Rattle.vx_states.specs.declared.index.Index.TheVariants as index'

abbrev pub is_even : ℕ → Bool
is_even k = nat_eq (k % 2) 0

-- a term stands in it under a key
abbrev pub finds : Index → ℕ → Term → Bool
finds index'.Nothing k t = false
finds (index'.Holds' u q more) k t = same t (held_term u) || finds more k t
finds (index'.Branch' p even q odd) k t = if is_even k then finds even (k / 2) t else finds odd (k / 2) t

-- a key without so many of its lowest bits
abbrev pub down : ℕ → ℕ → ℕ
down zero k = k
down (suc l) k = down l k / 2

-- the same terms stand in both
abbrev pub IsAlike : Index → Index → Type 0
IsAlike a b = (k : ℕ) (u : Term) → finds a k u ≡ finds b k u

-- one term more stands in the new one, where terms are looked up by their keys without so many bits
abbrev pub IsExtended : (old new : Index) (level : ℕ) (t : Term) → Type 0
IsExtended old new level t = (u : Term) → finds new (down level (key_of u 4)) u ≡ (finds old (down level (key_of u 4)) u || same u t)

-- what the path holds is found in the index by its key, and nothing else
abbrev pub IsIndexed : List Entry → Index → Type 0
IsIndexed es i = (u : Term) → finds i (key_of u 4) u ≡ in_path u es
