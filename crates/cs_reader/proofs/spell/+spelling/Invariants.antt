use Rattle.std.proofs.Common.{◌≡◌, ◌+◌, ◌-◌, ◌*◌, length, map}
use Rattle.vx_terms.specs.Views.{term}
use Rattle.cs_reader.specs.Items.{with_front, items_for}
use Rattle.cs_reader.specs.Spelling.{part_at, spelled_at}
use Rattle.cs_reader.specs.Views.{scope}
use Rattle.cs_reader.proofs.spell.+spelling.Given as goal

abbrev pub decreases-spelled_at : goal.decreases-spelled_at
decreases-spelled_at l = 4 * l.room

abbrev pub decreases-part_or_end : goal.decreases-part_or_end
decreases-part_or_end l = 4 * l.room + 1

abbrev pub decreases-parts : goal.decreases-parts
decreases-parts l = 4 * l.room + 2

abbrev pub decreases-listed_at : goal.decreases-listed_at
decreases-listed_at l = 4 * l.room + 3

abbrev pub invariant-parts-loop-count : goal.invariant-parts-loop-count
invariant-parts-loop-count l = with_front (map (λ t. term t.value) l.found.items) (items_for (part_at (spelled_at (scope l.within) l.room)) (length l.fn.tokens - l.count) l.rest) ≡ items_for (part_at (spelled_at (scope l.within) l.room)) (length l.fn.tokens) l.fn.tokens
