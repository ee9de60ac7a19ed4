use Rattle.std.proofs.Common.{◌≡◌, ◌+◌, ◌++◌, map, take, drop, get_or, set, subst, sym}
use Rattle.std.proofs.lemmas.List.Edits.{map_over_more}
use Rattle.vx_heap.specs.Places.{moved}
use Rattle.vx_heap.proofs.InRows.{read_again}
use Rattle.vx_heap.proofs.rows.move_all.Goals as goal

pub loop-place-preserved : goal.loop-place-preserved
loop-place-preserved c =
    let old = c.args.places.now in
    let i = c.loop-place.place-index in
    let change = moved c.args.at in
    let now = get_or c.loop-place.places i 0 in
    subst (λ r. set c.loop-place.places i r ≡ map change (take (i + 1) old) ++ drop (i + 1) old) (sym c.move_up.ensures)
    (map_over_more change old c.loop-place.places i now c.loop-place-test.true c.loop-place.invariant (read_again c.loop-place.places i 0))
