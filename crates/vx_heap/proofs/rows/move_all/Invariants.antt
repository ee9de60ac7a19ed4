use Rattle.std.proofs.Common.{◌≡◌, ◌++◌, map, take, drop}
use Rattle.vx_heap.specs.Places.{moved}
use Rattle.vx_heap.proofs.rows.move_all.Given as goal

abbrev pub invariant-loop-place : goal.invariant-loop-place
invariant-loop-place l = l.places ≡ map (moved l.at) (take l.place-index l.initial.places) ++ drop l.place-index l.initial.places
