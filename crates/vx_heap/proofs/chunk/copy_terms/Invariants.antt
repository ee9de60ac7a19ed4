use Rattle.std.proofs.Common.{◌≡◌, take}
use Rattle.vx_heap.specs.Views.{terms_of}
use Rattle.vx_heap.proofs.chunk.copy_terms.Given as goal

abbrev pub invariant-loop-t : goal.invariant-loop-t
invariant-loop-t l = terms_of l.copies.items ≡ terms_of (take l.t-index l.terms)
