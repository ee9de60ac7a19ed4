use Rattle.std.proofs.Common.{◌≡◌, ℕ, ◌<◌, Some}
use Rattle.std.specs.List.{slice_get}
use Rattle.cs_search.specs.declared.Entry.{Entry}
use Rattle.cs_search.specs.Settled.{HasReason}
use Rattle.cs_search.proofs.add.base_of.Given as goal

abbrev pub invariant-loop-i : goal.invariant-loop-i
invariant-loop-i l = (j : ℕ) (e : Entry) → j < l.i → slice_get l.trail j ≡ Some e → HasReason e
