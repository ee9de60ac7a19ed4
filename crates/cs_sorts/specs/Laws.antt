-- The computed sort is the sort, and live symbols are those of live terms.
use Rattle.std.specs.Prelude.{◌≡◌, true, Some, ◌↔◌}
use Rattle.vx_terms.specs.Sorts.{Sort}
use Rattle.vx_terms.specs.Terms.{Term}
use Rattle.cs_certificate.specs.Terms.{HasSort}
use Rattle.cs_certificate.specs.Certificate.{Stack, AreLive}
use Rattle.cs_sorts.specs.Sorting.{sort_in, is_live}

abbrev pub TellsSorts : Type 0
TellsSorts = (t : Term) (a : Sort) → (sort_in t ≡ Some a) ↔ HasSort t a

abbrev pub TellsLive : Type 0
TellsLive = (stack : Stack) (t : Term) → (is_live stack.symbols t ≡ true) ↔ AreLive stack t
