-- The numbers of a term's parts, kept where all of its subterms have numbers.
use Rattle.std.specs.Prelude.{◌≡◌, ℕ, Bool, if◌then◌else◌, List, slice_get, Option, Some, None, Vec}
use Rattle.std.specs.Global.{Global}
use Rattle.std.specs.List.{list_all}
use Rattle.vx_terms.specs.Terms.{Term}
use Rattle.cs_certificate.specs.Terms.{parts, subterms}
use Rattle.cs_certificate.specs.Steps.{◌>>=◌}
use Rattle.cs_numbers.specs.Numbering.{has, places}

-- whether all these terms have numbers
abbrev pub has_all : List Term → List Term → Bool
has_all terms ts = list_all (has terms) ts

-- what may be kept of the term with a number: the numbers of its parts, where all its subterms have numbers
abbrev pub parts_at : List Term → ℕ → Option (List ℕ)
parts_at terms n = slice_get terms n >>= λ t. if has_all terms (subterms t) then places terms (parts t) else None

-- what is kept by number
pub record AreKept (terms : List Term) (kept : List (Option (Vec ℕ Global))) : Type 0 where
  pub each : (n : ℕ) (numbers : Vec ℕ Global) → slice_get kept n ≡ Some (Some numbers) → parts_at terms n ≡ Some numbers.items
