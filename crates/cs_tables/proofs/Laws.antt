-- Each assignment is told.
use Rattle.std.proofs.Common.{◌≡◌, ℕ, List, map, Some, ◌∙◌, ap}
use Rattle.std.specs.Prelude.{slice_get}
use Rattle.std.specs.Option.{option_map}
use Rattle.std.proofs.lemmas.Option.{slice_get-map}
use Rattle.cs_tables.specs.Laws.{EachIsTold}

mapped : {A B : Type 0} (f : A → B) (xs : List A) (n : ℕ) (x : A) → slice_get xs n ≡ Some x → slice_get (map f xs) n ≡ Some (f x)
mapped f xs n x e = slice_get-map f xs n ∙ ap (option_map f) e

pub each_is_told : EachIsTold
each_is_told all s = record { truth = λ n t at b. mapped s.truth all n t at; class = λ n t at b. mapped s.class all n t at }
