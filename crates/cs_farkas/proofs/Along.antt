-- What was returned is what is computed, also by another name.
use Rattle.std.proofs.Common.{◌≡◌, ℕ, ◌<◌, false, ltb, List, length, get_or, Some, None, Ok, Err, refl, ◌∙◌, ap, rules, tests}
use Rattle.std.specs.Prelude.{slice_get}
use Rattle.std.specs.Option.{option_map}
use Rattle.std.proofs.lemmas.Option.{slice_get-map, slice_get_read, slice_get_past}
use Rattle.cs_table.specs.declared.node.Node.{Node}
use Rattle.cs_table.specs.Views.{node, nodes}
use Rattle.std.specs.declared.result.Result.{Result}
use Rattle.cs_farkas.specs.declared.calls.Break.{Break}
use Rattle.cs_farkas.specs.declared.calls.Break.TheVariants as breaks
use Rattle.cs_farkas.specs.Sums.{Outcome}
use Rattle.cs_farkas.specs.Views.{Ends}

pub along : {X Y : Type 0} (view : X → Y) (r : Result X Break) (a b : Outcome Y) → a ≡ b → Ends view r b → Ends view r a
along view (Ok x) a b e h = e ∙ h
along view (Err breaks.Miss) a b e h = e ∙ h
along view (Err (breaks.Over o)) a b e h = e ∙ h

pub node_here : (all : List Node) (k : ℕ) (n : Node) → k < length all → n ≡ get_or all k n → slice_get (nodes all) k ≡ Some (node n)
node_here all k n lt is = slice_get-map node all k ∙ ap (option_map node) (slice_get_read all (length all) k n refl lt is)

pub none_here : (all : List Node) (k : ℕ) → false ≡ ltb k (length all) → slice_get (nodes all) k ≡ None
none_here all k e = slice_get-map node all k ∙ ap (option_map node) (slice_get_past all k (search (tests, rules)))
