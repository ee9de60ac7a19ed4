-- A walk by its edges.
use Rattle.std.specs.Prelude.{◌≡◌, ℕ, ◌<◌, List, ◌∷◌, ◌++◌}
use Rattle.cs_cong.specs.declared.merges.Merge.{Merge}
use Rattle.cs_cong.specs.declared.paths.Edge.{Edge}
use Rattle.cs_cong.specs.Merged.{merge_at, representative}
use Rattle.cs_cong.specs.Walks.{walk, start_of, end_of}

-- the walk goes to the start of this edge, along it, and from its end on, all by merges before its own
pub record GoesAlong (log : List Merge) (time a b : ℕ) (e : Edge) : Type 0 where
  pub before : e.merge < time
  pub whole : walk log time a b ≡ walk log e.merge a (start_of e.forward (merge_at log e.merge)) ++ e ∷ walk log e.merge (end_of e.forward (merge_at log e.merge)) b
  pub here : representative log e.merge a ≡ representative log e.merge (start_of e.forward (merge_at log e.merge))
  pub there : representative log e.merge (end_of e.forward (merge_at log e.merge)) ≡ representative log e.merge b
