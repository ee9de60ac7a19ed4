-- A tree over the merges: each representative that is one no longer leads on, from the time of its merge.
use Rattle.std.specs.Prelude.{◌≡◌, ℕ, suc, ◌<◌, ◌≤◌, List, length, get_or}
use Rattle.cs_cong.specs.declared.merges.Merge.{Merge}
use Rattle.cs_cong.specs.declared.merges.Link.{Link}
use Rattle.cs_cong.specs.Merged.{nothing, representative}

abbrev pub nowhere : Link
nowhere = record { to = 0; time = 0 }

abbrev pub never : ℕ
never = 4294967295

abbrev pub link_at : List Link → ℕ → Link
link_at links a = get_or links a nowhere

-- a is a representative up to its merge, and then it has the one that it leads to
pub record Moves (log : List Merge) (links : List Link) (a : ℕ) : Type 0 where
  pub within : (link_at links a).time < length log
  pub target : (link_at links a).to < length links
  pub there : representative log (suc (link_at links a).time) a ≡ (link_at links a).to
  pub later : (link_at links a).time < (link_at links (link_at links a).to).time
  pub moved : (get_or log (link_at links a).time nothing).moved ≡ a

pub record IsTree (log : List Merge) (links : List Link) : Type 0 where
  pub stays : (a k : ℕ) → a < length links → k ≤ (link_at links a).time → representative log k a ≡ a
  pub moves : (a : ℕ) → a < length links → (link_at links a).time < never → Moves log links a
  pub times : (a : ℕ) → a < length links → (link_at links a).time ≤ never
  pub each : (k : ℕ) → k < length log → (link_at links (get_or log k nothing).moved).time ≡ k
