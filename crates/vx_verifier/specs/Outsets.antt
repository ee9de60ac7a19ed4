-- What a spawner shows: as lanes begin over it, and from then on.
use Rattle.std.specs.Prelude.{◌≡◌, ℕ, ◌<◌, ◌≤◌, Bool, IsTrue, List, ◌++◌}
use Rattle.vx_ast.specs.Syntax.{Program}
use Rattle.vx_terms.specs.Interpretations.{Each}
use Rattle.vx_ends.specs.declared.piece.Start.{Start}
use Rattle.vx_ends.specs.declared.piece.Ending.{Ending}

-- its starts, how many links of each lane are out, the links that were handed back, how often a start failed, and whether it is steady
pub record Hub : Type 0 where
  pub starts : List Start
  pub owed : ℕ → ℕ
  pub ended : List Ending
  pub faults : ℕ
  pub steady : Bool

abbrev pub hub : {S : Type 0} → (starts : S → List Start) → (owed : S → ℕ → ℕ) → (ended : S → List Ending) → (faults : S → ℕ) → (steady : S → Bool) → S → Hub
hub starts owed ended faults steady s = record { starts = starts s; owed = owed s; ended = ended s; faults = faults s; steady = steady s }

-- the program whose members are dealt to so many lanes, the command that their children are started by, and what the spawner shows then
pub record Outset : Type 0 where
  pub program : Program
  pub jobs : ℕ
  pub command : List (List ℕ)
  pub first : Hub

-- How what it shows goes on: starts are tried and links handed back in these lanes alone, and all other lanes owe what they owed.
pub record Later (o : Outset) (old new : Hub) : Type 0 where
  pub starts : List Start
  pub started : new.starts ≡ old.starts ++ starts
  pub starts_within : Each (λ (s : Start). s.lane < o.jobs) starts
  pub links : List Ending
  pub ended : new.ended ≡ old.ended ++ links
  pub links_within : Each (λ (e : Ending). e.lane < o.jobs) links
  pub owed : (lane : ℕ) → o.jobs ≤ lane → new.owed lane ≡ old.owed lane
  pub faults : old.faults ≤ new.faults
  pub steady : new.steady ≡ old.steady

-- How it goes on by a call in lane number n: in this lane alone starts are tried and links handed back, all other lanes owe what they owed, and over a steady spawner no start fails.
pub record Moved (n : ℕ) (old new : Hub) : Type 0 where
  pub starts : List Start
  pub started : new.starts ≡ old.starts ++ starts
  pub starts_own : Each (λ (s : Start). s.lane ≡ n) starts
  pub links : List Ending
  pub ended : new.ended ≡ old.ended ++ links
  pub links_own : Each (λ (e : Ending). e.lane ≡ n) links
  pub owed : (lane : ℕ) → (lane ≡ n → ⊥) → new.owed lane ≡ old.owed lane
  pub faults : old.faults ≤ new.faults
  pub steady : new.steady ≡ old.steady
  pub calm : IsTrue old.steady → new.faults ≡ old.faults
