-- How lanes stand between two calls, and what a call in one lane leaves to all others.
use Rattle.std.specs.Prelude.{◌≡◌, ℕ, Bool, true, false, List, Option, Some, None, slice_get, slice_set, get_or, map, length}
use Rattle.vx_rules.specs.Trees.{Question}
use Rattle.vx_pool.specs.Events.{Event}

-- what a call in lane number n leaves of every talker with another number: what it holds, what it tells, and what it asks
pub record Spares {F T H : Type 0} (lane : T → ℕ) (Held : T → H → Type 0) (Tells : T → H → List (Event F) → Type 0) (Asks : T → H → List (Event F) → Question → Type 0)
    (n : ℕ) (old new : H) : Type 0 where
  pub held : (t : T) → (lane t ≡ n → ⊥) → Held t old → Held t new
  pub free : (t : T) → (lane t ≡ n → ⊥) → (log : List (Event F)) → Tells t old log → Tells t new log
  pub asked : (t : T) → (lane t ≡ n → ⊥) → (log : List (Event F)) (q : Question) → Asks t old log q → Asks t new log q

-- what a call in one lane makes of its talker and of the hub: its number stays, the hub goes on, and all other lanes are spared
pub record Moves {F T H : Type 0} (lane : T → ℕ) (Later : H → H → Type 0) (Held : T → H → Type 0) (Tells : T → H → List (Event F) → Type 0) (Asks : T → H → List (Event F) → Question → Type 0)
    (t : T) (hub : H) (t' : T) (hub' : H) : Type 0 where
  pub stays : lane t' ≡ lane t
  pub goes_on : Later hub hub'
  pub others : Spares lane Held Tells Asks (lane t) hub hub'

-- no two lanes have one number
abbrev pub AreApart : {W T : Type 0} → (T → ℕ) → List (W × T) → Type 0
AreApart {W} {T} lane lanes = (i j : ℕ) (a b : W × T) → slice_get lanes i ≡ Some a → slice_get lanes j ≡ Some b → lane a.1 ≡ lane b.1 → i ≡ j

-- the numbers of the lanes, in order
abbrev pub numbers : {W T : Type 0} → (T → ℕ) → List (W × T) → List ℕ
numbers lane lanes = map (λ l. lane l.1) lanes

-- every lane's talker holds what it has from the hub
abbrev pub AreHeld : {W T H : Type 0} → (T → H → Type 0) → H → List (W × T) → Type 0
AreHeld {W} {T} Held hub lanes = (i : ℕ) (l : W × T) → slice_get lanes i ≡ Some l → Held l.1 hub

module _ {F W T H X : Type 0} (log : W → List (Event F)) (asked : W → Option Question) (ended : W → Bool) (Fits : W → X → Type 0) (number : W → ℕ) (lane : T → ℕ)
    (Held : T → H → Type 0) (Tells : T → H → List (Event F) → Type 0) (Asks : T → H → List (Event F) → Question → Type 0) where
  -- worker and talker have one number; no question is open, and the events of the worker are those that the talker tells
  pub record IsFree (shared : X) (hub : H) (w : W) (t : T) : Type 0 where
    pub fits : Fits w shared
    pub same : number w ≡ lane t
    pub held : Held t hub
    pub none : asked w ≡ None
    pub told : Tells t hub (log w)

  -- the worker's question is open, and the events of the worker are those that the talker tells in front of it
  pub record IsWaiting (shared : X) (hub : H) (w : W) (t : T) : Type 0 where
    pub fits : Fits w shared
    pub same : number w ≡ lane t
    pub held : Held t hub
    pub question : Question
    pub asks : asked w ≡ Some question
    pub told : Asks t hub (log w) question

  -- the worker has come to its end, and the lane is free
  pub record IsDone (shared : X) (hub : H) (w : W) (t : T) : Type 0 where
    pub free : IsFree shared hub w t
    pub done : ended w ≡ true

  -- a lane that was driven waits for a reply, or is done
  abbrev pub Stands : (waits : Bool) → X → H → W → T → Type 0
  Stands true shared hub w t = IsWaiting shared hub w t
  Stands false shared hub w t = IsDone shared hub w t

  -- a lane that wasn't driven yet is free
  abbrev pub StandsAt : Option Bool → X → H → W → T → Type 0
  StandsAt None shared hub w t = IsFree shared hub w t
  StandsAt (Some waits) shared hub w t = Stands waits shared hub w t

  -- each lane stands as its state says
  abbrev pub AreStanding : (states : List (Option Bool)) → X → H → List (W × T) → Type 0
  AreStanding states shared hub lanes = (i : ℕ) (l : W × T) → slice_get lanes i ≡ Some l → StandsAt (get_or states i None) shared hub l.0 l.1

  -- each lane is free
  abbrev pub AreFree : X → H → List (W × T) → Type 0
  AreFree shared hub lanes = (i : ℕ) (l : W × T) → slice_get lanes i ≡ Some l → IsFree shared hub l.0 l.1

  -- each lane is done
  abbrev pub AreDone : X → H → List (W × T) → Type 0
  AreDone shared hub lanes = (i : ℕ) (l : W × T) → slice_get lanes i ≡ Some l → IsDone shared hub l.0 l.1

  -- What is so between any two calls since the lanes and the hub stood so (lanes0, hub0): each lane stands as its state says, no two have one number, the numbers are as they were, and the hub has
  -- gone on.
  pub record Amid (Later : H → H → Type 0) (shared : X) (lanes0 : List (W × T)) (hub0 : H) (states : List (Option Bool)) (hub : H) (lanes : List (W × T)) : Type 0 where
    pub standing : AreStanding states shared hub lanes
    pub apart : AreApart lane lanes
    pub numbered : numbers lane lanes ≡ numbers lane lanes0
    pub later : Later hub0 hub
    pub each : length states ≡ length lanes

-- what is so even where memory ran out
pub record Stopped {W T H : Type 0} (Held : T → H → Type 0) (lane : T → ℕ) (Later : H → H → Type 0) (lanes0 : List (W × T)) (hub0 : H) (hub : H) (lanes : List (W × T)) : Type 0 where
  pub held : AreHeld Held hub lanes
  pub numbered : numbers lane lanes ≡ numbers lane lanes0
  pub later : Later hub0 hub

-- the lane with this number was driven on, and no other
pub record Changes {F W T H : Type 0} (lane : T → ℕ) (Later : H → H → Type 0) (Held : T → H → Type 0) (Tells : T → H → List (Event F) → Type 0) (Asks : T → H → List (Event F) → Question → Type 0)
    (i : ℕ) (lanes : List (W × T)) (hub : H) (lanes' : List (W × T)) (hub' : H) : Type 0 where
  pub before : W × T
  pub found : slice_get lanes i ≡ Some before
  pub after : W × T
  pub set : lanes' ≡ slice_set lanes i after
  pub moves : Moves lane Later Held Tells Asks before.1 hub after.1 hub'
  pub held : Held after.1 hub'
