-- What the outside shows before a call and after it: files, a sink, and the spawners of children.
use Rattle.std.specs.Prelude.{◌≡◌, ◌⊎◌, ⊤, ℕ, ◌<◌, ◌==◌, ◌-◌, ◌^◌, IsTrue, Bool, true, List, [], ◌∷◌, ◌++◌, map, Option, IfSome, length}
use Rattle.std.specs.List.{count_by}
use Rattle.vx_ends.specs.Causes.{Rose}
use Rattle.vx_ends.specs.declared.piece.Start.{Start}
use Rattle.vx_ends.specs.declared.piece.Ending.{Ending}
use Rattle.cs_answer.specs.declared.answer.Cause.{Cause}
use Rattle.vx_companion.specs.declared.builtin.Builtin.{Builtin}
use Rattle.vx_verifier.specs.Causes.{NoCountRose}
use Rattle.vx_verifier.specs.Dealt.{Starts}

pub record Change (A : Type 0) : Type 0 where
  pub before : A
  pub after : A

abbrev pub change : {S A : Type 0} → (shows : S → A) → (old new : S) → Change A
change shows old new = record { before = shows old; after = shows new }

-- it shows what it showed
abbrev pub IsUnchanged : {A : Type 0} → Change A → Type 0
IsUnchanged c = c.after ≡ c.before

-- what a name holds, where that is told; the names that were asked; how often reading failed
pub record Texts : Type 0 where
  pub holds : Option (List ℕ) → Option (List ℕ)
  pub asked : List (Option (List ℕ))
  pub faults : ℕ

abbrev pub texts : {S : Type 0} → (holds : S → Option (List ℕ) → Option (List ℕ)) → (asked : S → List (Option (List ℕ))) → (faults : S → ℕ) → S → Texts
texts holds asked faults s = record { holds = holds s; asked = asked s; faults = faults s }

-- the bytes that a sink took, where that is told; how often it failed
pub record Taken : Type 0 where
  pub bytes : Option (List ℕ)
  pub faults : ℕ

abbrev pub taken : {S : Type 0} → (bytes : S → Option (List ℕ)) → (faults : S → ℕ) → S → Taken
taken bytes faults s = record { bytes = bytes s; faults = faults s }

-- a spawner's starts, how many links of each lane are out, the links that were handed back, how often a start failed, and whether it is steady; and of each link why its replies were
-- undecided, which is known of the companion in process alone
pub record Children : Type 0 where
  pub starts : List Start
  pub owed : ℕ → ℕ
  pub ended : List Ending
  pub faults : ℕ
  pub steady : Bool
  pub causes : List (List Cause)

abbrev pub children : {S : Type 0} → (starts : S → List Start) → (owed : S → ℕ → ℕ) → (ended : S → List Ending) → (faults : S → ℕ) → (steady : S → Bool) → S → Children
children starts owed ended faults steady s = record { starts = starts s; owed = owed s; ended = ended s; faults = faults s; steady = steady s; causes = [] }

-- those of the companion in process
abbrev pub companions : Builtin → Children
companions s = record { starts = s.starts.items; owed = λ lane. count_by (λ other. other == lane) s.lanes_out.items; ended = map (λ l. l.ending) s.ended.items; faults = 0; steady = true; causes = map (λ l. l.causes.items) s.ended.items }

-- at most this name was asked
abbrev pub AsksOnly : Option (List ℕ) → Change Texts → Type 0
AsksOnly name files = (files.after.asked ≡ files.before.asked) ⊎ (files.after.asked ≡ files.before.asked ++ name ∷ [])

-- reading failed
abbrev pub HasFailedToRead : Change Texts → Type 0
HasFailedToRead files = Rose files.before.faults files.after.faults

-- the text of this name is longer than what is read
abbrev pub IsTooLong : Option (List ℕ) → Change Texts → Type 0
IsTooLong name files = IfSome (files.before.holds name) (λ text. 4194304 < length text)

-- no put has failed since
abbrev pub HasPut : Change Taken → Type 0
HasPut sink = sink.after.faults ≡ sink.before.faults

-- the sink failed
abbrev pub HasFailedToPut : Change Taken → Type 0
HasFailedToPut sink = Rose sink.before.faults sink.after.faults

-- Each link that was started is handed back, on every lane, and over a steady spawner no count of faults rises.
pub record HandsBack (spawner : Change Children) : Type 0 where
  pub every_lane : (lane : ℕ) → spawner.after.owed lane ≡ spawner.before.owed lane
  pub calm : IsTrue spawner.before.steady → spawner.before.faults < 2 ^ 64 - 1
      → NoCountRose spawner.before.ended spawner.after.ended spawner.before.faults spawner.after.faults

-- at most one start in each of so many lanes, and none in another, by this command
abbrev pub StartsOnly : (jobs : ℕ) → (command : List (List ℕ)) → Change Children → Type 0
StartsOnly jobs command spawner = Starts jobs command spawner.before.starts spawner.after.starts (λ lane started. ⊤)

-- what both spawners show: that of the companion in process, and the one that is handed in
pub record Spawners : Type 0 where
  pub companion : Change Children
  pub handed : Change Children

abbrev pub spawners : {S : Type 0} → (shows : S → Children) → (companion_old companion_new : Builtin) → (old new : S) → Spawners
spawners shows companion_old companion_new old new = record { companion = change companions companion_old companion_new; handed = change shows old new }

-- neither is asked for anything
pub record Rest (s : Spawners) : Type 0 where
  pub companion : IsUnchanged s.companion
  pub handed : IsUnchanged s.handed

-- both have all links back
pub record HandBack (s : Spawners) : Type 0 where
  pub companion : HandsBack s.companion
  pub handed : HandsBack s.handed

-- what all ends show
pub record Ends : Type 0 where
  pub files : Change Texts
  pub sink : Change Taken
  pub spawners : Spawners
