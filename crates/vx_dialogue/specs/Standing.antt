-- What stands on the levels of a member, in code.
use Rattle.std.specs.Prelude.{◌≡◌, ⊤, List, [], ◌∷◌, length, map}
use Rattle.vx_smt_meaning.specs.Commands.{Declared}
use Rattle.vx_segments.specs.Segments.{Entry, terms}
use Rattle.vx_segments.specs.Views.{entry}
use Rattle.vx_dialogue.specs.Symbols.{with_variables, with_listed}
use Rattle.vx_dialogue.specs.declared.standing.Sent.{Sent}
use Rattle.vx_dialogue.specs.declared.standing.Standing.{Standing}

abbrev pub entries_of : List Sent → List Entry
entries_of sents = map (λ s. entry s.entry) sents

-- the entries that were sent
abbrev pub path_of : Standing → List Entry
path_of s = entries_of s.sent.items

-- Each entry tells how many symbols are declared before it, behind these.
abbrev pub AreCounted : List Declared → List Sent → Type 0
AreCounted ds [] = ⊤
AreCounted ds (s ∷ sents) = (s.before ≡ length ds) × AreCounted (with_variables ds (entry s.entry).term) sents

-- The symbols of the entries are declared, and no more; each entry tells how many are before it.
pub record IsSound (s : Standing) : Type 0 where
  pub declared : s.declared ≡ with_listed [] (terms (path_of s))
  pub counted : AreCounted [] s.sent.items
