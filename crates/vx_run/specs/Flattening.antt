-- Pieces that are left of flattening, and what they stand for.
use Rattle.std.specs.Prelude.{◌≡◌, ℕ, Bool, true, false, List, [], ◌∷◌, ◌++◌, map, Option, Some, None}
use Rattle.vx_ast.specs.Syntax.{Program, Assertion}
use Rattle.vx_frac.specs.declared.Frac.{Frac}
use Rattle.vx_frac.specs.Fraction.{fraction}
use Rattle.vx_frac.specs.Fractions.{Fraction, lowest}
use Rattle.vx_meaning.specs.States.{Store, Heap, Holdings, Instance, Resource, Folded}
use Rattle.vx_meaning.specs.Flatten.{within, flat}
use Rattle.vx_meaning.specs.Consistent.{spread}
use Rattle.vx_resolved.specs.Resolved.{assertion}
use Rattle.vx_run.specs.Flats.{PartOf, EntryOf, inside, and_behind, written_store, written_resource, all_written}
use Rattle.vx_run.specs.Held.{resource}
use Rattle.vx_run.specs.Stores.{store}
use Rattle.vx_run.specs.declared.store.Variable.{Variable}
use Rattle.vx_run.specs.declared.flattening.Piece.{Piece}
use Rattle.vx_run.specs.declared.flattening.Piece.TheVariants as piece
use Rattle.vx_run.specs.declared.flattening.Found.{Found}

-- what was found, in order
abbrev pub found : List Found → Holdings
found fs = map (λ f. (resource f.resource, fraction f.amount)) fs

module _ (p : Program) (h : Heap) where
  -- it is found there, where its numbers are those of the code once they are written
  abbrev pub StandsFor : Piece → Option Holdings → Type 0
  StandsFor (piece.Part n q x a) o =
      (r : Fraction) × (y : Store) × (lowest r ≡ fraction q) × (written_store y ≡ store x.value.items) × (o ≡ inside p h (PartOf n r y (assertion a.now)))
  StandsFor (piece.Entry n q r) o = (s : Fraction) × (x : Resource) × (lowest s ≡ fraction q) × (written_resource x ≡ resource r) × (o ≡ inside p h (EntryOf n s x))

  -- the last first
  abbrev pub AreLeft : List Piece → Option Holdings → Type 0
  AreLeft [] o = o ≡ Some []
  AreLeft (t ∷ ts) o = (i : Option Holdings) × StandsFor t i × (r : Option Holdings) × AreLeft ts r × (o ≡ and_behind r i)

-- there is what is looked for, or there is nothing
abbrev pub Goes : Bool → Option Holdings → Type 0 → Type 0
Goes true o P = P
Goes false o P = o ≡ None

-- the same, where nothing is found of what isn't there
abbrev pub Finds : Bool → Option Holdings → (before after : Holdings) → Type 0 → Type 0
Finds true o before after P = P
Finds false o before after P = (o ≡ None) × (after ≡ before)

-- what was found is put behind what was found before, and it is all but what is left
abbrev pub IsFound : (old new : Holdings) (all left : Option Holdings) → Type 0
IsFound old new all left = (es : Holdings) × (new ≡ old ++ all_written es) × (all ≡ and_behind (Some es) left)

-- all of it was found, or there is nothing
abbrev pub AreFound : Bool → (old new : Holdings) (all : Option Holdings) → Type 0
AreFound true old new all = (es : Holdings) × (new ≡ old ++ all_written es) × (all ≡ Some es)
AreFound false old new all = (new ≡ old) × (all ≡ None)

-- How the code goes on with what is left, where its numbers are those of the definition once they are written.
module _ (p : Program) (h : Heap) where
  -- a part of a body with these variables is taken apart
  abbrev pub TakesApart : Bool → (old new : List Piece) → ℕ → Frac → List Variable → Assertion → Type 0
  TakesApart there old new n q xs a =
      (y : Store) (z : Fraction) (r : Option Holdings) → written_store y ≡ store xs → lowest z ≡ fraction q → AreLeft p h old r →
      Goes there (inside p h (PartOf n z y a)) (AreLeft p h new (and_behind (inside p h (PartOf n z y a)) r))

  -- what is inside an instance is to be found
  abbrev pub LooksInside : Bool → (old new : List Piece) → ℕ → Frac → Instance → Type 0
  LooksInside there old new n q i =
      (x : Instance) (z : Fraction) (r : Option Holdings) → written_resource (Folded x) ≡ Folded i → lowest z ≡ fraction q → AreLeft p h old r →
      Goes there (within (flat p n h) (Folded x) z) (AreLeft p h new (and_behind (within (flat p n h) (Folded x) z) r))

  -- so much of a resource is found, and what is inside it is to be
  abbrev pub FindsEntry : Bool → (old new : List Piece) → (before after : Holdings) → ℕ → Frac → Resource → Type 0
  FindsEntry there old new before after n q r =
      (x : Resource) (z : Fraction) (o : Option Holdings) → written_resource x ≡ r → lowest z ≡ fraction q → AreLeft p h old o →
      Finds there (within (flat p n h) x z) before after ((after ≡ before ++ (r, fraction q) ∷ []) × AreLeft p h new (and_behind (within (flat p n h) x z) o))

  -- a piece is found, or taken apart
  abbrev pub FindsPiece : Bool → (old new : List Piece) → (before after : Holdings) → Piece → Type 0
  FindsPiece there old new before after t =
      (i r : Option Holdings) → StandsFor p h t i → AreLeft p h old r → Finds there i before after ((o : Option Holdings) × AreLeft p h new o × IsFound before after (and_behind i r) o)

  -- so much of a resource is found with all that is inside it
  abbrev pub FindsAll : Bool → (before after : Holdings) → ℕ → Frac → Resource → Type 0
  FindsAll there before after n q r = (x : Resource) (z : Fraction) → written_resource x ≡ r → lowest z ≡ fraction q → AreFound there before after (inside p h (EntryOf n z x))

  -- an entry is spread, behind what was found
  abbrev pub SpreadsOne : (before after : Holdings) → ℕ → Resource × Fraction → Type 0
  SpreadsOne before after n e = (rest : Holdings) → after ++ all_written (spread p n h rest) ≡ before ++ all_written (spread p n h (e ∷ rest))
