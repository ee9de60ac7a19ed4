-- Questions that go on from the one before: the path of the later one begins with the path of the earlier one.
use Rattle.std.specs.Prelude.{◌≡◌, ⊤, Bool, true, false, List, [], ◌∷◌, ◌++◌, Option, Some, None}
use Rattle.vx_ast.specs.Syntax.{Program}
use Rattle.vx_grows.specs.Grows.{Begins, Grows}
use Rattle.vx_machine.specs.declared.machine.Phase.{Phase}
use Rattle.vx_machine.specs.declared.machine.Phase.TheVariants as phase'
use Rattle.vx_machine.specs.declared.machine.Ask.{Ask}
use Rattle.vx_machine.specs.declared.machine.Ask.TheVariants as ask'
use Rattle.vx_machine.specs.declared.run.Came.{Came}
use Rattle.vx_machine.specs.declared.run.Came.TheVariants as came'
use Rattle.vx_machine.specs.declared.run.Found.{Found}
use Rattle.vx_stack.specs.declared.frame.Side.{Side}
use Rattle.vx_stack.specs.Stack.{side_tree, query}
use Rattle.vx_terms.specs.Terms.{Term}

-- of the two candidates of a probe, on top of the stack, one goes: the other one, or the one where it is refuted
abbrev pub without_other : List Side → List Side
without_other [] = []
without_other (a ∷ []) = a ∷ []
without_other (b ∷ a ∷ []) = a ∷ []
without_other (c ∷ b ∷ a ∷ rest) = c ∷ without_other (b ∷ a ∷ rest)

abbrev pub without_last : List Side → List Side
without_last [] = []
without_last (a ∷ []) = []
without_last (b ∷ a ∷ rest) = b ∷ without_last (a ∷ rest)

-- a question is asked, and its path begins with this one
abbrev pub AsksFrom : List Term → Ask → Type 0
AsksFrom base (ask'.Check new) = Begins base (query new).path
AsksFrom base (ask'.Done o) = ⊥

-- the question that is asked goes on from the one that was answered: its path begins with that one's
abbrev pub Stays : Phase → Ask → Type 0
Stays (phase'.Asked old) ask = AsksFrom (query old).path ask
Stays phase ask = ⊥

-- the question that is open is the one that was handed out
abbrev pub IsOpen : Phase → Ask → Type 0
IsOpen (phase'.Asked q) (ask'.Check asked) = query q ≡ query asked
IsOpen phase ask = ⊤

module _ (p : Program) where
  -- the side on top of a stack, if there is one, only adds to this path
  abbrev pub TopGrows : List Term → List Side → Type 0
  TopGrows base sides = (front : List Side) (a : Side) → sides ≡ front ++ a ∷ [] → Grows base (side_tree p a)

  -- behind a question of this path, a probe or not, whichever side goes on only adds to it
  abbrev pub GoesOnBy : (probe : Bool) → List Term → List Side → Type 0
  GoesOnBy false path sides = TopGrows path sides
  GoesOnBy true path sides = TopGrows path (without_other sides) × TopGrows path (without_last sides)

  -- behind an open question whichever side goes on only adds to its path
  abbrev pub GoesOn : Phase → List Side → Type 0
  GoesOn (phase'.Asked q) sides = GoesOnBy q.probe (query q).path sides
  GoesOn phase sides = ⊤

  -- what is asked begins with each path that the side on top only adds to
  abbrev pub AsksOnTop : List Side → Ask → Type 0
  AsksOnTop sides ask = (base : List Term) → TopGrows base sides → AsksFrom base ask

  -- after a turn of a side that only adds to this path: so does what goes on, and what is asked
  abbrev pub Adds : List Term → Came → List Side → Type 0
  Adds base came'.Over sides = ⊤
  Adds base came'.On sides = TopGrows base sides
  Adds base (came'.Asks q) sides = Begins base (query q).path × GoesOn (phase'.Asked q) sides

  -- from a stack to its next question: where that stays, it begins so; and whichever side goes on only adds to its path
  abbrev pub FindsFrom : List Side → Option Found → List Side → Type 0
  FindsFrom old None new = ⊤
  FindsFrom old (Some found) new = (found.stays ≡ true → AsksOnTop old (ask'.Check found.query)) × GoesOn (phase'.Asked found.query) new
