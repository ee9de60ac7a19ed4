-- States from which the examples run: x is the reference 1, y is 0, and x.f is 5.
use Rattle.std.specs.Prelude.{ℕ, ℤ, pos, [], ◌∷◌}
use Rattle.vx_frac.specs.Fractions.{Fraction, full}
use Rattle.vx_meaning.specs.Values.{IntValue, RefValue}
use Rattle.vx_meaning.specs.States.{Store, Heap, Holdings, State, Location, Instance, At, Folded}
use Rattle.vx_ast.specs.Syntax.{Expr, Apply, Number, Measure, ByInstance, More, NoMore, Variable}
use Rattle.vx_examples.specs.Words.{at}
use Rattle.vx_examples.specs.Functions as functions
use Rattle.vx_examples.specs.Functions.{next, list, length}
use Rattle.vx_examples.specs.Cells.{f, x, y, cell, hidden}

abbrev pub half : Fraction
half = record { numerator = pos 1; below = 1 }

abbrev pub x_f : Location
x_f = record { receiver = 1; field = f }

abbrev pub a_cell : Instance
a_cell = record { predicate = cell; arguments = RefValue 1 ∷ [] }

abbrev pub with_y : ℤ → Store
with_y n = (x, RefValue 1) ∷ (y, IntValue n) ∷ []

abbrev pub with_x_f : ℤ → Heap
with_x_f n = (x_f, IntValue n) ∷ []

abbrev pub state : Store → Heap → Holdings → State
state variables heap held = record { store = variables; heap = heap; holdings = held; old_heap = with_x_f (pos 5); old_holdings = [] }

abbrev pub holding : Holdings → State
holding held = state (with_y (pos 0)) (with_x_f (pos 5)) held

-- nothing is held
abbrev pub poor : State
poor = holding []

-- all of x.f
abbrev pub owner : State
owner = holding ((At x_f, full) ∷ [])

-- half of x.f
abbrev pub sharer : State
sharer = holding ((At x_f, half) ∷ [])

-- all of cell(x)
abbrev pub folder : State
folder = holding ((Folded a_cell, full) ∷ [])

-- nothing is held, and x.f was 4
abbrev pub later : State
later = record poor { old_heap = with_x_f (pos 4) }

-- all of hidden(x), which has no body
abbrev pub hider : State
hider = holding ((Folded record { predicate = hidden; arguments = RefValue 1 ∷ [] }, full) ∷ [])

-- Lists: nodes by their references

abbrev pub next_of : ℕ → Location
next_of r = record { receiver = r; field = next }

abbrev pub list_at : ℕ → Instance
list_at r = record { predicate = list; arguments = RefValue r ∷ [] }

-- 1 leads to 2, which is the last
abbrev pub two_nodes : Heap
two_nodes = (next_of 1, RefValue 2) ∷ []

-- 1 leads to itself
abbrev pub round : Heap
round = (next_of 1, RefValue 1) ∷ []

abbrev pub at_first : Holdings → State
at_first held = record { store = (functions.x, RefValue 1) ∷ []; heap = two_nodes; holdings = held; old_heap = two_nodes; old_holdings = held }

abbrev pub at_last : State
at_last = record { store = (functions.x, RefValue 2) ∷ []; heap = two_nodes; holdings = []; old_heap = two_nodes; old_holdings = [] }

-- the measure list(x)
abbrev pub list_of_x : Measure
list_of_x = ByInstance (at 3 76) list (More (Variable (at 3 81) functions.x) NoMore)

-- length(x), as in `var a: Int := length(x)`
abbrev pub length_of_x : Expr
length_of_x = Apply (at 7 15) length (More (Variable (at 7 22) functions.x) NoMore)

-- f(0), for the function whose measure rises
abbrev pub rising_at_zero : Expr
rising_at_zero = Apply (at 3 21) functions.f (More (Number (at 3 23) 0) NoMore)
