-- Small programs, with their whole runs.
use Rattle.std.specs.Prelude.{ℕ, false, [], ◌∷◌, Some}
use Rattle.std.specs.Prelude.{codes}
use Rattle.vx_ast.specs.declared.Place.{Place}
use Rattle.vx_ast.specs.declared.ValueType.TheVariants.{Int}
use Rattle.vx_frac.specs.Fractions.{full, product, over}
use Rattle.vx_ast.specs.Syntax.{Name, Program, IsField, IsMethod, Method, Truth, Part, Variable, Assertion, Pure, Points, Call, NoMore, Done, Then}
use Rattle.vx_meaning.specs.Values.{RefValue}
use Rattle.vx_meaning.specs.States.{State, Location, At}
use Rattle.vx_meaning.specs.Around.{Around, nobody, waits}

abbrev pub column : ℕ → Place
column n = record { line = 1; column = n }

-- method bad() ensures false { } method m() { bad() }

abbrev pub bad : Name
bad = codes "bad"

abbrev pub lies : Method
lies = record { place = column 8; parameters = []; returns = []; requires = []; ensures = Pure (Truth (column 22) false) ∷ []; body = Some Done }

abbrev pub calls : Method
calls = record { place = column 39; parameters = []; returns = []; requires = []; ensures = []; body = Some (Then (Call (column 45) [] bad NoMore) Done) }

abbrev pub both : Program
both = record { name = bad; kind = IsMethod lies } ∷ record { name = codes "m"; kind = IsMethod calls } ∷ []

-- field f: Int
-- method c(y: Ref) { inhale acc(y.f)  y.f := 5  exhale acc(y.f) }
-- method m(x: Ref) requires acc(x.f) { x.f := 1  c(x)  assert x.f == 1 }

abbrev pub f : Name
f = codes "f"

abbrev pub with_field : Program
with_field = record { name = f; kind = IsField Int } ∷ []

abbrev pub at_one : Location
at_one = record { receiver = 1; field = f }

-- acc(y.f)
abbrev pub access : Assertion
access = Points (column 1) (Variable (column 5) (codes "y")) f (Part (column 1) 1 1)

-- m, with all of x.f left
abbrev pub caller : State
caller = record { store = (codes "x", RefValue 1) ∷ []; heap = []; holdings = (At at_one, full) ∷ []; old_heap = []; old_holdings = [] }

abbrev pub waiting : Around
waiting = waits caller ((At at_one, full) ∷ []) nobody

-- c, where it begins
abbrev pub callee : State
callee = record { store = (codes "y", RefValue 1) ∷ []; heap = []; holdings = []; old_heap = []; old_holdings = [] }

-- and where access is given
abbrev pub granted : State
granted = record { store = (codes "y", RefValue 1) ∷ []; heap = []; holdings = (At at_one, product full (over 1 1)) ∷ []; old_heap = []; old_holdings = [] }

-- a method without parameters, where it begins
abbrev pub created : State
created = record { store = []; heap = []; holdings = []; old_heap = []; old_holdings = [] }
