-- A function whose precondition asks for a field where another function is 0: it has an asking tree, and no tree.
use Rattle.std.specs.Prelude.{codes, ℤ, pos, [], ◌∷◌, None}
use Rattle.vx_frac.specs.Fractions.{full}
use Rattle.vx_ast.specs.declared.ValueType.TheVariants.{Int}
use Rattle.vx_ast.specs.Syntax.{Name, Program, IsField, IsFunction, Function, Expr, Number, Variable, Operate, Equal, Read, Apply, Assertion, Points, Implied}
use Rattle.vx_meaning.specs.Values.{IntValue}
use Rattle.vx_meaning.specs.States.{State, Heap, Location, At}
use Rattle.vx_sound_preds.specs.Examples.{here, x, f}
use Rattle.vx_sound_funcs.specs.Examples.{all, its_x, x_is_a_reference, x_is_one, field_of, g}

abbrev pub has_field : Name → Assertion
has_field y = Points here (Variable here x) y all

-- function kind(x: Ref): Int requires acc(x.f) { x.f }
abbrev pub kind : Name
kind = codes "kind"

abbrev pub kinds : Function
kinds = record { place = here; parameters = x_is_a_reference; of = Int; requires = has_field f ∷ []; ensures = []; decreases = None; body = Read here (Variable here x) f }

-- kind(x) == 0
abbrev pub is_nought : Expr
is_nought = Operate here Equal (Apply here kind its_x) (Number here 0)

-- function part(x: Ref): Int requires acc(x.f) requires kind(x) == 0 ==> acc(x.g) { 0 }
abbrev pub part : Name
part = codes "part"

abbrev pub parts : Function
parts = record { place = here; parameters = x_is_a_reference; of = Int; requires = has_field f ∷ Implied is_nought (has_field g) ∷ []; ensures = []; decreases = None; body = Number here 0 }

-- field f: Int, field g: Int, and the functions
abbrev pub tagged : Program
tagged = record { name = f; kind = IsField Int } ∷ record { name = g; kind = IsField Int } ∷ record { name = kind; kind = IsFunction kinds } ∷ record { name = part; kind = IsFunction parts } ∷ []

abbrev pub other_of : Location
other_of = record { receiver = 1; field = g }

-- 1.f is 0, and 1.g has this value
abbrev pub nought_with : ℤ → Heap
nought_with z = (field_of 1, IntValue (pos 0)) ∷ (other_of, IntValue z) ∷ []

-- x is 1, and both fields are held
abbrev pub both_held : ℤ → State
both_held z = record { store = x_is_one; heap = nought_with z; holdings = (At other_of, full) ∷ (At (field_of 1), full) ∷ []; old_heap = nought_with z; old_holdings = [] }
