-- A function whose precondition reads a field before it gives it: it can be taken where the field is held, but the function never starts.
use Rattle.std.specs.Prelude.{codes, [], ◌∷◌, None}
use Rattle.vx_frac.specs.Fractions.{full}
use Rattle.vx_ast.specs.declared.ValueType.TheVariants.{Int}
use Rattle.vx_ast.specs.Syntax.{Name, Program, IsField, IsFunction, Function, Expr, Number, Variable, Operate, Equal, Read, Assertion, Pure, Points}
use Rattle.vx_meaning.specs.States.{State, At}
use Rattle.vx_sound_preds.specs.Examples.{here, x, f}
use Rattle.vx_sound_funcs.specs.Examples.{all, x_is_a_reference, field_of}

-- function eager(x: Ref): Int requires x.f == 0 requires acc(x.f) { 0 }
abbrev pub eager : Name
eager = codes "eager"

abbrev pub is_nought : Expr
is_nought = Operate here Equal (Read here (Variable here x) f) (Number here 0)

abbrev pub has_field : Assertion
has_field = Points here (Variable here x) f all

abbrev pub reader : Function
reader = record { place = here; parameters = x_is_a_reference; of = Int; requires = Pure is_nought ∷ has_field ∷ []; ensures = []; decreases = None; body = Number here 0 }

-- field f: Int, and the function
abbrev pub eagers : Program
eagers = record { name = f; kind = IsField Int } ∷ record { name = eager; kind = IsFunction reader } ∷ []

-- 1.f is held, and is 0
abbrev pub held : State
held = record { store = []; heap = []; holdings = (At (field_of 1), full) ∷ []; old_heap = []; old_holdings = [] }
