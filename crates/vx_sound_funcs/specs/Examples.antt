-- Functions that read a field under an instance, one whose body doesn't fit, and a predicate whose body doesn't.
use Rattle.std.specs.Prelude.{codes, ℕ, ℤ, false, List, [], ◌∷◌, Some, None}
use Rattle.vx_ast.specs.declared.ValueType.TheVariants.{Int}
use Rattle.vx_ast.specs.declared.ValueType.TheVariants as type
use Rattle.vx_ast.specs.Syntax.{Name, result_name, Program, Declaration, IsField, IsPredicate, IsFunction, Predicate, Function, Expr, Number, Truth, Part, Variable, Operate, Equal, Add, Read, Apply, Unfolding, Exprs, NoMore, More, Assertion, Points, Instance}
use Rattle.vx_frac.specs.Fractions.{full}
use Rattle.vx_meaning.specs.Values.{IntValue, RefValue}
use Rattle.vx_meaning.specs.States.{State, Heap, Store, Location, Folded}
use Rattle.vx_sound_preds.specs.Examples.{here, x, f, P, instance_of}

abbrev pub its_x : Exprs
its_x = More (Variable here x) NoMore

abbrev pub all : Expr
all = Part here 1 1

abbrev pub x_is_a_reference : List Declaration
x_is_a_reference = record { name = x; of = type.Ref } ∷ []

-- predicate P(x: Ref) { acc(x.f) }
abbrev pub box_body : Assertion
box_body = Points here (Variable here x) f all

abbrev pub box : Predicate
box = record { place = here; parameters = x_is_a_reference; body = Some box_body }

-- function get(x: Ref): Int requires P(x) { unfolding P(x) in x.f }
abbrev pub get : Name
get = codes "get"

abbrev pub getter : Function
getter = record {
  place = here;
  parameters = x_is_a_reference;
  of = Int;
  requires = Instance here P its_x all ∷ [];
  ensures = [];
  decreases = None;
  body = Unfolding here P its_x all (Read here (Variable here x) f);
}

-- function twice(x: Ref): Int requires P(x) ensures result == get(x) + get(x) { get(x) + get(x) }
abbrev pub twice : Name
twice = codes "twice"

abbrev pub doubler : Function
doubler = record {
  place = here;
  parameters = x_is_a_reference;
  of = Int;
  requires = Instance here P its_x all ∷ [];
  ensures = Operate here Equal (Variable here result_name) (Operate here Add (Apply here get its_x) (Apply here get its_x)) ∷ [];
  decreases = None;
  body = Operate here Add (Apply here get its_x) (Apply here get its_x);
}

-- function peek(x: Ref): Int { x.f }
abbrev pub peek : Name
peek = codes "peek"

abbrev pub peeker : Function
peeker = record { place = here; parameters = x_is_a_reference; of = Int; requires = []; ensures = []; decreases = None; body = Read here (Variable here x) f }

-- field f: Int, the predicate P, and the functions
abbrev pub boxes : Program
boxes =
    record { name = f; kind = IsField Int }
    ∷ record { name = P; kind = IsPredicate box }
    ∷ record { name = get; kind = IsFunction getter }
    ∷ record { name = twice; kind = IsFunction doubler }
    ∷ record { name = peek; kind = IsFunction peeker }
    ∷ []

abbrev pub field_of : ℕ → Location
field_of r = record { receiver = r; field = f }

-- x is 1
abbrev pub x_is_one : Store
x_is_one = (x, RefValue 1) ∷ []

-- 1.f has this value
abbrev pub with_value : ℤ → Heap
with_value z = (field_of 1, IntValue z) ∷ []

-- P(1) is held, and nothing else
abbrev pub holding : ℤ → State
holding z = record { store = x_is_one; heap = with_value z; holdings = (Folded (instance_of 1), full) ∷ []; old_heap = with_value z; old_holdings = [] }

-- nothing is held
abbrev pub bereft : ℤ → State
bereft z = record { store = x_is_one; heap = with_value z; holdings = []; old_heap = with_value z; old_holdings = [] }

-- function boast(): Int ensures false { 0 }
abbrev pub boast : Name
boast = codes "boast"

abbrev pub boaster : Function
boaster = record { place = here; parameters = []; of = Int; requires = []; ensures = Truth here false ∷ []; decreases = None; body = Number here 0 }

abbrev pub boasts : Program
boasts = record { name = boast; kind = IsFunction boaster } ∷ []

-- field f: Ref, field g: Int, predicate P(x: Ref) { acc(x.f.g) }
abbrev pub g : Name
g = codes "g"

abbrev pub loose : Predicate
loose = record { place = here; parameters = x_is_a_reference; body = Some (Points here (Read here (Variable here x) f) g all) }

abbrev pub looses : Program
looses = record { name = f; kind = IsField type.Ref } ∷ record { name = g; kind = IsField Int } ∷ record { name = P; kind = IsPredicate loose } ∷ []

-- 1.f is r
abbrev pub leads_to : ℕ → Heap
leads_to r = (field_of 1, RefValue r) ∷ []
