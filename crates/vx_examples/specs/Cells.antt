-- A program with one of each kind of member.
use Rattle.std.specs.Prelude.{false, [], ◌∷◌, Some, None, codes}
use Rattle.vx_ast.specs.declared.ValueType.TheVariants.{Int}
use Rattle.vx_ast.specs.declared.ValueType.TheVariants as type
use Rattle.vx_ast.specs.Syntax.{Name, Both, Equal, Function, IsField, IsFunction, IsMethod, IsPredicate, Method, Number, Old, Operate, Part, Points, Predicate, Program, Pure, Read, Truth, Variable}
use Rattle.vx_examples.specs.Words.{at}

abbrev pub cell : Name
cell = codes "cell"

abbrev pub f : Name
f = codes "f"

abbrev pub get : Name
get = codes "get"

abbrev pub hidden : Name
hidden = codes "hidden"

abbrev pub never : Name
never = codes "never"

abbrev pub read_name : Name
read_name = codes "read"

abbrev pub unframed : Name
unframed = codes "unframed"

abbrev pub x : Name
x = codes "x"

abbrev pub y : Name
y = codes "y"

-- field f: Int
-- predicate cell(x: Ref) { acc(x.f) }
-- predicate hidden(x: Ref)
-- function get(x: Ref): Int requires acc(x.f) { x.f }
-- method read(x: Ref) returns (y: Int) requires acc(x.f) ensures acc(x.f) && y == old(x.f)
-- method never(x: Ref) ensures false
-- method unframed(x: Ref) ensures x.f == 0
abbrev pub cells_cell : Predicate
cells_cell = record {
  place = at 2 1;
  parameters = record { name = x; of = type.Ref } ∷ [];
  body = Some (Points (at 2 26) (Variable (at 2 30) x) f (Part (at 2 26) 1 1));
}

abbrev pub cells_hidden : Predicate
cells_hidden = record {
  place = at 3 1;
  parameters = record { name = x; of = type.Ref } ∷ [];
  body = None;
}

abbrev pub cells_get : Function
cells_get = record {
  place = at 4 1;
  parameters = record { name = x; of = type.Ref } ∷ [];
  of = Int;
  requires = Points (at 4 36) (Variable (at 4 40) x) f (Part (at 4 36) 1 1) ∷ [];
  ensures = [];
  decreases = None;
  body = Read (at 4 47) (Variable (at 4 47) x) f;
}

abbrev pub cells_read : Method
cells_read = record {
  place = at 5 1;
  parameters = record { name = x; of = type.Ref } ∷ [];
  returns = record { name = y; of = Int } ∷ [];
  requires = Points (at 5 47) (Variable (at 5 51) x) f (Part (at 5 47) 1 1) ∷ [];
  ensures = Both (Points (at 5 64) (Variable (at 5 68) x) f (Part (at 5 64) 1 1)) (Pure (Operate (at 5 76) Equal (Variable (at 5 76) y) (Old (at 5 81) (Read (at 5 85) (Variable (at 5 85) x) f)))) ∷ [];
  body = None;
}

abbrev pub cells_never : Method
cells_never = record {
  place = at 6 1;
  parameters = record { name = x; of = type.Ref } ∷ [];
  returns = [];
  requires = [];
  ensures = Pure (Truth (at 6 30) false) ∷ [];
  body = None;
}

abbrev pub cells_unframed : Method
cells_unframed = record {
  place = at 7 1;
  parameters = record { name = x; of = type.Ref } ∷ [];
  returns = [];
  requires = [];
  ensures = Pure (Operate (at 7 33) Equal (Read (at 7 33) (Variable (at 7 33) x) f) (Number (at 7 40) 0)) ∷ [];
  body = None;
}

abbrev pub cells : Program
cells = record { name = f; kind = IsField Int } ∷ record { name = cell; kind = IsPredicate cells_cell } ∷ record { name = hidden; kind = IsPredicate cells_hidden } ∷ record { name = get; kind = IsFunction cells_get } ∷ record { name = read_name; kind = IsMethod cells_read } ∷ record { name = never; kind = IsMethod cells_never } ∷ record { name = unframed; kind = IsMethod cells_unframed } ∷ []
