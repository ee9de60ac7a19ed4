-- Small methods whose failures are real.
use Rattle.std.specs.Prelude.{ℕ, codes, [], ◌∷◌, Some, None}
use Rattle.vx_ast.specs.declared.Place.{Place}
use Rattle.vx_ast.specs.declared.ValueType.TheVariants.{Int}
use Rattle.vx_ast.specs.declared.ValueType.TheVariants as type
use Rattle.vx_ast.specs.Syntax.{Name, Program, IsField, IsMethod, Method, Equal, Less, Add, Number, Part, Variable, Read, Operate, Pure, Points, NoMore, More, Write, Call, Assert, While, Done, Then}

abbrev pub on_line : ℕ → Place
on_line n = record { line = n; column = 1 }

abbrev pub x : Name
x = codes "x"

abbrev pub y : Name
y = codes "y"

abbrev pub f : Name
f = codes "f"

abbrev pub c : Name
c = codes "c"

abbrev pub m : Name
m = codes "m"

-- field f: Int
abbrev pub cells : Program
cells = record { name = f; kind = IsField Int } ∷ []

-- method halves(x: Ref, y: Ref) requires acc(x.f, 1/2) requires acc(y.f, 1/2) { x.f := 1 }
abbrev pub halves : Method
halves = record {
  place = on_line 1;
  parameters = record { name = x; of = type.Ref } ∷ record { name = y; of = type.Ref } ∷ [];
  returns = [];
  requires = Points (on_line 2) (Variable (on_line 2) x) f (Part (on_line 2) 1 2) ∷ Points (on_line 3) (Variable (on_line 3) y) f (Part (on_line 3) 1 2) ∷ [];
  ensures = [];
  body = Some (Then (Write (on_line 4) (Variable (on_line 4) x) f (Number (on_line 4) 1)) Done);
}

-- method counts(x: Ref) requires acc(x.f, 1/1) { while (x.f < 5) invariant acc(x.f, 1/1) { x.f := x.f + 1 } assert x.f == 5 }
abbrev pub counts : Method
counts = record {
  place = on_line 1;
  parameters = record { name = x; of = type.Ref } ∷ [];
  returns = [];
  requires = Points (on_line 2) (Variable (on_line 2) x) f (Part (on_line 2) 1 1) ∷ [];
  ensures = [];
  body = Some (Then (While (on_line 3) (Operate (on_line 3) Less (Read (on_line 3) (Variable (on_line 3) x) f) (Number (on_line 3) 5))
      (Points (on_line 4) (Variable (on_line 4) x) f (Part (on_line 4) 1 1) ∷ [])
      (Then (Write (on_line 5) (Variable (on_line 5) x) f (Operate (on_line 5) Add (Read (on_line 5) (Variable (on_line 5) x) f) (Number (on_line 5) 1))) Done))
      (Then (Assert (on_line 6) (Pure (Operate (on_line 6) Equal (Read (on_line 6) (Variable (on_line 6) x) f) (Number (on_line 6) 5)))) Done));
}

-- method c(x: Ref) requires acc(x.f, 1/1) ensures acc(x.f, 1/1)
abbrev pub changes : Method
changes = record {
  place = on_line 1;
  parameters = record { name = x; of = type.Ref } ∷ [];
  returns = [];
  requires = Points (on_line 2) (Variable (on_line 2) x) f (Part (on_line 2) 1 1) ∷ [];
  ensures = Points (on_line 3) (Variable (on_line 3) x) f (Part (on_line 3) 1 1) ∷ [];
  body = None;
}

-- method m(x: Ref) requires acc(x.f, 1/1) { x.f := 1; c(x); assert x.f == 1 }
abbrev pub hopes : Method
hopes = record {
  place = on_line 4;
  parameters = record { name = x; of = type.Ref } ∷ [];
  returns = [];
  requires = Points (on_line 5) (Variable (on_line 5) x) f (Part (on_line 5) 1 1) ∷ [];
  ensures = [];
  body = Some (Then (Write (on_line 6) (Variable (on_line 6) x) f (Number (on_line 6) 1)) (Then (Call (on_line 7) [] c (More (Variable (on_line 7) x) NoMore))
      (Then (Assert (on_line 8) (Pure (Operate (on_line 8) Equal (Read (on_line 8) (Variable (on_line 8) x) f) (Number (on_line 8) 1)))) Done)));
}

-- field f: Int, c as `changes`, and m as `hopes`
abbrev pub calls : Program
calls = record { name = f; kind = IsField Int } ∷ record { name = c; kind = IsMethod changes } ∷ record { name = m; kind = IsMethod hopes } ∷ []
