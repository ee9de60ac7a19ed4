-- Small methods: some that never fail, some that can, and some that no typed text has.
use Rattle.std.specs.Prelude.{ℕ, true, false, codes, [], ◌∷◌, Some, None}
use Rattle.vx_ast.specs.declared.Place.{Place}
use Rattle.vx_ast.specs.declared.ValueType.TheVariants.{Int}
use Rattle.vx_ast.specs.declared.ValueType.TheVariants as type
use Rattle.vx_ast.specs.Syntax.{Name, Program, Block, IsField, IsMethod, Method, Equal, Greater, Add, Number, Truth, Part, Variable, Read, Operate, Not, Pure, Points, NoMore, More, Assign, Write, New, Call, Assert, While, Done, Then}

abbrev pub on_line : ℕ → Place
on_line n = record { line = n; column = 1 }

abbrev pub x : Name
x = codes "x"

abbrev pub y : Name
y = codes "y"

-- method inc(x: Int) returns (y: Int) ensures y > x { y := x + 1 }
abbrev pub inc : Method
inc = record {
  place = on_line 1;
  parameters = record { name = x; of = Int } ∷ [];
  returns = record { name = y; of = Int } ∷ [];
  requires = [];
  ensures = Pure (Operate (on_line 2) Greater (Variable (on_line 2) y) (Variable (on_line 2) x)) ∷ [];
  body = Some (Then (Assign (on_line 3) y (Operate (on_line 3) Add (Variable (on_line 3) x) (Number (on_line 3) 1))) Done);
}

-- method claim(x: Bool) { assert x }
abbrev pub claim : Method
claim = record {
  place = on_line 1;
  parameters = record { name = x; of = type.Bool } ∷ [];
  returns = [];
  requires = [];
  ensures = [];
  body = Some (Then (Assert (on_line 2) (Pure (Variable (on_line 3) x))) Done);
}

abbrev pub f : Name
f = codes "f"

-- field f: Int
abbrev pub cells : Program
cells = record { name = f; kind = IsField Int } ∷ []

-- method sets(x: Ref) requires acc(x.f, 1/1) { x.f := 1; assert x.f == 1 }
abbrev pub sets : Method
sets = record {
  place = on_line 1;
  parameters = record { name = x; of = type.Ref } ∷ [];
  returns = [];
  requires = Points (on_line 2) (Variable (on_line 2) x) f (Part (on_line 2) 1 1) ∷ [];
  ensures = [];
  body = Some (Then (Write (on_line 3) (Variable (on_line 3) x) f (Number (on_line 3) 1)) (Then (Assert (on_line 4) (Pure (Operate (on_line 4) Equal (Read (on_line 4) (Variable (on_line 4) x) f) (Number (on_line 4) 1)))) Done));
}

-- method repeats(x: Ref) requires acc(x.f, 1/1) { while (!(x.f == 1)) invariant acc(x.f, 1/1) { x.f := 1 } assert x.f == 1 }
abbrev pub repeats : Method
repeats = record {
  place = on_line 1;
  parameters = record { name = x; of = type.Ref } ∷ [];
  returns = [];
  requires = Points (on_line 2) (Variable (on_line 2) x) f (Part (on_line 2) 1 1) ∷ [];
  ensures = [];
  body = Some (Then (While (on_line 3) (Not (on_line 3) (Operate (on_line 3) Equal (Read (on_line 3) (Variable (on_line 3) x) f) (Number (on_line 3) 1)))
      (Points (on_line 4) (Variable (on_line 4) x) f (Part (on_line 4) 1 1) ∷ [])
      (Then (Write (on_line 5) (Variable (on_line 5) x) f (Number (on_line 5) 1)) Done))
      (Then (Assert (on_line 6) (Pure (Operate (on_line 6) Equal (Read (on_line 6) (Variable (on_line 6) x) f) (Number (on_line 6) 1)))) Done));
}

-- while (true) { x.f := 1 }
abbrev pub endless : Block
endless = Then (While (on_line 3) (Truth (on_line 3) true) [] (Then (Write (on_line 4) (Variable (on_line 4) x) f (Number (on_line 4) 1)) Done)) Done

-- method reaches(x: Ref) requires acc(x.f, 1/1), with `endless` as its body
abbrev pub reaches : Method
reaches = record {
  place = on_line 1;
  parameters = record { name = x; of = type.Ref } ∷ [];
  returns = [];
  requires = Points (on_line 2) (Variable (on_line 2) x) f (Part (on_line 2) 1 1) ∷ [];
  ensures = [];
  body = Some endless;
}

abbrev pub m : Name
m = codes "m"

-- field f: Int, and m as `sets`
abbrev pub writes : Program
writes = record { name = f; kind = IsField Int } ∷ record { name = m; kind = IsMethod sets } ∷ []

-- method twice(x: Ref) { x := new(f, f); assert false }, which no typed text has
abbrev pub twice : Method
twice = record {
  place = on_line 1;
  parameters = record { name = x; of = type.Ref } ∷ [];
  returns = [];
  requires = [];
  ensures = [];
  body = Some (Then (New (on_line 2) x (f ∷ f ∷ [])) (Then (Assert (on_line 3) (Pure (Truth (on_line 3) false))) Done));
}

abbrev pub c : Name
c = codes "c"

-- method c(x: Ref) requires acc(x.f, 1/1) ensures acc(x.f, 1/1) ensures x.f == 1
abbrev pub fills : Method
fills = record {
  place = on_line 1;
  parameters = record { name = x; of = type.Ref } ∷ [];
  returns = [];
  requires = Points (on_line 2) (Variable (on_line 2) x) f (Part (on_line 2) 1 1) ∷ [];
  ensures = Points (on_line 3) (Variable (on_line 3) x) f (Part (on_line 3) 1 1) ∷
      Pure (Operate (on_line 4) Equal (Read (on_line 4) (Variable (on_line 4) x) f) (Number (on_line 4) 1)) ∷ [];
  body = None;
}

-- method m(x: Ref) requires acc(x.f, 1/1) { c(x); assert x.f == 1 }
abbrev pub uses : Method
uses = record {
  place = on_line 5;
  parameters = record { name = x; of = type.Ref } ∷ [];
  returns = [];
  requires = Points (on_line 6) (Variable (on_line 6) x) f (Part (on_line 6) 1 1) ∷ [];
  ensures = [];
  body = Some (Then (Call (on_line 7) [] c (More (Variable (on_line 7) x) NoMore)) (Then (Assert (on_line 8) (Pure (Operate (on_line 8) Equal (Read (on_line 8) (Variable (on_line 8) x) f) (Number (on_line 8) 1)))) Done));
}

-- field f: Int, c as `fills`, and m as `uses`
abbrev pub calls : Program
calls = record { name = f; kind = IsField Int } ∷ record { name = c; kind = IsMethod fills } ∷ record { name = m; kind = IsMethod uses } ∷ []

-- method c() requires false
abbrev pub forbids : Method
forbids = record { place = on_line 1; parameters = []; returns = []; requires = Pure (Truth (on_line 2) false) ∷ []; ensures = []; body = None }

-- method c() requires x, where x isn't known: no typed text has it
abbrev pub unknown : Method
unknown = record { place = on_line 1; parameters = []; returns = []; requires = Pure (Variable (on_line 2) x) ∷ []; ensures = []; body = None }

-- method m() { c() }
abbrev pub trusts : Method
trusts = record { place = on_line 3; parameters = []; returns = []; requires = []; ensures = []; body = Some (Then (Call (on_line 4) [] c NoMore) Done) }

-- c as `forbids`, and m as `trusts`
abbrev pub forbidden : Program
forbidden = record { name = c; kind = IsMethod forbids } ∷ record { name = m; kind = IsMethod trusts } ∷ []

-- c as `unknown`, and m as `trusts`
abbrev pub untyped : Program
untyped = record { name = c; kind = IsMethod unknown } ∷ record { name = m; kind = IsMethod trusts } ∷ []
