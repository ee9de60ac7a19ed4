-- Programs over variables alone.
use Rattle.std.specs.Prelude.{true, false, [], ◌∷◌, Some, codes}
use Rattle.vx_ast.specs.declared.ValueType.TheVariants.{Int}
use Rattle.vx_ast.specs.declared.ValueType.TheVariants as type
use Rattle.vx_ast.specs.Syntax.{Name, Add, Assert, Assign, Connect, Done, Greater, If, Implies, IsMethod, Method, Number, Operate, Program, Pure, Then, Truth, Variable}
use Rattle.vx_examples.specs.Words.{at}

abbrev pub a : Name
a = codes "a"

abbrev pub b : Name
b = codes "b"

abbrev pub c : Name
c = codes "c"

abbrev pub id : Name
id = codes "id"

abbrev pub inc : Name
inc = codes "inc"

abbrev pub m : Name
m = codes "m"

abbrev pub x : Name
x = codes "x"

abbrev pub y : Name
y = codes "y"

-- method id(b: Bool) returns (c: Bool) requires b ensures c { c := b }
abbrev pub copying_id : Method
copying_id = record {
  place = at 1 1;
  parameters = record { name = b; of = type.Bool } ∷ [];
  returns = record { name = c; of = type.Bool } ∷ [];
  requires = Pure (Variable (at 1 47) b) ∷ [];
  ensures = Pure (Variable (at 1 57) c) ∷ [];
  body = Some (Then (Assign (at 1 61) c (Variable (at 1 66) b)) Done);
}

abbrev pub copying : Program
copying = record { name = id; kind = IsMethod copying_id } ∷ []

-- method m() requires false { assert false }
abbrev pub from_false_m : Method
from_false_m = record {
  place = at 1 1;
  parameters = [];
  returns = [];
  requires = Pure (Truth (at 1 21) false) ∷ [];
  ensures = [];
  body = Some (Then (Assert (at 1 29) (Pure (Truth (at 1 36) false))) Done);
}

abbrev pub from_false : Program
from_false = record { name = m; kind = IsMethod from_false_m } ∷ []

-- method inc(x: Int) returns (y: Int) ensures y > x { y := x + 1 }
abbrev pub incrementing_inc : Method
incrementing_inc = record {
  place = at 1 1;
  parameters = record { name = x; of = Int } ∷ [];
  returns = record { name = y; of = Int } ∷ [];
  requires = [];
  ensures = Pure (Operate (at 1 45) Greater (Variable (at 1 45) y) (Variable (at 1 49) x)) ∷ [];
  body = Some (Then (Assign (at 1 53) y (Operate (at 1 58) Add (Variable (at 1 58) x) (Number (at 1 62) 1))) Done);
}

abbrev pub incrementing : Program
incrementing = record { name = inc; kind = IsMethod incrementing_inc } ∷ []

-- method m() { assert 170141183460469231731687303715884105727 > 0 }
abbrev pub big_literal_m : Method
big_literal_m = record {
  place = at 1 1;
  parameters = [];
  returns = [];
  requires = [];
  ensures = [];
  body = Some (Then (Assert (at 1 14) (Pure (Operate (at 1 21) Greater (Number (at 1 21) 170141183460469231731687303715884105727) (Number (at 1 63) 0)))) Done);
}

abbrev pub big_literal : Program
big_literal = record { name = m; kind = IsMethod big_literal_m } ∷ []

-- method m(a: Bool, b: Bool)
-- {
-- if (a) { assert true } else { assert true }
-- if (b) { assert a ==> a } else { assert a }
-- }
abbrev pub four_ways_m : Method
four_ways_m = record {
  place = at 1 1;
  parameters = record { name = a; of = type.Bool } ∷ record { name = b; of = type.Bool } ∷ [];
  returns = [];
  requires = [];
  ensures = [];
  body = Some (Then (If (at 3 1) (Variable (at 3 5) a) (Then (Assert (at 3 10) (Pure (Truth (at 3 17) true))) Done) (Then (Assert (at 3 31) (Pure (Truth (at 3 38) true))) Done)) (Then (If (at 4 1) (Variable (at 4 5) b) (Then (Assert (at 4 10) (Pure (Connect (at 4 17) Implies (Variable (at 4 17) a) (Variable (at 4 23) a)))) Done) (Then (Assert (at 4 34) (Pure (Variable (at 4 41) a))) Done)) Done));
}

abbrev pub four_ways : Program
four_ways = record { name = m; kind = IsMethod four_ways_m } ∷ []
