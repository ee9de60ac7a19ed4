-- Programs with calls.
use Rattle.std.specs.Prelude.{[], ◌∷◌, Some, None, codes}
use Rattle.vx_ast.specs.declared.ValueType.TheVariants.{Int}
use Rattle.vx_ast.specs.declared.ValueType.TheVariants as type
use Rattle.vx_ast.specs.Syntax.{Name, Add, Both, Call, Done, Equal, IsField, IsMethod, Method, More, NoMore, Number, Old, Operate, Part, Points, Program, Pure, Read, Then, Variable}
use Rattle.vx_examples.specs.Words.{at}

abbrev pub f : Name
f = codes "f"

abbrev pub inc : Name
inc = codes "inc"

abbrev pub m : Name
m = codes "m"

abbrev pub x : Name
x = codes "x"

-- field f: Int
-- method inc(x: Ref) requires acc(x.f) ensures acc(x.f) && x.f == old(x.f) + 1
-- method m(x: Ref) requires acc(x.f) ensures acc(x.f) && x.f == old(x.f) + 1
-- {
-- inc(x)
-- }
abbrev pub called_for_inc : Method
called_for_inc = record {
  place = at 2 1;
  parameters = record { name = x; of = type.Ref } ∷ [];
  returns = [];
  requires = Points (at 2 29) (Variable (at 2 33) x) f (Part (at 2 29) 1 1) ∷ [];
  ensures = Both (Points (at 2 46) (Variable (at 2 50) x) f (Part (at 2 46) 1 1)) (Pure (Operate (at 2 58) Equal (Read (at 2 58) (Variable (at 2 58) x) f) (Operate (at 2 65) Add (Old (at 2 65) (Read (at 2 69) (Variable (at 2 69) x) f)) (Number (at 2 76) 1)))) ∷ [];
  body = None;
}

abbrev pub called_for_m : Method
called_for_m = record {
  place = at 3 1;
  parameters = record { name = x; of = type.Ref } ∷ [];
  returns = [];
  requires = Points (at 3 27) (Variable (at 3 31) x) f (Part (at 3 27) 1 1) ∷ [];
  ensures = Both (Points (at 3 44) (Variable (at 3 48) x) f (Part (at 3 44) 1 1)) (Pure (Operate (at 3 56) Equal (Read (at 3 56) (Variable (at 3 56) x) f) (Operate (at 3 63) Add (Old (at 3 63) (Read (at 3 67) (Variable (at 3 67) x) f)) (Number (at 3 74) 1)))) ∷ [];
  body = Some (Then (Call (at 5 1) [] inc (More (Variable (at 5 5) x) NoMore)) Done);
}

abbrev pub called_for : Program
called_for = record { name = f; kind = IsField Int } ∷ record { name = inc; kind = IsMethod called_for_inc } ∷ record { name = m; kind = IsMethod called_for_m } ∷ []

-- field f: Int
-- method inc(x: Ref) requires acc(x.f) ensures acc(x.f) && x.f == old(x.f) + 1
-- method m(x: Ref) { inc(x) }
abbrev pub called_bare_inc : Method
called_bare_inc = record {
  place = at 2 1;
  parameters = record { name = x; of = type.Ref } ∷ [];
  returns = [];
  requires = Points (at 2 29) (Variable (at 2 33) x) f (Part (at 2 29) 1 1) ∷ [];
  ensures = Both (Points (at 2 46) (Variable (at 2 50) x) f (Part (at 2 46) 1 1)) (Pure (Operate (at 2 58) Equal (Read (at 2 58) (Variable (at 2 58) x) f) (Operate (at 2 65) Add (Old (at 2 65) (Read (at 2 69) (Variable (at 2 69) x) f)) (Number (at 2 76) 1)))) ∷ [];
  body = None;
}

abbrev pub called_bare_m : Method
called_bare_m = record {
  place = at 3 1;
  parameters = record { name = x; of = type.Ref } ∷ [];
  returns = [];
  requires = [];
  ensures = [];
  body = Some (Then (Call (at 3 20) [] inc (More (Variable (at 3 24) x) NoMore)) Done);
}

abbrev pub called_bare : Program
called_bare = record { name = f; kind = IsField Int } ∷ record { name = inc; kind = IsMethod called_bare_inc } ∷ record { name = m; kind = IsMethod called_bare_m } ∷ []
