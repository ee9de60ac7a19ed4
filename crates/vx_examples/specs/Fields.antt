-- Programs over fields and fractions.
use Rattle.std.specs.Prelude.{[], ◌∷◌, Some, codes}
use Rattle.vx_ast.specs.declared.ValueType.TheVariants.{Int}
use Rattle.vx_ast.specs.declared.ValueType.TheVariants as type
use Rattle.vx_ast.specs.Syntax.{Name, Assert, Both, Done, Equal, Exhale, Inhale, IsField, IsMethod, Method, Not, Number, Old, Operate, Part, Points, Program, Pure, Read, Then, Variable, Write}
use Rattle.vx_examples.specs.Words.{at}

abbrev pub f : Name
f = codes "f"

abbrev pub m : Name
m = codes "m"

abbrev pub x : Name
x = codes "x"

abbrev pub y : Name
y = codes "y"

-- field f: Int
-- method m(x: Ref)
-- {
-- inhale acc(x.f, 1/2)
-- inhale acc(x.f, 1/2)
-- exhale acc(x.f)
-- }
abbrev pub two_halves_m : Method
two_halves_m = record {
  place = at 2 1;
  parameters = record { name = x; of = type.Ref } ∷ [];
  returns = [];
  requires = [];
  ensures = [];
  body = Some (Then (Inhale (at 4 1) (Points (at 4 8) (Variable (at 4 12) x) f (Part (at 4 17) 1 2))) (Then (Inhale (at 5 1) (Points (at 5 8) (Variable (at 5 12) x) f (Part (at 5 17) 1 2))) (Then (Exhale (at 6 1) (Points (at 6 8) (Variable (at 6 12) x) f (Part (at 6 8) 1 1))) Done)));
}

abbrev pub two_halves : Program
two_halves = record { name = f; kind = IsField Int } ∷ record { name = m; kind = IsMethod two_halves_m } ∷ []

-- field f: Int
-- method m(x: Ref) requires acc(x.f)
-- {
-- exhale acc(x.f) && acc(x.f)
-- }
abbrev pub exhaled_twice_m : Method
exhaled_twice_m = record {
  place = at 2 1;
  parameters = record { name = x; of = type.Ref } ∷ [];
  returns = [];
  requires = Points (at 2 27) (Variable (at 2 31) x) f (Part (at 2 27) 1 1) ∷ [];
  ensures = [];
  body = Some (Then (Exhale (at 4 1) (Both (Points (at 4 8) (Variable (at 4 12) x) f (Part (at 4 8) 1 1)) (Points (at 4 20) (Variable (at 4 24) x) f (Part (at 4 20) 1 1)))) Done);
}

abbrev pub exhaled_twice : Program
exhaled_twice = record { name = f; kind = IsField Int } ∷ record { name = m; kind = IsMethod exhaled_twice_m } ∷ []

-- field f: Int
-- method m(x: Ref, y: Ref)
-- requires acc(x.f, 1/2) && acc(y.f, 1/2)
-- {
-- assert x != y
-- }
abbrev pub maybe_same_m : Method
maybe_same_m = record {
  place = at 2 1;
  parameters = record { name = x; of = type.Ref } ∷ record { name = y; of = type.Ref } ∷ [];
  returns = [];
  requires = Both (Points (at 3 10) (Variable (at 3 14) x) f (Part (at 3 19) 1 2)) (Points (at 3 27) (Variable (at 3 31) y) f (Part (at 3 36) 1 2)) ∷ [];
  ensures = [];
  body = Some (Then (Assert (at 5 1) (Pure (Not (at 5 8) (Operate (at 5 8) Equal (Variable (at 5 8) x) (Variable (at 5 13) y))))) Done);
}

abbrev pub maybe_same : Program
maybe_same = record { name = f; kind = IsField Int } ∷ record { name = m; kind = IsMethod maybe_same_m } ∷ []

-- field f: Int
-- method m(x: Ref, y: Ref)
-- requires acc(x.f) && acc(y.f)
-- {
-- assert x != y
-- }
abbrev pub never_same_m : Method
never_same_m = record {
  place = at 2 1;
  parameters = record { name = x; of = type.Ref } ∷ record { name = y; of = type.Ref } ∷ [];
  returns = [];
  requires = Both (Points (at 3 10) (Variable (at 3 14) x) f (Part (at 3 10) 1 1)) (Points (at 3 22) (Variable (at 3 26) y) f (Part (at 3 22) 1 1)) ∷ [];
  ensures = [];
  body = Some (Then (Assert (at 5 1) (Pure (Not (at 5 8) (Operate (at 5 8) Equal (Variable (at 5 8) x) (Variable (at 5 13) y))))) Done);
}

abbrev pub never_same : Program
never_same = record { name = f; kind = IsField Int } ∷ record { name = m; kind = IsMethod never_same_m } ∷ []

-- field f: Int
-- method m(x: Ref) requires acc(x.f)
-- {
-- exhale acc(x.f)
-- inhale acc(x.f)
-- assert x.f == old(x.f)
-- }
abbrev pub forgotten_m : Method
forgotten_m = record {
  place = at 2 1;
  parameters = record { name = x; of = type.Ref } ∷ [];
  returns = [];
  requires = Points (at 2 27) (Variable (at 2 31) x) f (Part (at 2 27) 1 1) ∷ [];
  ensures = [];
  body = Some (Then (Exhale (at 4 1) (Points (at 4 8) (Variable (at 4 12) x) f (Part (at 4 8) 1 1))) (Then (Inhale (at 5 1) (Points (at 5 8) (Variable (at 5 12) x) f (Part (at 5 8) 1 1))) (Then (Assert (at 6 1) (Pure (Operate (at 6 8) Equal (Read (at 6 8) (Variable (at 6 8) x) f) (Old (at 6 15) (Read (at 6 19) (Variable (at 6 19) x) f))))) Done)));
}

abbrev pub forgotten : Program
forgotten = record { name = f; kind = IsField Int } ∷ record { name = m; kind = IsMethod forgotten_m } ∷ []

-- field f: Int
-- method m(x: Ref) requires acc(x.f, 1/2)
-- {
-- x.f := 1
-- }
abbrev pub half_write_m : Method
half_write_m = record {
  place = at 2 1;
  parameters = record { name = x; of = type.Ref } ∷ [];
  returns = [];
  requires = Points (at 2 27) (Variable (at 2 31) x) f (Part (at 2 36) 1 2) ∷ [];
  ensures = [];
  body = Some (Then (Write (at 4 1) (Variable (at 4 1) x) f (Number (at 4 8) 1)) Done);
}

abbrev pub half_write : Program
half_write = record { name = f; kind = IsField Int } ∷ record { name = m; kind = IsMethod half_write_m } ∷ []
