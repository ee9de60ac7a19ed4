-- Programs whose locations may have several chunks.
use Rattle.std.specs.Prelude.{ℕ, false, List, [], ◌∷◌, Some, codes}
use Rattle.vx_ast.specs.declared.ValueType.TheVariants.{Int}
use Rattle.vx_ast.specs.declared.ValueType.TheVariants as type
use Rattle.vx_ast.specs.Syntax.{Name, Assert, Assertion, Block, Both, Connect, Or, Declaration, Done, Equal, Exhale, Expr, IsField, IsMethod, Method, Not, Number, Operate, Part, Points, Program, Pure, Read, Then, Truth, Variable, Write}
use Rattle.vx_ast.specs.declared.Place.{Place}
use Rattle.vx_terms.specs.Terms.{Term}
use Rattle.vx_examples.specs.Words.{all, at, at_most, chosen_term, differ, equal, implied, int, none, null, plus, ref}
use Rattle.vx_rules.specs.Chunks.{Candidate}
use Rattle.vx_examples.specs.Walks.{field_chunk, half}
use Rattle.vx_examples.specs.Fields.{f, m, x, y}

abbrev pub z : Name
z = codes "z"

abbrev pub a_ref : Name → Declaration
a_ref n = record { name = n; of = type.Ref }

-- half of a location, or all of it
abbrev pub half_of : Place → Name → Assertion
half_of p n = Points p (Variable p n) f (Part p 1 2)

abbrev pub all_of : Place → Name → Assertion
all_of p n = Points p (Variable p n) f (Part p 1 1)

abbrev pub are_same : Place → Name → Name → Expr
are_same p n k = Operate p Equal (Variable p n) (Variable p k)

-- a method m(x: Ref, y: Ref) that has half of x.f and of y.f, which are one location
abbrev pub with_same_halves : Block → Method
with_same_halves body = record {
  place = at 2 1;
  parameters = a_ref x ∷ a_ref y ∷ [];
  returns = [];
  requires = Both (Both (half_of (at 3 10) x) (half_of (at 3 27) y)) (Pure (are_same (at 3 44) x y)) ∷ [];
  ensures = [];
  body = Some body;
}

-- field f: Int
-- method m(x: Ref, y: Ref, z: Ref)
-- requires acc(x.f, 1/2) && acc(y.f, 1/2) && acc(z.f, 1/2)
-- {
-- assert x != y || y != z
-- }
abbrev pub three_halves_m : Method
three_halves_m = record {
  place = at 2 1;
  parameters = a_ref x ∷ a_ref y ∷ a_ref z ∷ [];
  returns = [];
  requires = Both (Both (half_of (at 3 10) x) (half_of (at 3 27) y)) (half_of (at 3 44) z) ∷ [];
  ensures = [];
  body = Some (Then (Assert (at 5 1) (Pure (Connect (at 5 8) Or (Not (at 5 8) (are_same (at 5 8) x y)) (Not (at 5 18) (are_same (at 5 18) y z))))) Done);
}

abbrev pub three_halves : Program
three_halves = record { name = f; kind = IsField Int } ∷ record { name = m; kind = IsMethod three_halves_m } ∷ []

-- field f: Int
-- method m(x: Ref, y: Ref)
-- requires acc(x.f, 1/2) && acc(y.f, 1/2) && x == y
-- {
-- x.f := 1
-- assert y.f == 1
-- }
abbrev pub other_half : Program
other_half =
    record { name = f; kind = IsField Int }
    ∷ record { name = m; kind = IsMethod (with_same_halves (Then (Write (at 5 1) (Variable (at 5 1) x) f (Number (at 5 8) 1)) (Then (Assert (at 6 1) (Pure (Operate (at 6 8) Equal (Read (at 6 8) (Variable (at 6 8) y) f) (Number (at 6 15) 1)))) Done))) } ∷ []

-- field f: Int
-- method m(x: Ref, y: Ref)
-- requires acc(x.f, 1/2) && acc(y.f, 1/2) && x == y
-- {
-- exhale acc(x.f)
-- assert false
-- }
abbrev pub both_halves : Program
both_halves =
    record { name = f; kind = IsField Int }
    ∷ record { name = m; kind = IsMethod (with_same_halves (Then (Exhale (at 5 1) (all_of (at 5 8) x)) (Then (Assert (at 6 1) (Pure (Truth (at 6 8) false))) Done))) } ∷ []

-- field f: Int
-- method m(x: Ref, y: Ref, z: Ref)
-- requires acc(x.f) && acc(y.f)
-- {
-- exhale acc(z.f)
-- z.f := 1
-- }
abbrev pub taken_elsewhere_m : Method
taken_elsewhere_m = record {
  place = at 2 1;
  parameters = a_ref x ∷ a_ref y ∷ a_ref z ∷ [];
  returns = [];
  requires = Both (all_of (at 3 10) x) (all_of (at 3 22) y) ∷ [];
  ensures = [];
  body = Some (Then (Exhale (at 5 1) (all_of (at 5 8) z)) (Then (Write (at 6 1) (Variable (at 6 1) z) f (Number (at 6 8) 1)) Done));
}

abbrev pub taken_elsewhere : Program
taken_elsewhere = record { name = f; kind = IsField Int } ∷ record { name = m; kind = IsMethod taken_elsewhere_m } ∷ []

-- what is known of x and y where they have the halves of one location, and that both are all of it at x
abbrev pub same_path : List Term
same_path = differ (ref 0) null ∷ differ (ref 1) null ∷ implied (equal (ref 1) (ref 0)) (equal (int 3) (int 2)) ∷ equal (ref 0) (ref 1) ∷ []

abbrev pub wholly : Term
wholly = at_most all (plus half (chosen_term (equal (ref 1) (ref 0)) half none))

-- a chunk of f with this number, receiver and amount, whose value is the symbol 1
abbrev pub candidate : ℕ → Term → Term → Candidate
candidate n r a = record { number = n; chunk = field_chunk f r a (int 1) }
