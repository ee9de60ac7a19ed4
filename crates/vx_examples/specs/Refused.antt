-- Bodies of predicates that typing refuses: each lets what is inside an instance be other than what it gives.
use Rattle.std.specs.Prelude.{ℕ, pos, [], ◌∷◌, List, Option, Some, None, codes}
use Rattle.vx_ast.specs.declared.ValueType.TheVariants.{Int}
use Rattle.vx_ast.specs.declared.ValueType.TheVariants as type
use Rattle.vx_ast.specs.Syntax.{Name, Assertion, Both, Equal, Expr, Implied, Instance, IsField, IsPredicate, More, NoMore, Null, Old, Operate, Part, Points, Predicate, Program, Pure, Read, Subtract, Variable}
use Rattle.vx_frac.specs.Fractions.{Fraction, full, none}
use Rattle.vx_meaning.specs.Values.{RefValue}
use Rattle.vx_meaning.specs.States as run
use Rattle.vx_meaning.specs.States.{Holdings, Location, State, At, Folded}
use Rattle.vx_examples.specs.Words.{at}
use Rattle.vx_examples.specs.Cells.{f, x, y}
use Rattle.vx_examples.specs.Scenes.{x_f, owner, with_x_f}

abbrev pub P_name : Name
P_name = codes "P"

-- field f: Int, and P
abbrev pub with_P : Predicate → Program
with_P d = record { name = f; kind = IsField Int } ∷ record { name = P_name; kind = IsPredicate d } ∷ []

-- field f: Int
-- predicate P(x: Ref) { acc(x.f) && acc(P(x), none) }
abbrev pub loops_P : Predicate
loops_P = record {
  place = at 2 1;
  parameters = record { name = x; of = type.Ref } ∷ [];
  body = Some (Both (Points (at 2 23) (Variable (at 2 27) x) f (Part (at 2 23) 1 1)) (Instance (at 2 35) P_name (More (Variable (at 2 41) x) NoMore) (Part (at 2 45) 0 1)));
}

abbrev pub loops : Program
loops = with_P loops_P

abbrev pub P_one : run.Instance
P_one = record { predicate = P_name; arguments = RefValue 1 ∷ [] }

-- all of P(x)
abbrev pub all_of_P : Holdings
all_of_P = (Folded P_one, full) ∷ []

-- by fuel, what lies inside P(x)
abbrev pub flat_lists : List (ℕ × Option Holdings)
flat_lists = (0, None) ∷ (1, None) ∷ (2, None) ∷ (3, None) ∷ (4, None) ∷ []

-- by fuel, what is held of x.f where all of P(x) is
abbrev pub looping_totals : List (ℕ × Fraction)
looping_totals = (0, none) ∷ (1, none) ∷ (2, none) ∷ (3, none) ∷ (4, none) ∷ []

-- field f: Int
-- predicate P(x: Ref, y: Ref) { acc(x.f) && (x == null ==> acc(x.f, none - write) && acc(y.f, none - write)) }
abbrev pub owes_P : Predicate
owes_P = record {
  place = at 2 1;
  parameters = record { name = x; of = type.Ref } ∷ record { name = y; of = type.Ref } ∷ [];
  body = Some (Both (Points (at 2 31) (Variable (at 2 35) x) f (Part (at 2 31) 1 1)) (Implied (Operate (at 2 44) Equal (Variable (at 2 44) x) (Null (at 2 49))) (Both (Points (at 2 58) (Variable (at 2 62) x) f (Operate (at 2 67) Subtract (Part (at 2 67) 0 1) (Part (at 2 74) 1 1))) (Points (at 2 84) (Variable (at 2 88) y) f (Operate (at 2 93) Subtract (Part (at 2 93) 0 1) (Part (at 2 100) 1 1))))));
}

abbrev pub owes : Program
owes = with_P owes_P

-- P(null, x)
abbrev pub P_of_null : run.Instance
P_of_null = record { predicate = P_name; arguments = RefValue 0 ∷ RefValue 1 ∷ [] }

abbrev pub null_f : Location
null_f = record { receiver = 0; field = f }

-- all of x.f, and all of P(null, x)
abbrev pub owing : Holdings
owing = (At x_f, full) ∷ (Folded P_of_null, full) ∷ []

-- by fuel, what is held of x.f, and of null.f
abbrev pub owing_totals : List (ℕ × Fraction)
owing_totals = (0, full) ∷ (1, none) ∷ (2, none) ∷ (3, none) ∷ (4, none) ∷ []

abbrev pub null_totals : List (ℕ × Fraction)
null_totals = (0, none) ∷ (1, none) ∷ (2, none) ∷ (3, none) ∷ (4, none) ∷ []

-- x.f == old(x.f)
abbrev pub as_before : Expr
as_before = Operate (at 2 35) Equal (Read (at 2 35) (Variable (at 2 35) x) f) (Old (at 2 42) (Read (at 2 46) (Variable (at 2 46) x) f))

-- field f: Int
-- predicate P(x: Ref) { acc(x.f) && x.f == old(x.f) }
abbrev pub remembers_body : Assertion
remembers_body = Both (Points (at 2 23) (Variable (at 2 27) x) f (Part (at 2 23) 1 1)) (Pure as_before)

abbrev pub remembers_P : Predicate
remembers_P = record { place = at 2 1; parameters = record { name = x; of = type.Ref } ∷ []; body = Some remembers_body }

abbrev pub remembers : Program
remembers = with_P remembers_P

-- all of x.f is held, as it was before
abbrev pub keeper : State
keeper = record owner { old_holdings = owner.holdings }

-- the same, but x.f, which was 5, is 6
abbrev pub changed : State
changed = record keeper { heap = with_x_f (pos 6) }
