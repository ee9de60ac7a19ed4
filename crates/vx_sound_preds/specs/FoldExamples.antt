-- A method that unfolds an instance and folds it again, and one that can't fold it.
use Rattle.std.specs.Prelude.{codes, ℕ, [], ◌∷◌, Some}
use Rattle.vx_ast.specs.declared.ValueType.TheVariants.{Int}
use Rattle.vx_ast.specs.declared.ValueType.TheVariants as type
use Rattle.vx_ast.specs.Syntax.{Name, Program, IsField, IsPredicate, IsMethod, Predicate, Method, Expr, Number, Part, Variable, Operate, Equal, Read, Unfolding, Exprs, NoMore, More, Assertion, Pure, Instance, Both, Write, Assert, Fold, Unfold, Block, Done, Then}
use Rattle.vx_meaning.specs.Values.{RefValue}
use Rattle.vx_meaning.specs.States as run
use Rattle.vx_sound.specs.Examples.{on_line}
use Rattle.vx_sound_preds.specs.Examples.{x, f, P, cell}

abbrev pub m : Name
m = codes "m"

abbrev pub its_x : Exprs
its_x = More (Variable (on_line 1) x) NoMore

abbrev pub all : Expr
all = Part (on_line 1) 1 1

-- acc(P(x), write)
abbrev pub a_cell : Assertion
a_cell = Instance (on_line 1) P its_x all

-- unfolding acc(P(x), write) in x.f == 0
abbrev pub inside_zero : Expr
inside_zero = Unfolding (on_line 4) P its_x all (Operate (on_line 4) Equal (Read (on_line 4) (Variable (on_line 4) x) f) (Number (on_line 4) 0))

-- method renews(x: Ref)
--   requires P(x) ensures P(x)
-- { assert unfolding P(x) in x.f == 0; unfold P(x); x.f := 0; fold P(x) }
abbrev pub renews : Method
renews = record {
  place = on_line 1;
  parameters = record { name = x; of = type.Ref } ∷ [];
  returns = [];
  requires = a_cell ∷ [];
  ensures = a_cell ∷ [];
  body = Some (
      Then (Assert (on_line 4) (Pure inside_zero)) (
      Then (Unfold (on_line 5) P its_x all) (
      Then (Write (on_line 6) (Variable (on_line 6) x) f (Number (on_line 6) 0)) (
      Then (Fold (on_line 7) P its_x all) Done))));
}

-- field f: Int, the predicate P of cells of zero, and m as `renews`
abbrev pub renewed : Program
renewed = record { name = f; kind = IsField Int } ∷ record { name = P; kind = IsPredicate cell } ∷ record { name = m; kind = IsMethod renews } ∷ []

-- { unfold P(x); x.f := 1; fold P(x) }
abbrev pub spoiling : Block
spoiling =
    Then (Unfold (on_line 3) P its_x all) (
    Then (Write (on_line 4) (Variable (on_line 4) x) f (Number (on_line 4) 1)) (
    Then (Fold (on_line 5) P its_x all) Done))

-- method spoils(x: Ref) requires P(x), with that body
abbrev pub spoils : Method
spoils = record {
  place = on_line 1;
  parameters = record { name = x; of = type.Ref } ∷ [];
  returns = [];
  requires = a_cell ∷ [];
  ensures = [];
  body = Some spoiling;
}

-- the same program with m as `spoils`
abbrev pub spoilt : Program
spoilt = record { name = f; kind = IsField Int } ∷ record { name = P; kind = IsPredicate cell } ∷ record { name = m; kind = IsMethod spoils } ∷ []

abbrev pub Q : Name
Q = codes "Q"

-- predicate Q(x: Ref) { P(x) && unfolding acc(P(x), write) in x.f == 0 }
abbrev pub holder_body : Assertion
holder_body = Both a_cell (Pure inside_zero)

abbrev pub holder : Predicate
holder = record { place = on_line 3; parameters = record { name = x; of = type.Ref } ∷ []; body = Some holder_body }

-- field f: Int, the predicate P of cells of zero, and Q
abbrev pub nested : Program
nested = record { name = f; kind = IsField Int } ∷ record { name = P; kind = IsPredicate cell } ∷ record { name = Q; kind = IsPredicate holder } ∷ []

-- Q(r)
abbrev pub its_instance : ℕ → run.Instance
its_instance r = record { predicate = Q; arguments = RefValue r ∷ [] }
