-- Two functions that lead back to themselves, as they are written.
use Rattle.std.specs.Prelude.{ℕ, codes, [], ◌∷◌}
use Rattle.vx_ast.specs.declared.Place.{Place}
use Rattle.vx_ast.specs.declared.ValueType.TheVariants.{Int}
use Rattle.vx_ast.specs.declared.BinaryOperator.TheVariants.{Equal, Subtract}
use Rattle.vx_ast.specs.Written.{Name, placed, Number, Variable, Call, Binary, Choice, NoMore, More, Requires, Decreases, IsFunction, Program}

abbrev pub on_line : ℕ → Place
on_line n = record { line = n; column = 1 }

abbrev pub f : Name
f = codes "f"

abbrev pub n : Name
n = codes "n"

-- function f(n: Int): Int decreases n { n == 0 ? 0 : f(n - 1) }
abbrev pub counts_down : Program
counts_down =
    record {
      place = on_line 1;
      name = placed (on_line 1) f;
      kind = IsFunction record {
        parameters = record { name = placed (on_line 1) n; of = Int; type_at = on_line 1 } ∷ [];
        of = Int;
        clauses = Decreases (Variable (on_line 2) n) ∷ [];
        body = Choice (on_line 3) (Binary (on_line 3) Equal (Variable (on_line 3) n) (Number (on_line 3) 0)) (Number (on_line 3) 0)
            (Call (on_line 3) f (More (Binary (on_line 3) Subtract (Variable (on_line 3) n) (Number (on_line 3) 1)) NoMore));
      };
    } ∷ []

-- function f(n: Int): Int requires f(n) == 0 decreases n { 0 }
abbrev pub applies_itself_before : Program
applies_itself_before =
    record {
      place = on_line 1;
      name = placed (on_line 1) f;
      kind = IsFunction record {
        parameters = record { name = placed (on_line 1) n; of = Int; type_at = on_line 1 } ∷ [];
        of = Int;
        clauses = Requires (Binary (on_line 2) Equal (Call (on_line 2) f (More (Variable (on_line 2) n) NoMore)) (Number (on_line 2) 0)) ∷ Decreases (Variable (on_line 3) n) ∷ [];
        body = Number (on_line 4) 0;
      };
    } ∷ []
