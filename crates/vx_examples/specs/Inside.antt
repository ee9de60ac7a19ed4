-- Assertions and their entries; nothing where a part is not true or has no value.
use Rattle.vx_ast.specs.Syntax.{Assertion, Apply, Both, Chosen, Divide, Equal, Implied, Instance, More, NoMore, Number, Operate, Part, Points, Pure, Quotient, Read, Truth, Variable}
use Rattle.vx_examples.specs.Words.{at}
use Rattle.vx_examples.specs.Cells.{cell, f, get, x, y}
use Rattle.std.specs.Prelude.{true, false, List, [], ◌∷◌, Option, Some, None}
use Rattle.vx_frac.specs.Fractions.{full}
use Rattle.vx_meaning.specs.States.{Holdings, At, Folded}
use Rattle.vx_examples.specs.Scenes.{half, x_f, a_cell}

-- the entries of an assertion, where x is the reference 1, y is 0 and x.f is 5
abbrev pub inside : List (Assertion × Option Holdings)
inside =
    -- true
    (Pure (Truth (at 1 1) true), Some [])
    -- false
    ∷ (Pure (Truth (at 1 1) false), None)
    -- y
    ∷ (Pure (Variable (at 1 1) y), None)
    -- x.f == 5
    ∷ (Pure (Operate (at 1 1) Equal (Read (at 1 1) (Variable (at 1 1) x) f) (Number (at 1 8) 5)), Some [])
    -- x.f == 6
    ∷ (Pure (Operate (at 1 1) Equal (Read (at 1 1) (Variable (at 1 1) x) f) (Number (at 1 8) 6)), None)
    -- get(x) == 5
    ∷ (Pure (Operate (at 1 1) Equal (Apply (at 1 1) get (More (Variable (at 1 5) x) NoMore)) (Number (at 1 11) 5)), None)
    -- acc(x.f)
    ∷ (Points (at 1 1) (Variable (at 1 5) x) f (Part (at 1 1) 1 1), Some ((At x_f, full) ∷ []))
    -- acc(x.f, 1/2)
    ∷ (Points (at 1 1) (Variable (at 1 5) x) f (Part (at 1 10) 1 2), Some ((At x_f, half) ∷ []))
    -- acc(y.f)
    ∷ (Points (at 1 1) (Variable (at 1 5) y) f (Part (at 1 1) 1 1), None)
    -- acc(x.f, y)
    ∷ (Points (at 1 1) (Variable (at 1 5) x) f (Variable (at 1 10) y), None)
    -- cell(x)
    ∷ (Instance (at 1 1) cell (More (Variable (at 1 6) x) NoMore) (Part (at 1 1) 1 1), Some ((Folded a_cell, full) ∷ []))
    -- acc(cell(x), 1/2)
    ∷ (Instance (at 1 1) cell (More (Variable (at 1 10) x) NoMore) (Part (at 1 14) 1 2), Some ((Folded a_cell, half) ∷ []))
    -- acc(cell(x), y)
    ∷ (Instance (at 1 1) cell (More (Variable (at 1 10) x) NoMore) (Variable (at 1 14) y), None)
    -- cell(7 \ 0)
    ∷ (Instance (at 1 1) cell (More (Divide (at 1 6) Quotient (Number (at 1 6) 7) (Number (at 1 10) 0)) NoMore) (Part (at 1 1) 1 1), None)
    -- acc(x.f) && cell(x)
    ∷ (Both (Points (at 1 1) (Variable (at 1 5) x) f (Part (at 1 1) 1 1)) (Instance (at 1 13) cell (More (Variable (at 1 18) x) NoMore) (Part (at 1 13) 1 1)), Some ((At x_f, full) ∷ (Folded a_cell, full) ∷ []))
    -- acc(x.f) && false
    ∷ (Both (Points (at 1 1) (Variable (at 1 5) x) f (Part (at 1 1) 1 1)) (Pure (Truth (at 1 13) false)), None)
    -- false && acc(x.f)
    ∷ (Both (Pure (Truth (at 1 1) false)) (Points (at 1 10) (Variable (at 1 14) x) f (Part (at 1 10) 1 1)), None)
    -- y == 0 ==> acc(x.f)
    ∷ (Implied (Operate (at 1 1) Equal (Variable (at 1 1) y) (Number (at 1 6) 0)) (Points (at 1 12) (Variable (at 1 16) x) f (Part (at 1 12) 1 1)), Some ((At x_f, full) ∷ []))
    -- y == 1 ==> acc(x.f)
    ∷ (Implied (Operate (at 1 1) Equal (Variable (at 1 1) y) (Number (at 1 6) 1)) (Points (at 1 12) (Variable (at 1 16) x) f (Part (at 1 12) 1 1)), Some [])
    -- y ==> acc(x.f)
    ∷ (Implied (Variable (at 1 1) y) (Points (at 1 7) (Variable (at 1 11) x) f (Part (at 1 7) 1 1)), None)
    -- y == 0 ? acc(x.f) : cell(x)
    ∷ (Chosen (Operate (at 1 1) Equal (Variable (at 1 1) y) (Number (at 1 6) 0)) (Points (at 1 10) (Variable (at 1 14) x) f (Part (at 1 10) 1 1)) (Instance (at 1 21) cell (More (Variable (at 1 26) x) NoMore) (Part (at 1 21) 1 1)), Some ((At x_f, full) ∷ []))
    -- y == 1 ? acc(x.f) : cell(x)
    ∷ (Chosen (Operate (at 1 1) Equal (Variable (at 1 1) y) (Number (at 1 6) 1)) (Points (at 1 10) (Variable (at 1 14) x) f (Part (at 1 10) 1 1)) (Instance (at 1 21) cell (More (Variable (at 1 26) x) NoMore) (Part (at 1 21) 1 1)), Some ((Folded a_cell, full) ∷ []))
    -- y ? acc(x.f) : cell(x)
    ∷ (Chosen (Variable (at 1 1) y) (Points (at 1 5) (Variable (at 1 9) x) f (Part (at 1 5) 1 1)) (Instance (at 1 16) cell (More (Variable (at 1 21) x) NoMore) (Part (at 1 16) 1 1)), None)
    ∷ []
