-- Assertions, and what is held once they are added, or the place of the first part that is not allowed; whether they are true is not asked.
use Rattle.vx_ast.specs.Syntax.{Assertion, Both, Chosen, Divide, Equal, Implied, Instance, More, NoMore, Null, Number, Operate, Part, Points, Pure, Quotient, Read, Subtract, Truth, Variable}
use Rattle.vx_examples.specs.Words.{at}
use Rattle.vx_examples.specs.Cells.{cell, f, x, y}
use Rattle.std.specs.Prelude.{true, false, List, [], ◌∷◌, Ok, Err}
use Rattle.vx_frac.specs.Fractions.{full, product}
use Rattle.vx_meaning.specs.States.{Location, Holdings, At, Folded, gained}
use Rattle.vx_meaning.specs.Fits.{Checked}
use Rattle.vx_examples.specs.Scenes.{half, x_f, a_cell, owner}

abbrev pub null_f : Location
null_f = record { receiver = 0; field = f }

-- what is added where all of x.f is held
abbrev pub added_to_owner : List (Assertion × Checked Holdings)
added_to_owner =
    -- true
    (Pure (Truth (at 1 1) true), Ok owner.holdings)
    -- false
    ∷ (Pure (Truth (at 1 1) false), Ok owner.holdings)
    -- null.f == 5
    ∷ (Pure (Operate (at 1 1) Equal (Read (at 1 1) (Null (at 1 1)) f) (Number (at 1 11) 5)), Err (at 1 1))
    -- acc(x.f)
    ∷ (Points (at 1 1) (Variable (at 1 5) x) f (Part (at 1 1) 1 1), Ok (gained (At x_f) (product full full) owner.holdings))
    -- acc(x.f, 1/2)
    ∷ (Points (at 1 1) (Variable (at 1 5) x) f (Part (at 1 10) 1 2), Ok (gained (At x_f) (product full half) owner.holdings))
    -- acc(x.f, none - write)
    ∷ (Points (at 1 1) (Variable (at 1 5) x) f (Operate (at 1 10) Subtract (Part (at 1 10) 0 1) (Part (at 1 17) 1 1)), Err (at 1 1))
    -- acc(null.f)
    ∷ (Points (at 1 1) (Null (at 1 5)) f (Part (at 1 1) 1 1), Ok (gained (At null_f) (product full full) owner.holdings))
    -- acc(y.f)
    ∷ (Points (at 1 1) (Variable (at 1 5) y) f (Part (at 1 1) 1 1), Err (at 1 1))
    -- cell(x)
    ∷ (Instance (at 1 1) cell (More (Variable (at 1 6) x) NoMore) (Part (at 1 1) 1 1), Ok (gained (Folded a_cell) (product full full) owner.holdings))
    -- cell(7 \ 0)
    ∷ (Instance (at 1 1) cell (More (Divide (at 1 6) Quotient (Number (at 1 6) 7) (Number (at 1 10) 0)) NoMore) (Part (at 1 1) 1 1), Err (at 1 6))
    -- acc(cell(x), none - write)
    ∷ (Instance (at 1 1) cell (More (Variable (at 1 10) x) NoMore) (Operate (at 1 14) Subtract (Part (at 1 14) 0 1) (Part (at 1 21) 1 1)), Err (at 1 1))
    -- acc(x.f) && cell(x)
    ∷ (Both (Points (at 1 1) (Variable (at 1 5) x) f (Part (at 1 1) 1 1)) (Instance (at 1 13) cell (More (Variable (at 1 18) x) NoMore) (Part (at 1 13) 1 1)), Ok (gained (Folded a_cell) (product full full) (gained (At x_f) (product full full) owner.holdings)))
    -- null.f == 5 && acc(x.f)
    ∷ (Both (Pure (Operate (at 1 1) Equal (Read (at 1 1) (Null (at 1 1)) f) (Number (at 1 11) 5))) (Points (at 1 16) (Variable (at 1 20) x) f (Part (at 1 16) 1 1)), Err (at 1 1))
    -- y == 0 ==> acc(x.f)
    ∷ (Implied (Operate (at 1 1) Equal (Variable (at 1 1) y) (Number (at 1 6) 0)) (Points (at 1 12) (Variable (at 1 16) x) f (Part (at 1 12) 1 1)), Ok (gained (At x_f) (product full full) owner.holdings))
    -- y == 1 ==> acc(x.f)
    ∷ (Implied (Operate (at 1 1) Equal (Variable (at 1 1) y) (Number (at 1 6) 1)) (Points (at 1 12) (Variable (at 1 16) x) f (Part (at 1 12) 1 1)), Ok owner.holdings)
    -- y ==> acc(x.f)
    ∷ (Implied (Variable (at 1 1) y) (Points (at 1 7) (Variable (at 1 11) x) f (Part (at 1 7) 1 1)), Err (at 1 1))
    -- y == 0 ? acc(x.f) : cell(x)
    ∷ (Chosen (Operate (at 1 1) Equal (Variable (at 1 1) y) (Number (at 1 6) 0)) (Points (at 1 10) (Variable (at 1 14) x) f (Part (at 1 10) 1 1)) (Instance (at 1 21) cell (More (Variable (at 1 26) x) NoMore) (Part (at 1 21) 1 1)), Ok (gained (At x_f) (product full full) owner.holdings))
    -- y == 1 ? acc(x.f) : cell(x)
    ∷ (Chosen (Operate (at 1 1) Equal (Variable (at 1 1) y) (Number (at 1 6) 1)) (Points (at 1 10) (Variable (at 1 14) x) f (Part (at 1 10) 1 1)) (Instance (at 1 21) cell (More (Variable (at 1 26) x) NoMore) (Part (at 1 21) 1 1)), Ok (gained (Folded a_cell) (product full full) owner.holdings))
    -- y ? acc(x.f) : cell(x)
    ∷ (Chosen (Variable (at 1 1) y) (Points (at 1 5) (Variable (at 1 9) x) f (Part (at 1 5) 1 1)) (Instance (at 1 16) cell (More (Variable (at 1 21) x) NoMore) (Part (at 1 16) 1 1)), Err (at 1 1))
    ∷ []
