-- Assertions, and what is left once they are taken, or the place of the first part that is not held or not true.
use Rattle.vx_ast.specs.Syntax.{Assertion, Both, Chosen, Divide, Equal, Implied, Instance, More, Multiply, NoMore, Null, Number, Operate, Part, Points, Pure, Quotient, Read, Subtract, Truth, Unfolding, Variable}
use Rattle.vx_examples.specs.Words.{at}
use Rattle.vx_examples.specs.Cells.{cell, f, x, y}
use Rattle.std.specs.Prelude.{true, false, List, [], ◌∷◌, Ok, Err}
use Rattle.vx_frac.specs.Fractions.{full, none, product}
use Rattle.vx_meaning.specs.States.{Holdings, At, Folded, lost}
use Rattle.vx_meaning.specs.Fits.{Checked}
use Rattle.vx_examples.specs.Scenes.{half, x_f, a_cell, owner, folder}

-- what is taken where all of x.f is held
abbrev pub taken_from_owner : List (Assertion × Checked Holdings)
taken_from_owner =
    -- true
    (Pure (Truth (at 1 1) true), Ok owner.holdings)
    -- false
    ∷ (Pure (Truth (at 1 1) false), Err (at 1 1))
    -- x.f == 5
    ∷ (Pure (Operate (at 1 1) Equal (Read (at 1 1) (Variable (at 1 1) x) f) (Number (at 1 8) 5)), Ok owner.holdings)
    -- null.f == 5
    ∷ (Pure (Operate (at 1 1) Equal (Read (at 1 1) (Null (at 1 1)) f) (Number (at 1 11) 5)), Err (at 1 1))
    -- y
    ∷ (Pure (Variable (at 1 1) y), Err (at 1 1))
    -- acc(x.f)
    ∷ (Points (at 1 1) (Variable (at 1 5) x) f (Part (at 1 1) 1 1), Ok (lost (At x_f) (product full full) owner.holdings))
    -- acc(x.f, 1/2)
    ∷ (Points (at 1 1) (Variable (at 1 5) x) f (Part (at 1 10) 1 2), Ok (lost (At x_f) (product full half) owner.holdings))
    -- acc(x.f, none)
    ∷ (Points (at 1 1) (Variable (at 1 5) x) f (Part (at 1 10) 0 1), Ok (lost (At x_f) (product full none) owner.holdings))
    -- acc(x.f, 2 * write)
    ∷ (Points (at 1 1) (Variable (at 1 5) x) f (Operate (at 1 10) Multiply (Number (at 1 10) 2) (Part (at 1 14) 1 1)), Err (at 1 1))
    -- acc(x.f, none - write)
    ∷ (Points (at 1 1) (Variable (at 1 5) x) f (Operate (at 1 10) Subtract (Part (at 1 10) 0 1) (Part (at 1 17) 1 1)), Err (at 1 1))
    -- acc(null.f)
    ∷ (Points (at 1 1) (Null (at 1 5)) f (Part (at 1 1) 1 1), Err (at 1 1))
    -- acc(y.f)
    ∷ (Points (at 1 1) (Variable (at 1 5) y) f (Part (at 1 1) 1 1), Err (at 1 1))
    -- acc(x.f, y)
    ∷ (Points (at 1 1) (Variable (at 1 5) x) f (Variable (at 1 10) y), Err (at 1 1))
    -- acc(x.f, 1/2) && acc(x.f, 1/2)
    ∷ (Both (Points (at 1 1) (Variable (at 1 5) x) f (Part (at 1 10) 1 2)) (Points (at 1 18) (Variable (at 1 22) x) f (Part (at 1 27) 1 2)), Ok (lost (At x_f) (product full half) (lost (At x_f) (product full half) owner.holdings)))
    -- acc(x.f) && x.f == 5
    ∷ (Both (Points (at 1 1) (Variable (at 1 5) x) f (Part (at 1 1) 1 1)) (Pure (Operate (at 1 13) Equal (Read (at 1 13) (Variable (at 1 13) x) f) (Number (at 1 20) 5))), Ok (lost (At x_f) (product full full) owner.holdings))
    -- acc(x.f) && acc(x.f)
    ∷ (Both (Points (at 1 1) (Variable (at 1 5) x) f (Part (at 1 1) 1 1)) (Points (at 1 13) (Variable (at 1 17) x) f (Part (at 1 13) 1 1)), Err (at 1 13))
    -- false && acc(x.f)
    ∷ (Both (Pure (Truth (at 1 1) false)) (Points (at 1 10) (Variable (at 1 14) x) f (Part (at 1 10) 1 1)), Err (at 1 1))
    -- y == 0 ==> acc(x.f)
    ∷ (Implied (Operate (at 1 1) Equal (Variable (at 1 1) y) (Number (at 1 6) 0)) (Points (at 1 12) (Variable (at 1 16) x) f (Part (at 1 12) 1 1)), Ok (lost (At x_f) (product full full) owner.holdings))
    -- y == 1 ==> acc(x.f)
    ∷ (Implied (Operate (at 1 1) Equal (Variable (at 1 1) y) (Number (at 1 6) 1)) (Points (at 1 12) (Variable (at 1 16) x) f (Part (at 1 12) 1 1)), Ok owner.holdings)
    -- y ==> acc(x.f)
    ∷ (Implied (Variable (at 1 1) y) (Points (at 1 7) (Variable (at 1 11) x) f (Part (at 1 7) 1 1)), Err (at 1 1))
    -- null.f == 5 ==> acc(x.f)
    ∷ (Implied (Operate (at 1 1) Equal (Read (at 1 1) (Null (at 1 1)) f) (Number (at 1 11) 5)) (Points (at 1 17) (Variable (at 1 21) x) f (Part (at 1 17) 1 1)), Err (at 1 1))
    -- y == 0 ? acc(x.f) : cell(x)
    ∷ (Chosen (Operate (at 1 1) Equal (Variable (at 1 1) y) (Number (at 1 6) 0)) (Points (at 1 10) (Variable (at 1 14) x) f (Part (at 1 10) 1 1)) (Instance (at 1 21) cell (More (Variable (at 1 26) x) NoMore) (Part (at 1 21) 1 1)), Ok (lost (At x_f) (product full full) owner.holdings))
    -- y == 1 ? acc(x.f) : cell(x)
    ∷ (Chosen (Operate (at 1 1) Equal (Variable (at 1 1) y) (Number (at 1 6) 1)) (Points (at 1 10) (Variable (at 1 14) x) f (Part (at 1 10) 1 1)) (Instance (at 1 21) cell (More (Variable (at 1 26) x) NoMore) (Part (at 1 21) 1 1)), Err (at 1 21))
    -- y ? acc(x.f) : true
    ∷ (Chosen (Variable (at 1 1) y) (Points (at 1 5) (Variable (at 1 9) x) f (Part (at 1 5) 1 1)) (Pure (Truth (at 1 16) true)), Err (at 1 1))
    -- cell(x)
    ∷ (Instance (at 1 1) cell (More (Variable (at 1 6) x) NoMore) (Part (at 1 1) 1 1), Err (at 1 1))
    ∷ []

-- what is taken where all of cell(x) is held
abbrev pub taken_from_folder : List (Assertion × Checked Holdings)
taken_from_folder =
    -- cell(x)
    (Instance (at 1 1) cell (More (Variable (at 1 6) x) NoMore) (Part (at 1 1) 1 1), Ok (lost (Folded a_cell) (product full full) folder.holdings))
    -- acc(cell(x), 1/2)
    ∷ (Instance (at 1 1) cell (More (Variable (at 1 10) x) NoMore) (Part (at 1 14) 1 2), Ok (lost (Folded a_cell) (product full half) folder.holdings))
    -- acc(cell(x), none)
    ∷ (Instance (at 1 1) cell (More (Variable (at 1 10) x) NoMore) (Part (at 1 14) 0 1), Ok (lost (Folded a_cell) (product full none) folder.holdings))
    -- cell(null)
    ∷ (Instance (at 1 1) cell (More (Null (at 1 6)) NoMore) (Part (at 1 1) 1 1), Err (at 1 1))
    -- acc(cell(x), 2 * write)
    ∷ (Instance (at 1 1) cell (More (Variable (at 1 10) x) NoMore) (Operate (at 1 14) Multiply (Number (at 1 14) 2) (Part (at 1 18) 1 1)), Err (at 1 1))
    -- acc(cell(x), none - write)
    ∷ (Instance (at 1 1) cell (More (Variable (at 1 10) x) NoMore) (Operate (at 1 14) Subtract (Part (at 1 14) 0 1) (Part (at 1 21) 1 1)), Err (at 1 1))
    -- acc(cell(x), y)
    ∷ (Instance (at 1 1) cell (More (Variable (at 1 10) x) NoMore) (Variable (at 1 14) y), Err (at 1 1))
    -- cell(7 \ 0)
    ∷ (Instance (at 1 1) cell (More (Divide (at 1 6) Quotient (Number (at 1 6) 7) (Number (at 1 10) 0)) NoMore) (Part (at 1 1) 1 1), Err (at 1 6))
    -- acc(x.f)
    ∷ (Points (at 1 1) (Variable (at 1 5) x) f (Part (at 1 1) 1 1), Err (at 1 1))
    -- cell(x) && unfolding cell(x) in x.f == 5
    ∷ (Both (Instance (at 1 1) cell (More (Variable (at 1 6) x) NoMore) (Part (at 1 1) 1 1)) (Pure (Unfolding (at 1 12) cell (More (Variable (at 1 27) x) NoMore) (Part (at 1 12) 1 1) (Operate (at 1 33) Equal (Read (at 1 33) (Variable (at 1 33) x) f) (Number (at 1 40) 5)))), Ok (lost (Folded a_cell) (product full full) folder.holdings))
    ∷ []

-- what is taken by a scale of one half, where all of x.f is held
abbrev pub taken_by_halves : List (Assertion × Checked Holdings)
taken_by_halves =
    -- acc(x.f)
    (Points (at 1 1) (Variable (at 1 5) x) f (Part (at 1 1) 1 1), Ok (lost (At x_f) (product half full) owner.holdings))
    -- acc(x.f) && acc(x.f)
    ∷ (Both (Points (at 1 1) (Variable (at 1 5) x) f (Part (at 1 1) 1 1)) (Points (at 1 13) (Variable (at 1 17) x) f (Part (at 1 13) 1 1)), Ok (lost (At x_f) (product half full) (lost (At x_f) (product half full) owner.holdings)))
    -- acc(x.f) && acc(x.f) && acc(x.f)
    ∷ (Both (Both (Points (at 1 1) (Variable (at 1 5) x) f (Part (at 1 1) 1 1)) (Points (at 1 13) (Variable (at 1 17) x) f (Part (at 1 13) 1 1))) (Points (at 1 25) (Variable (at 1 29) x) f (Part (at 1 25) 1 1)), Err (at 1 25))
    ∷ []
