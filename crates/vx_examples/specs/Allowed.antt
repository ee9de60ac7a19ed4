-- Expressions that may be evaluated, with their values, and those that may not, with the place of the first part that is not allowed.
use Rattle.vx_ast.specs.Syntax.{Name, Expr, Add, And, Apply, Choose, Connect, Divide, Equal, Implies, More, Multiply, NoMore, Not, Null, Number, Old, Operate, Or, Part, Quotient, Read, Truth, Unfolding, Variable}
use Rattle.vx_examples.specs.Words.{at}
use Rattle.vx_examples.specs.Cells.{cell, f, get, hidden, x, y}
use Rattle.std.specs.Prelude.{true, false, pos, List, [], ◌∷◌, Ok, Err, codes}
use Rattle.vx_meaning.specs.Values.{Value, IntValue, BoolValue, RefValue, PermValue}
use Rattle.vx_meaning.specs.Fits.{Checked}

abbrev pub w : Name
w = codes "w"

-- where all of x.f is held
abbrev pub allowed_to_owner : List (Expr × Checked Value)
allowed_to_owner =
    -- 3
    (Number (at 1 1) 3, Ok (IntValue (pos 3)))
    -- true
    ∷ (Truth (at 1 1) true, Ok (BoolValue true))
    -- null
    ∷ (Null (at 1 1), Ok (RefValue 0))
    -- 1/2
    ∷ (Part (at 1 1) 1 2, Ok (PermValue record { numerator = pos 1; below = 1 }))
    -- y
    ∷ (Variable (at 1 1) y, Ok (IntValue (pos 0)))
    -- w
    ∷ (Variable (at 1 1) w, Err (at 1 1))
    -- !(y == 0)
    ∷ (Not (at 1 1) (Operate (at 1 3) Equal (Variable (at 1 3) y) (Number (at 1 8) 0)), Ok (BoolValue false))
    -- !y
    ∷ (Not (at 1 1) (Variable (at 1 2) y), Err (at 1 1))
    -- 1 + y
    ∷ (Operate (at 1 1) Add (Number (at 1 1) 1) (Variable (at 1 5) y), Ok (IntValue (pos 1)))
    -- 1 + true
    ∷ (Operate (at 1 1) Add (Number (at 1 1) 1) (Truth (at 1 5) true), Err (at 1 1))
    -- x.f
    ∷ (Read (at 1 1) (Variable (at 1 1) x) f, Ok (IntValue (pos 5)))
    -- null.f
    ∷ (Read (at 1 1) (Null (at 1 1)) f, Err (at 1 1))
    -- y.f
    ∷ (Read (at 1 1) (Variable (at 1 1) y) f, Err (at 1 1))
    -- 7 \ 2
    ∷ (Divide (at 1 1) Quotient (Number (at 1 1) 7) (Number (at 1 5) 2), Ok (IntValue (pos 3)))
    -- 1 + 7 \ 0
    ∷ (Operate (at 1 1) Add (Number (at 1 1) 1) (Divide (at 1 5) Quotient (Number (at 1 5) 7) (Number (at 1 9) 0)), Err (at 1 5))
    -- old(x.f)
    ∷ (Old (at 1 1) (Read (at 1 5) (Variable (at 1 5) x) f), Err (at 1 5))
    -- get(x)
    ∷ (Apply (at 1 1) get (More (Variable (at 1 5) x) NoMore), Ok (IntValue (pos 5)))
    -- get(null)
    ∷ (Apply (at 1 1) get (More (Null (at 1 5)) NoMore), Err (at 1 1))
    -- old(get(x))
    ∷ (Old (at 1 1) (Apply (at 1 5) get (More (Variable (at 1 9) x) NoMore)), Err (at 1 5))
    -- x.f == 5 && get(x) == 5
    ∷ (Connect (at 1 1) And (Operate (at 1 1) Equal (Read (at 1 1) (Variable (at 1 1) x) f) (Number (at 1 8) 5)) (Operate (at 1 13) Equal (Apply (at 1 13) get (More (Variable (at 1 17) x) NoMore)) (Number (at 1 23) 5)), Ok (BoolValue true))
    -- unfolding cell(x) in x.f
    ∷ (Unfolding (at 1 1) cell (More (Variable (at 1 16) x) NoMore) (Part (at 1 1) 1 1) (Read (at 1 22) (Variable (at 1 22) x) f), Err (at 1 1))
    ∷ []

-- where half of x.f is held
abbrev pub allowed_to_sharer : List (Expr × Checked Value)
allowed_to_sharer =
    -- x.f
    (Read (at 1 1) (Variable (at 1 1) x) f, Ok (IntValue (pos 5)))
    -- get(x)
    ∷ (Apply (at 1 1) get (More (Variable (at 1 5) x) NoMore), Err (at 1 1))
    -- 1 + get(x)
    ∷ (Operate (at 1 1) Add (Number (at 1 1) 1) (Apply (at 1 5) get (More (Variable (at 1 9) x) NoMore)), Err (at 1 5))
    ∷ []

-- where nothing is held
abbrev pub allowed_to_poor : List (Expr × Checked Value)
allowed_to_poor =
    -- x.f
    (Read (at 1 1) (Variable (at 1 1) x) f, Err (at 1 1))
    -- 7 \ 0 + x.f
    ∷ (Operate (at 1 1) Add (Divide (at 1 1) Quotient (Number (at 1 1) 7) (Number (at 1 5) 0)) (Read (at 1 9) (Variable (at 1 9) x) f), Err (at 1 1))
    -- x.f + 7 \ 0
    ∷ (Operate (at 1 1) Add (Read (at 1 1) (Variable (at 1 1) x) f) (Divide (at 1 7) Quotient (Number (at 1 7) 7) (Number (at 1 11) 0)), Err (at 1 1))
    -- x == null && x.f == 5
    ∷ (Connect (at 1 1) And (Operate (at 1 1) Equal (Variable (at 1 1) x) (Null (at 1 6))) (Operate (at 1 14) Equal (Read (at 1 14) (Variable (at 1 14) x) f) (Number (at 1 21) 5)), Ok (BoolValue false))
    -- x != null && x.f == 5
    ∷ (Connect (at 1 1) And (Not (at 1 1) (Operate (at 1 1) Equal (Variable (at 1 1) x) (Null (at 1 6)))) (Operate (at 1 14) Equal (Read (at 1 14) (Variable (at 1 14) x) f) (Number (at 1 21) 5)), Err (at 1 14))
    -- x != null || x.f == 5
    ∷ (Connect (at 1 1) Or (Not (at 1 1) (Operate (at 1 1) Equal (Variable (at 1 1) x) (Null (at 1 6)))) (Operate (at 1 14) Equal (Read (at 1 14) (Variable (at 1 14) x) f) (Number (at 1 21) 5)), Ok (BoolValue true))
    -- x == null || x.f == 5
    ∷ (Connect (at 1 1) Or (Operate (at 1 1) Equal (Variable (at 1 1) x) (Null (at 1 6))) (Operate (at 1 14) Equal (Read (at 1 14) (Variable (at 1 14) x) f) (Number (at 1 21) 5)), Err (at 1 14))
    -- x == null ==> x.f == 5
    ∷ (Connect (at 1 1) Implies (Operate (at 1 1) Equal (Variable (at 1 1) x) (Null (at 1 6))) (Operate (at 1 15) Equal (Read (at 1 15) (Variable (at 1 15) x) f) (Number (at 1 22) 5)), Ok (BoolValue true))
    -- x != null ==> x.f == 5
    ∷ (Connect (at 1 1) Implies (Not (at 1 1) (Operate (at 1 1) Equal (Variable (at 1 1) x) (Null (at 1 6)))) (Operate (at 1 15) Equal (Read (at 1 15) (Variable (at 1 15) x) f) (Number (at 1 22) 5)), Err (at 1 15))
    -- y && true
    ∷ (Connect (at 1 1) And (Variable (at 1 1) y) (Truth (at 1 6) true), Err (at 1 1))
    -- x == null ? x.f : 1
    ∷ (Choose (at 1 1) (Operate (at 1 1) Equal (Variable (at 1 1) x) (Null (at 1 6))) (Read (at 1 13) (Variable (at 1 13) x) f) (Number (at 1 19) 1), Ok (IntValue (pos 1)))
    -- x != null ? 1 : x.f
    ∷ (Choose (at 1 1) (Not (at 1 1) (Operate (at 1 1) Equal (Variable (at 1 1) x) (Null (at 1 6)))) (Number (at 1 13) 1) (Read (at 1 17) (Variable (at 1 17) x) f), Ok (IntValue (pos 1)))
    -- x != null ? x.f : 1
    ∷ (Choose (at 1 1) (Not (at 1 1) (Operate (at 1 1) Equal (Variable (at 1 1) x) (Null (at 1 6)))) (Read (at 1 13) (Variable (at 1 13) x) f) (Number (at 1 19) 1), Err (at 1 13))
    -- y ? 1 : 2
    ∷ (Choose (at 1 1) (Variable (at 1 1) y) (Number (at 1 5) 1) (Number (at 1 9) 2), Err (at 1 1))
    ∷ []

-- where all of cell(x) is held
abbrev pub allowed_to_folder : List (Expr × Checked Value)
allowed_to_folder =
    -- x.f
    (Read (at 1 1) (Variable (at 1 1) x) f, Err (at 1 1))
    -- unfolding cell(x) in x.f
    ∷ (Unfolding (at 1 1) cell (More (Variable (at 1 16) x) NoMore) (Part (at 1 1) 1 1) (Read (at 1 22) (Variable (at 1 22) x) f), Ok (IntValue (pos 5)))
    -- unfolding acc(cell(x), 1/2) in x.f
    ∷ (Unfolding (at 1 1) cell (More (Variable (at 1 20) x) NoMore) (Part (at 1 24) 1 2) (Read (at 1 32) (Variable (at 1 32) x) f), Ok (IntValue (pos 5)))
    -- unfolding acc(cell(x), none) in y
    ∷ (Unfolding (at 1 1) cell (More (Variable (at 1 20) x) NoMore) (Part (at 1 24) 0 1) (Variable (at 1 33) y), Err (at 1 1))
    -- unfolding acc(cell(x), 2 * write) in y
    ∷ (Unfolding (at 1 1) cell (More (Variable (at 1 20) x) NoMore) (Operate (at 1 24) Multiply (Number (at 1 24) 2) (Part (at 1 28) 1 1)) (Variable (at 1 38) y), Err (at 1 1))
    -- unfolding cell(x) in get(x)
    ∷ (Unfolding (at 1 1) cell (More (Variable (at 1 16) x) NoMore) (Part (at 1 1) 1 1) (Apply (at 1 22) get (More (Variable (at 1 26) x) NoMore)), Ok (IntValue (pos 5)))
    -- unfolding acc(cell(x), 1/2) in get(x)
    ∷ (Unfolding (at 1 1) cell (More (Variable (at 1 20) x) NoMore) (Part (at 1 24) 1 2) (Apply (at 1 32) get (More (Variable (at 1 36) x) NoMore)), Err (at 1 32))
    -- unfolding cell(x) in unfolding cell(x) in x.f
    ∷ (Unfolding (at 1 1) cell (More (Variable (at 1 16) x) NoMore) (Part (at 1 1) 1 1) (Unfolding (at 1 22) cell (More (Variable (at 1 37) x) NoMore) (Part (at 1 22) 1 1) (Read (at 1 43) (Variable (at 1 43) x) f)), Err (at 1 22))
    -- unfolding cell(null) in y
    ∷ (Unfolding (at 1 1) cell (More (Null (at 1 16)) NoMore) (Part (at 1 1) 1 1) (Variable (at 1 25) y), Err (at 1 1))
    -- unfolding acc(cell(7 \ 0), 1/2) in y
    ∷ (Unfolding (at 1 1) cell (More (Divide (at 1 20) Quotient (Number (at 1 20) 7) (Number (at 1 24) 0)) NoMore) (Part (at 1 28) 1 2) (Variable (at 1 36) y), Err (at 1 20))
    -- unfolding acc(cell(7 \ 0), none) in y
    ∷ (Unfolding (at 1 1) cell (More (Divide (at 1 20) Quotient (Number (at 1 20) 7) (Number (at 1 24) 0)) NoMore) (Part (at 1 28) 0 1) (Variable (at 1 37) y), Err (at 1 1))
    ∷ []

-- where all of hidden(x) is held, which has no body
abbrev pub allowed_to_hider : List (Expr × Checked Value)
allowed_to_hider =
    -- unfolding hidden(x) in y
    (Unfolding (at 1 1) hidden (More (Variable (at 1 18) x) NoMore) (Part (at 1 1) 1 1) (Variable (at 1 24) y), Err (at 1 1))
    ∷ []
