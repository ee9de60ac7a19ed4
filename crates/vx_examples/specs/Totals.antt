-- Expressions without a field read, application, `\`, `%` or `unfolding`, and others.
use Rattle.vx_ast.specs.Syntax.{Expr, Add, And, Apply, Choose, Connect, Divide, Equal, More, NoMore, Not, Null, Number, Old, Operate, Part, Quotient, Read, Remainder, Truth, Unfolding, Variable}
use Rattle.vx_examples.specs.Words.{at}
use Rattle.vx_examples.specs.Cells.{cell, f, get, x, y}
use Rattle.std.specs.Prelude.{Bool, true, false, List, [], ◌∷◌}

-- expressions, and whether they are total
abbrev pub totals : List (Expr × Bool)
totals =
    -- 3
    (Number (at 1 1) 3, true)
    -- true
    ∷ (Truth (at 1 1) true, true)
    -- null
    ∷ (Null (at 1 1), true)
    -- 1/2
    ∷ (Part (at 1 1) 1 2, true)
    -- y
    ∷ (Variable (at 1 1) y, true)
    -- !true
    ∷ (Not (at 1 1) (Truth (at 1 2) true), true)
    -- !(x.f == 1)
    ∷ (Not (at 1 1) (Operate (at 1 3) Equal (Read (at 1 3) (Variable (at 1 3) x) f) (Number (at 1 10) 1)), false)
    -- 1 + y
    ∷ (Operate (at 1 1) Add (Number (at 1 1) 1) (Variable (at 1 5) y), true)
    -- x.f + 1
    ∷ (Operate (at 1 1) Add (Read (at 1 1) (Variable (at 1 1) x) f) (Number (at 1 7) 1), false)
    -- 1 + x.f
    ∷ (Operate (at 1 1) Add (Number (at 1 1) 1) (Read (at 1 5) (Variable (at 1 5) x) f), false)
    -- 7 \ 2
    ∷ (Divide (at 1 1) Quotient (Number (at 1 1) 7) (Number (at 1 5) 2), false)
    -- 7 % 2
    ∷ (Divide (at 1 1) Remainder (Number (at 1 1) 7) (Number (at 1 5) 2), false)
    -- true && y == 0
    ∷ (Connect (at 1 1) And (Truth (at 1 1) true) (Operate (at 1 9) Equal (Variable (at 1 9) y) (Number (at 1 14) 0)), true)
    -- true && x.f == 0
    ∷ (Connect (at 1 1) And (Truth (at 1 1) true) (Operate (at 1 9) Equal (Read (at 1 9) (Variable (at 1 9) x) f) (Number (at 1 16) 0)), false)
    -- x.f == 0 && true
    ∷ (Connect (at 1 1) And (Operate (at 1 1) Equal (Read (at 1 1) (Variable (at 1 1) x) f) (Number (at 1 8) 0)) (Truth (at 1 13) true), false)
    -- true ? 1 : 2
    ∷ (Choose (at 1 1) (Truth (at 1 1) true) (Number (at 1 8) 1) (Number (at 1 12) 2), true)
    -- x.f == 0 ? 1 : 2
    ∷ (Choose (at 1 1) (Operate (at 1 1) Equal (Read (at 1 1) (Variable (at 1 1) x) f) (Number (at 1 8) 0)) (Number (at 1 12) 1) (Number (at 1 16) 2), false)
    -- true ? x.f : 2
    ∷ (Choose (at 1 1) (Truth (at 1 1) true) (Read (at 1 8) (Variable (at 1 8) x) f) (Number (at 1 14) 2), false)
    -- true ? 1 : x.f
    ∷ (Choose (at 1 1) (Truth (at 1 1) true) (Number (at 1 8) 1) (Read (at 1 12) (Variable (at 1 12) x) f), false)
    -- x.f
    ∷ (Read (at 1 1) (Variable (at 1 1) x) f, false)
    -- old(y)
    ∷ (Old (at 1 1) (Variable (at 1 5) y), true)
    -- old(x.f)
    ∷ (Old (at 1 1) (Read (at 1 5) (Variable (at 1 5) x) f), false)
    -- get(x)
    ∷ (Apply (at 1 1) get (More (Variable (at 1 5) x) NoMore), false)
    -- unfolding cell(x) in 1
    ∷ (Unfolding (at 1 1) cell (More (Variable (at 1 16) x) NoMore) (Part (at 1 1) 1 1) (Number (at 1 22) 1), false)
    ∷ []
