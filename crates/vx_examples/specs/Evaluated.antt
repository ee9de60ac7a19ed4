-- Expressions and the applications that are evaluated with them, where x is the reference 1 and y is 0.
use Rattle.vx_ast.specs.Syntax.{Expr, Add, And, Apply, Choose, Connect, Divide, Equal, Implies, More, NoMore, Not, Null, Number, Old, Operate, Or, Part, Quotient, Read, Truth, Unfolding, Variable}
use Rattle.vx_examples.specs.Words.{at}
use Rattle.vx_examples.specs.Cells.{cell, f, get, x, y}
use Rattle.std.specs.Prelude.{true, false, List, [], ◌∷◌}
use Rattle.vx_meaning.specs.Values.{RefValue}
use Rattle.vx_meaning.specs.Fails.{Application}

-- expressions, and the applications that are evaluated with them
abbrev pub of_expressions : List (Expr × List Application)
of_expressions =
    -- 1
    (Number (at 1 1) 1, [])
    -- get(x)
    ∷ (Apply (at 1 1) get (More (Variable (at 1 5) x) NoMore), (get, RefValue 1 ∷ []) ∷ [])
    -- get(x) + get(x)
    ∷ (Operate (at 1 1) Add (Apply (at 1 1) get (More (Variable (at 1 5) x) NoMore)) (Apply (at 1 10) get (More (Variable (at 1 14) x) NoMore)), (get, RefValue 1 ∷ []) ∷ (get, RefValue 1 ∷ []) ∷ [])
    -- get(x) \ 2
    ∷ (Divide (at 1 1) Quotient (Apply (at 1 1) get (More (Variable (at 1 5) x) NoMore)) (Number (at 1 10) 2), (get, RefValue 1 ∷ []) ∷ [])
    -- !(get(x) == 1)
    ∷ (Not (at 1 1) (Operate (at 1 3) Equal (Apply (at 1 3) get (More (Variable (at 1 7) x) NoMore)) (Number (at 1 13) 1)), (get, RefValue 1 ∷ []) ∷ [])
    -- x.f
    ∷ (Read (at 1 1) (Variable (at 1 1) x) f, [])
    -- old(get(x))
    ∷ (Old (at 1 1) (Apply (at 1 5) get (More (Variable (at 1 9) x) NoMore)), (get, RefValue 1 ∷ []) ∷ [])
    -- true && get(x) == 1
    ∷ (Connect (at 1 1) And (Truth (at 1 1) true) (Operate (at 1 9) Equal (Apply (at 1 9) get (More (Variable (at 1 13) x) NoMore)) (Number (at 1 19) 1)), (get, RefValue 1 ∷ []) ∷ [])
    -- false && get(x) == 1
    ∷ (Connect (at 1 1) And (Truth (at 1 1) false) (Operate (at 1 10) Equal (Apply (at 1 10) get (More (Variable (at 1 14) x) NoMore)) (Number (at 1 20) 1)), [])
    -- true || get(x) == 1
    ∷ (Connect (at 1 1) Or (Truth (at 1 1) true) (Operate (at 1 9) Equal (Apply (at 1 9) get (More (Variable (at 1 13) x) NoMore)) (Number (at 1 19) 1)), [])
    -- false || get(x) == 1
    ∷ (Connect (at 1 1) Or (Truth (at 1 1) false) (Operate (at 1 10) Equal (Apply (at 1 10) get (More (Variable (at 1 14) x) NoMore)) (Number (at 1 20) 1)), (get, RefValue 1 ∷ []) ∷ [])
    -- true ==> get(x) == 1
    ∷ (Connect (at 1 1) Implies (Truth (at 1 1) true) (Operate (at 1 10) Equal (Apply (at 1 10) get (More (Variable (at 1 14) x) NoMore)) (Number (at 1 20) 1)), (get, RefValue 1 ∷ []) ∷ [])
    -- false ==> get(x) == 1
    ∷ (Connect (at 1 1) Implies (Truth (at 1 1) false) (Operate (at 1 11) Equal (Apply (at 1 11) get (More (Variable (at 1 15) x) NoMore)) (Number (at 1 21) 1)), [])
    -- y && get(x) == 1
    ∷ (Connect (at 1 1) And (Variable (at 1 1) y) (Operate (at 1 6) Equal (Apply (at 1 6) get (More (Variable (at 1 10) x) NoMore)) (Number (at 1 16) 1)), [])
    -- true ? get(x) : 1
    ∷ (Choose (at 1 1) (Truth (at 1 1) true) (Apply (at 1 8) get (More (Variable (at 1 12) x) NoMore)) (Number (at 1 17) 1), (get, RefValue 1 ∷ []) ∷ [])
    -- false ? get(x) : 1
    ∷ (Choose (at 1 1) (Truth (at 1 1) false) (Apply (at 1 9) get (More (Variable (at 1 13) x) NoMore)) (Number (at 1 18) 1), [])
    -- false ? 1 : get(x)
    ∷ (Choose (at 1 1) (Truth (at 1 1) false) (Number (at 1 9) 1) (Apply (at 1 13) get (More (Variable (at 1 17) x) NoMore)), (get, RefValue 1 ∷ []) ∷ [])
    -- y ? get(x) : get(x)
    ∷ (Choose (at 1 1) (Variable (at 1 1) y) (Apply (at 1 5) get (More (Variable (at 1 9) x) NoMore)) (Apply (at 1 14) get (More (Variable (at 1 18) x) NoMore)), [])
    -- unfolding cell(x) in get(x)
    ∷ (Unfolding (at 1 1) cell (More (Variable (at 1 16) x) NoMore) (Part (at 1 1) 1 1) (Apply (at 1 22) get (More (Variable (at 1 26) x) NoMore)), (get, RefValue 1 ∷ []) ∷ [])
    -- get(7 \ 0)
    ∷ (Apply (at 1 1) get (More (Divide (at 1 5) Quotient (Number (at 1 5) 7) (Number (at 1 9) 0)) NoMore), [])
    -- get(null)
    ∷ (Apply (at 1 1) get (More (Null (at 1 5)) NoMore), (get, RefValue 0 ∷ []) ∷ [])
    ∷ []
