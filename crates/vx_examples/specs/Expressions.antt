-- Expressions and their values, where x is the reference 1, y is 0, x.f is 5 and was 4; nothing where there is no value.
use Rattle.vx_ast.specs.Syntax.{Name, Expr, Add, And, Apply, Choose, Connect, Divide, Equal, Greater, GreaterEqual, Implies, Less, LessEqual, More, Multiply, NoMore, Not, Null, Number, Old, Operate, Or, Part, Quotient, Read, Remainder, Subtract, Truth, Unfolding, Variable}
use Rattle.vx_examples.specs.Words.{at}
use Rattle.vx_examples.specs.Cells.{cell, f, get, x, y}
use Rattle.std.specs.Prelude.{true, false, pos, negsuc, List, [], ◌∷◌, Option, Some, None, codes}
use Rattle.vx_meaning.specs.Values.{Value, IntValue, BoolValue, RefValue, PermValue}

abbrev pub w : Name
w = codes "w"

-- literals and variables
abbrev pub literals : List (Expr × Option Value)
literals =
    -- 3
    (Number (at 1 1) 3, Some (IntValue (pos 3)))
    -- true
    ∷ (Truth (at 1 1) true, Some (BoolValue true))
    -- false
    ∷ (Truth (at 1 1) false, Some (BoolValue false))
    -- null
    ∷ (Null (at 1 1), Some (RefValue 0))
    -- 1/2
    ∷ (Part (at 1 1) 1 2, Some (PermValue record { numerator = pos 1; below = 1 }))
    -- write
    ∷ (Part (at 1 1) 1 1, Some (PermValue record { numerator = pos 1; below = 0 }))
    -- none
    ∷ (Part (at 1 1) 0 1, Some (PermValue record { numerator = pos 0; below = 0 }))
    -- y
    ∷ (Variable (at 1 1) y, Some (IntValue (pos 0)))
    -- x
    ∷ (Variable (at 1 1) x, Some (RefValue 1))
    -- w
    ∷ (Variable (at 1 1) w, None)
    ∷ []

-- operators on numbers
abbrev pub of_ints : List (Expr × Option Value)
of_ints =
    -- 1 + 2
    (Operate (at 1 1) Add (Number (at 1 1) 1) (Number (at 1 5) 2), Some (IntValue (pos 3)))
    -- 1 - 2
    ∷ (Operate (at 1 1) Subtract (Number (at 1 1) 1) (Number (at 1 5) 2), Some (IntValue (negsuc 0)))
    -- 2 * 3
    ∷ (Operate (at 1 1) Multiply (Number (at 1 1) 2) (Number (at 1 5) 3), Some (IntValue (pos 6)))
    -- -2
    ∷ (Operate (at 1 1) Subtract (Number (at 1 1) 0) (Number (at 1 2) 2), Some (IntValue (negsuc 1)))
    -- 1 == 1
    ∷ (Operate (at 1 1) Equal (Number (at 1 1) 1) (Number (at 1 6) 1), Some (BoolValue true))
    -- 1 == 2
    ∷ (Operate (at 1 1) Equal (Number (at 1 1) 1) (Number (at 1 6) 2), Some (BoolValue false))
    -- 1 != 2
    ∷ (Not (at 1 1) (Operate (at 1 1) Equal (Number (at 1 1) 1) (Number (at 1 6) 2)), Some (BoolValue true))
    -- 1 != 1
    ∷ (Not (at 1 1) (Operate (at 1 1) Equal (Number (at 1 1) 1) (Number (at 1 6) 1)), Some (BoolValue false))
    -- 1 < 2
    ∷ (Operate (at 1 1) Less (Number (at 1 1) 1) (Number (at 1 5) 2), Some (BoolValue true))
    -- 2 < 2
    ∷ (Operate (at 1 1) Less (Number (at 1 1) 2) (Number (at 1 5) 2), Some (BoolValue false))
    -- 2 <= 2
    ∷ (Operate (at 1 1) LessEqual (Number (at 1 1) 2) (Number (at 1 6) 2), Some (BoolValue true))
    -- 3 <= 2
    ∷ (Operate (at 1 1) LessEqual (Number (at 1 1) 3) (Number (at 1 6) 2), Some (BoolValue false))
    -- 2 > 1
    ∷ (Operate (at 1 1) Greater (Number (at 1 1) 2) (Number (at 1 5) 1), Some (BoolValue true))
    -- 2 > 2
    ∷ (Operate (at 1 1) Greater (Number (at 1 1) 2) (Number (at 1 5) 2), Some (BoolValue false))
    -- 2 >= 2
    ∷ (Operate (at 1 1) GreaterEqual (Number (at 1 1) 2) (Number (at 1 6) 2), Some (BoolValue true))
    -- 2 >= 3
    ∷ (Operate (at 1 1) GreaterEqual (Number (at 1 1) 2) (Number (at 1 6) 3), Some (BoolValue false))
    ∷ []

-- operators on amounts
abbrev pub of_amounts : List (Expr × Option Value)
of_amounts =
    -- 1/2 + 1/3
    (Operate (at 1 1) Add (Part (at 1 1) 1 2) (Part (at 1 7) 1 3), Some (PermValue record { numerator = pos 5; below = 5 }))
    -- 1/2 - 1/3
    ∷ (Operate (at 1 1) Subtract (Part (at 1 1) 1 2) (Part (at 1 7) 1 3), Some (PermValue record { numerator = pos 1; below = 5 }))
    -- 3 * write
    ∷ (Operate (at 1 1) Multiply (Number (at 1 1) 3) (Part (at 1 5) 1 1), Some (PermValue record { numerator = pos 3; below = 0 }))
    -- 1/2 == 2/4
    ∷ (Operate (at 1 1) Equal (Part (at 1 1) 1 2) (Part (at 1 8) 2 4), Some (BoolValue true))
    -- 1/2 == 1/3
    ∷ (Operate (at 1 1) Equal (Part (at 1 1) 1 2) (Part (at 1 8) 1 3), Some (BoolValue false))
    -- 1/3 < 1/2
    ∷ (Operate (at 1 1) Less (Part (at 1 1) 1 3) (Part (at 1 7) 1 2), Some (BoolValue true))
    -- 1/2 < 1/2
    ∷ (Operate (at 1 1) Less (Part (at 1 1) 1 2) (Part (at 1 7) 1 2), Some (BoolValue false))
    -- 1/2 <= 2/4
    ∷ (Operate (at 1 1) LessEqual (Part (at 1 1) 1 2) (Part (at 1 8) 2 4), Some (BoolValue true))
    -- 1/2 <= 1/3
    ∷ (Operate (at 1 1) LessEqual (Part (at 1 1) 1 2) (Part (at 1 8) 1 3), Some (BoolValue false))
    -- 1/2 > 1/3
    ∷ (Operate (at 1 1) Greater (Part (at 1 1) 1 2) (Part (at 1 7) 1 3), Some (BoolValue true))
    -- 1/2 > 1/2
    ∷ (Operate (at 1 1) Greater (Part (at 1 1) 1 2) (Part (at 1 7) 1 2), Some (BoolValue false))
    -- 1/2 >= 1/2
    ∷ (Operate (at 1 1) GreaterEqual (Part (at 1 1) 1 2) (Part (at 1 8) 1 2), Some (BoolValue true))
    -- 1/3 >= 1/2
    ∷ (Operate (at 1 1) GreaterEqual (Part (at 1 1) 1 3) (Part (at 1 8) 1 2), Some (BoolValue false))
    ∷ []

-- equality of truths and of references; operands of other types
abbrev pub of_others : List (Expr × Option Value)
of_others =
    -- true == true
    (Operate (at 1 1) Equal (Truth (at 1 1) true) (Truth (at 1 9) true), Some (BoolValue true))
    -- true == false
    ∷ (Operate (at 1 1) Equal (Truth (at 1 1) true) (Truth (at 1 9) false), Some (BoolValue false))
    -- false == false
    ∷ (Operate (at 1 1) Equal (Truth (at 1 1) false) (Truth (at 1 10) false), Some (BoolValue true))
    -- x == x
    ∷ (Operate (at 1 1) Equal (Variable (at 1 1) x) (Variable (at 1 6) x), Some (BoolValue true))
    -- x == null
    ∷ (Operate (at 1 1) Equal (Variable (at 1 1) x) (Null (at 1 6)), Some (BoolValue false))
    -- 1 == true
    ∷ (Operate (at 1 1) Equal (Number (at 1 1) 1) (Truth (at 1 6) true), Some (BoolValue false))
    -- 1 + true
    ∷ (Operate (at 1 1) Add (Number (at 1 1) 1) (Truth (at 1 5) true), None)
    -- x < x
    ∷ (Operate (at 1 1) Less (Variable (at 1 1) x) (Variable (at 1 5) x), None)
    -- !true
    ∷ (Not (at 1 1) (Truth (at 1 2) true), Some (BoolValue false))
    -- !false
    ∷ (Not (at 1 1) (Truth (at 1 2) false), Some (BoolValue true))
    -- !1
    ∷ (Not (at 1 1) (Number (at 1 2) 1), None)
    ∷ []

-- quotients and remainders, as in SMT-LIB
abbrev pub divisions : List (Expr × Option Value)
divisions =
    -- 7 \ 2
    (Divide (at 1 1) Quotient (Number (at 1 1) 7) (Number (at 1 5) 2), Some (IntValue (pos 3)))
    -- -7 \ 2
    ∷ (Divide (at 1 1) Quotient (Operate (at 1 1) Subtract (Number (at 1 1) 0) (Number (at 1 2) 7)) (Number (at 1 6) 2), Some (IntValue (negsuc 3)))
    -- 7 \ -2
    ∷ (Divide (at 1 1) Quotient (Number (at 1 1) 7) (Operate (at 1 5) Subtract (Number (at 1 5) 0) (Number (at 1 6) 2)), Some (IntValue (negsuc 2)))
    -- 7 % 2
    ∷ (Divide (at 1 1) Remainder (Number (at 1 1) 7) (Number (at 1 5) 2), Some (IntValue (pos 1)))
    -- -7 % 2
    ∷ (Divide (at 1 1) Remainder (Operate (at 1 1) Subtract (Number (at 1 1) 0) (Number (at 1 2) 7)) (Number (at 1 6) 2), Some (IntValue (pos 1)))
    -- 7 % -2
    ∷ (Divide (at 1 1) Remainder (Number (at 1 1) 7) (Operate (at 1 5) Subtract (Number (at 1 5) 0) (Number (at 1 6) 2)), Some (IntValue (pos 1)))
    -- 7 \ 0
    ∷ (Divide (at 1 1) Quotient (Number (at 1 1) 7) (Number (at 1 5) 0), None)
    -- 7 % 0
    ∷ (Divide (at 1 1) Remainder (Number (at 1 1) 7) (Number (at 1 5) 0), None)
    -- true \ 2
    ∷ (Divide (at 1 1) Quotient (Truth (at 1 1) true) (Number (at 1 8) 2), None)
    ∷ []

-- the right part only where it is needed
abbrev pub connectives : List (Expr × Option Value)
connectives =
    -- true && true
    (Connect (at 1 1) And (Truth (at 1 1) true) (Truth (at 1 9) true), Some (BoolValue true))
    -- true && false
    ∷ (Connect (at 1 1) And (Truth (at 1 1) true) (Truth (at 1 9) false), Some (BoolValue false))
    -- false && 7 \ 0 == 0
    ∷ (Connect (at 1 1) And (Truth (at 1 1) false) (Operate (at 1 10) Equal (Divide (at 1 10) Quotient (Number (at 1 10) 7) (Number (at 1 14) 0)) (Number (at 1 19) 0)), Some (BoolValue false))
    -- true && 7 \ 0 == 0
    ∷ (Connect (at 1 1) And (Truth (at 1 1) true) (Operate (at 1 9) Equal (Divide (at 1 9) Quotient (Number (at 1 9) 7) (Number (at 1 13) 0)) (Number (at 1 18) 0)), None)
    -- false || true
    ∷ (Connect (at 1 1) Or (Truth (at 1 1) false) (Truth (at 1 10) true), Some (BoolValue true))
    -- false || false
    ∷ (Connect (at 1 1) Or (Truth (at 1 1) false) (Truth (at 1 10) false), Some (BoolValue false))
    -- true || 7 \ 0 == 0
    ∷ (Connect (at 1 1) Or (Truth (at 1 1) true) (Operate (at 1 9) Equal (Divide (at 1 9) Quotient (Number (at 1 9) 7) (Number (at 1 13) 0)) (Number (at 1 18) 0)), Some (BoolValue true))
    -- false || 7 \ 0 == 0
    ∷ (Connect (at 1 1) Or (Truth (at 1 1) false) (Operate (at 1 10) Equal (Divide (at 1 10) Quotient (Number (at 1 10) 7) (Number (at 1 14) 0)) (Number (at 1 19) 0)), None)
    -- true ==> true
    ∷ (Connect (at 1 1) Implies (Truth (at 1 1) true) (Truth (at 1 10) true), Some (BoolValue true))
    -- true ==> false
    ∷ (Connect (at 1 1) Implies (Truth (at 1 1) true) (Truth (at 1 10) false), Some (BoolValue false))
    -- false ==> 7 \ 0 == 0
    ∷ (Connect (at 1 1) Implies (Truth (at 1 1) false) (Operate (at 1 11) Equal (Divide (at 1 11) Quotient (Number (at 1 11) 7) (Number (at 1 15) 0)) (Number (at 1 20) 0)), Some (BoolValue true))
    -- true ==> 7 \ 0 == 0
    ∷ (Connect (at 1 1) Implies (Truth (at 1 1) true) (Operate (at 1 10) Equal (Divide (at 1 10) Quotient (Number (at 1 10) 7) (Number (at 1 14) 0)) (Number (at 1 19) 0)), None)
    -- 1 && true
    ∷ (Connect (at 1 1) And (Number (at 1 1) 1) (Truth (at 1 6) true), None)
    -- true ? 1 : 7 \ 0
    ∷ (Choose (at 1 1) (Truth (at 1 1) true) (Number (at 1 8) 1) (Divide (at 1 12) Quotient (Number (at 1 12) 7) (Number (at 1 16) 0)), Some (IntValue (pos 1)))
    -- false ? 7 \ 0 : 2
    ∷ (Choose (at 1 1) (Truth (at 1 1) false) (Divide (at 1 9) Quotient (Number (at 1 9) 7) (Number (at 1 13) 0)) (Number (at 1 17) 2), Some (IntValue (pos 2)))
    -- true ? 7 \ 0 : 2
    ∷ (Choose (at 1 1) (Truth (at 1 1) true) (Divide (at 1 8) Quotient (Number (at 1 8) 7) (Number (at 1 12) 0)) (Number (at 1 16) 2), None)
    -- 1 ? 1 : 2
    ∷ (Choose (at 1 1) (Number (at 1 1) 1) (Number (at 1 5) 1) (Number (at 1 9) 2), None)
    ∷ []

-- reads of fields, with no regard to what is held
abbrev pub reads : List (Expr × Option Value)
reads =
    -- x.f
    (Read (at 1 1) (Variable (at 1 1) x) f, Some (IntValue (pos 5)))
    -- null.f
    ∷ (Read (at 1 1) (Null (at 1 1)) f, Some (IntValue (pos 0)))
    -- y.f
    ∷ (Read (at 1 1) (Variable (at 1 1) y) f, None)
    -- old(x.f)
    ∷ (Old (at 1 1) (Read (at 1 5) (Variable (at 1 5) x) f), Some (IntValue (pos 4)))
    -- old(x.f) == x.f
    ∷ (Operate (at 1 1) Equal (Old (at 1 1) (Read (at 1 5) (Variable (at 1 5) x) f)) (Read (at 1 13) (Variable (at 1 13) x) f), Some (BoolValue false))
    -- unfolding cell(x) in x.f
    ∷ (Unfolding (at 1 1) cell (More (Variable (at 1 16) x) NoMore) (Part (at 1 1) 1 1) (Read (at 1 22) (Variable (at 1 22) x) f), Some (IntValue (pos 5)))
    -- unfolding cell(y) in y.f
    ∷ (Unfolding (at 1 1) cell (More (Variable (at 1 16) y) NoMore) (Part (at 1 1) 1 1) (Read (at 1 22) (Variable (at 1 22) y) f), None)
    ∷ []

-- applications, by one unit of fuel
abbrev pub applications : List (Expr × Option Value)
applications =
    -- get(x)
    (Apply (at 1 1) get (More (Variable (at 1 5) x) NoMore), Some (IntValue (pos 5)))
    -- old(get(x))
    ∷ (Old (at 1 1) (Apply (at 1 5) get (More (Variable (at 1 9) x) NoMore)), Some (IntValue (pos 4)))
    -- get(x) + 1
    ∷ (Operate (at 1 1) Add (Apply (at 1 1) get (More (Variable (at 1 5) x) NoMore)) (Number (at 1 10) 1), Some (IntValue (pos 6)))
    -- get(7 \ 0)
    ∷ (Apply (at 1 1) get (More (Divide (at 1 5) Quotient (Number (at 1 5) 7) (Number (at 1 9) 0)) NoMore), None)
    -- cell(x) == 0
    ∷ (Operate (at 1 1) Equal (Apply (at 1 1) cell (More (Variable (at 1 6) x) NoMore)) (Number (at 1 12) 0), None)
    ∷ []
