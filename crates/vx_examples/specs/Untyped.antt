-- Values, parts and statements that no typed program has, or that name no member: x is the reference 1, y is 0, and x.f is 5.
use Rattle.std.specs.Prelude.{Bool, true, false, pos, negsuc, List, [], ◌∷◌, Option, Some, None, Ok, Err, codes}
use Rattle.vx_frac.specs.Fractions.{full, none}
use Rattle.vx_ast.specs.declared.ValueType.{ValueType}
use Rattle.vx_ast.specs.declared.ValueType.TheVariants.{Int, Perm}
use Rattle.vx_ast.specs.declared.ValueType.TheVariants as type
use Rattle.vx_ast.specs.Syntax as syntax
use Rattle.vx_ast.specs.Syntax.{Name, Expr, Number, Truth, Null, Part, Variable, Operate, Subtract, Equal, Divide, Quotient, Read, Apply, Unfolding, Exprs, NoMore, More, Assertion, Pure, Points, Instance, Both, Implied, Chosen, Block, Done, Then, Predicate, Program, IsField, IsPredicate, Measure, ByNumber, ByInstance}
use Rattle.vx_meaning.specs.Values.{Value, IntValue, BoolValue, RefValue, PermValue}
use Rattle.vx_meaning.specs.States.{Holdings, At, Folded}
use Rattle.vx_meaning.specs.Fits.{Checked}
use Rattle.vx_meaning.specs.Fails as fails
use Rattle.vx_examples.specs.Words.{at}
use Rattle.vx_examples.specs.Cells.{cell, f, get, hidden, x, y}
use Rattle.vx_examples.specs.Scenes.{half, x_f, a_cell}

abbrev pub of_types : List ((ValueType × ValueType) × Bool)
of_types =
    ((Int, Int), true) ∷ ((type.Bool, type.Bool), true) ∷ ((type.Ref, type.Ref), true) ∷ ((Perm, Perm), true) ∷ ((Int, Perm), false) ∷ ((type.Bool, Int), false) ∷ ((type.Ref, type.Bool), false) ∷ ((Perm, type.Ref), false) ∷ []

abbrev pub of_values : List ((Value × Value) × Bool)
of_values =
    ((IntValue (pos 1), IntValue (pos 1)), true) ∷ ((IntValue (pos 1), IntValue (negsuc 0)), false) ∷ ((BoolValue true, BoolValue true), true) ∷ ((BoolValue false, BoolValue false), true)
    ∷ ((BoolValue true, BoolValue false), false) ∷ ((BoolValue false, BoolValue true), false) ∷ ((RefValue 1, RefValue 1), true) ∷ ((RefValue 1, RefValue 2), false) ∷ ((PermValue half, PermValue half), true)
    ∷ ((IntValue (pos 0), RefValue 0), false) ∷ ((PermValue none, IntValue (pos 0)), false) ∷ ((RefValue 0, BoolValue false), false) ∷ []

-- acc(cell(x), y) and the like: an amount, a receiver or a condition of another type
abbrev pub one_x : Exprs
one_x = More (Variable (at 1 9) x) NoMore

abbrev pub whole : Expr
whole = Part (at 1 5) 1 1

abbrev pub x_var : Expr
x_var = Variable (at 1 2) x

abbrev pub y_var : Expr
y_var = Variable (at 1 3) y

-- what may be evaluated where all of cell(x) is held
abbrev pub allowed_to_folder : List (Expr × Checked Value)
allowed_to_folder =
    -- unfolding acc(cell(x), y) in 1, unfolding acc(hidden(x), write) in 1, unfolding acc(get(x), write) in 1
    (Unfolding (at 1 1) cell one_x y_var (Number (at 1 4) 1), Err (at 1 1)) ∷ (Unfolding (at 1 1) hidden one_x whole (Number (at 1 4) 1), Err (at 1 1)) ∷ (Unfolding (at 1 1) get one_x whole (Number (at 1 4) 1), Err (at 1 1))
    -- unfolding acc(cell(1 \ 0), write) in 1, unfolding acc(cell(x), 1 \ 0) in 1
    ∷ (Unfolding (at 1 1) cell (More (Divide (at 1 6) Quotient (Number (at 1 6) 1) (Number (at 1 7) 0)) NoMore) whole (Number (at 1 4) 1), Err (at 1 6))
    ∷ (Unfolding (at 1 1) cell one_x (Divide (at 1 6) Quotient (Number (at 1 6) 1) (Number (at 1 7) 0)) (Number (at 1 4) 1), Err (at 1 6))
    -- cell(x) and w(x) as applications, get(1 \ 0)
    ∷ (Apply (at 1 1) cell one_x, Err (at 1 1)) ∷ (Apply (at 1 1) y one_x, Err (at 1 1)) ∷ (Apply (at 1 1) get (More (Divide (at 1 6) Quotient (Number (at 1 6) 1) (Number (at 1 7) 0)) NoMore), Err (at 1 6))
    -- y \ true, (1 \ 0) \ 1
    ∷ (Divide (at 1 1) Quotient y_var (Truth (at 1 4) true), Err (at 1 1)) ∷ (Divide (at 1 1) Quotient (Divide (at 1 6) Quotient (Number (at 1 6) 1) (Number (at 1 7) 0)) (Number (at 1 4) 1), Err (at 1 6)) ∷ []

-- what is taken where all of x.f is held: a receiver, an amount or a condition of another type, and an amount that doesn't fit
abbrev pub taken_from_owner : List (Assertion × Checked Holdings)
taken_from_owner =
    (Points (at 1 1) y_var f whole, Err (at 1 1)) ∷ (Points (at 1 1) x_var f y_var, Err (at 1 1)) ∷ (Points (at 1 1) x_var f (Operate (at 1 4) Subtract (Part (at 1 4) 0 1) whole), Err (at 1 1))
    ∷ (Points (at 1 1) x_var f (Divide (at 1 4) Quotient (Number (at 1 4) 1) (Number (at 1 5) 0)), Err (at 1 4)) ∷ (Points (at 1 1) (Read (at 1 4) (Null (at 1 4)) f) f whole, Err (at 1 4))
    ∷ (Instance (at 1 1) cell one_x y_var, Err (at 1 1)) ∷ (Instance (at 1 1) cell one_x (Operate (at 1 4) Subtract (Part (at 1 4) 0 1) whole), Err (at 1 1))
    ∷ (Instance (at 1 1) cell (More (Divide (at 1 4) Quotient (Number (at 1 4) 1) (Number (at 1 5) 0)) NoMore) whole, Err (at 1 4))
    -- none of an instance that isn't held is there
    ∷ (Instance (at 1 1) cell one_x (Part (at 1 4) 0 1), Ok ((Folded a_cell, record { numerator = pos 0; below = 0 }) ∷ (At x_f, full) ∷ []))
    ∷ (Implied y_var (Pure (Truth (at 1 4) true)), Err (at 1 3)) ∷ (Chosen y_var (Pure (Truth (at 1 4) true)) (Pure (Truth (at 1 4) true)), Err (at 1 3)) ∷ (Pure y_var, Err (at 1 3)) ∷ []

abbrev pub added_to_owner : List (Assertion × Checked Holdings)
added_to_owner =
    (Points (at 1 1) y_var f whole, Err (at 1 1)) ∷ (Points (at 1 1) x_var f y_var, Err (at 1 1)) ∷ (Instance (at 1 1) cell one_x y_var, Err (at 1 1)) ∷ (Implied y_var (Pure (Truth (at 1 4) true)), Err (at 1 3))
    ∷ (Chosen y_var (Pure (Truth (at 1 4) true)) (Pure (Truth (at 1 4) true)), Err (at 1 3)) ∷ (Pure (Truth (at 1 4) false), Ok ((At x_f, full) ∷ [])) ∷ (Pure (Read (at 1 4) (Null (at 1 4)) f), Err (at 1 4)) ∷ []

-- the entries of assertions where nothing is held
abbrev pub inside : List (Assertion × Option Holdings)
inside =
    (Points (at 1 1) y_var f whole, None) ∷ (Points (at 1 1) x_var f y_var, None) ∷ (Instance (at 1 1) cell one_x y_var, None) ∷ (Instance (at 1 1) cell one_x whole, Some ((Folded a_cell, full) ∷ []))
    ∷ (Pure (Operate (at 1 1) Equal (Apply (at 1 1) get one_x) (Number (at 1 4) 5)), None) ∷ (Pure y_var, None) ∷ (Implied y_var (Pure (Truth (at 1 4) true)), None) ∷ (Chosen y_var (Pure (Truth (at 1 4) true)) (Pure (Truth (at 1 4) true)), None)
    ∷ (Both (Points (at 1 1) x_var f whole) (Pure (Truth (at 1 4) false)), None) ∷ []

-- an unfold and a fold of a function's name, a call of a function's name, and amounts of another type
abbrev pub folds_get : Block
folds_get = Then (syntax.Fold (at 1 1) get one_x whole) Done

abbrev pub unfolds_get : Block
unfolds_get = Then (syntax.Unfold (at 1 1) get one_x whole) Done

abbrev pub calls_get : Block
calls_get = Then (syntax.Call (at 1 1) [] get one_x) Done

abbrev pub folds_by_int : Block
folds_by_int = Then (syntax.Fold (at 1 1) cell one_x y_var) Done

abbrev pub unfolds_by_int : Block
unfolds_by_int = Then (syntax.Unfold (at 1 1) cell one_x y_var) Done

abbrev pub writes_of_int : Block
writes_of_int = Then (syntax.Write (at 1 1) y_var f (Number (at 1 4) 1)) Done

-- if (y) {} else { assert false }: a condition of another type is not true
abbrev pub asks_int : Block
asks_int = Then (syntax.If (at 1 1) y_var Done (Then (syntax.Assert (at 1 5) (Pure (Truth (at 1 6) false))) Done)) Done

-- field f: Int
-- predicate open(x: Ref) { x.f == 0 }
abbrev pub open_name : Name
open_name = codes "open"

abbrev pub open_body : Predicate
open_body = record { place = at 2 1; parameters = record { name = x; of = type.Ref } ∷ []; body = Some (Pure (Operate (at 2 9) Equal (Read (at 2 9) (Variable (at 2 9) x) f) (Number (at 2 15) 0))) }

abbrev pub opens : Program
opens = record { name = f; kind = IsField Int } ∷ record { name = open_name; kind = IsPredicate open_body } ∷ []

-- measures and what they are worth, by no fuel
abbrev pub worths : List (Measure × Option fails.Measure)
worths =
    (ByNumber (Number (at 1 1) 3), Some (fails.Number (pos 3))) ∷ (ByNumber x_var, None) ∷ (ByNumber (Divide (at 1 4) Quotient (Number (at 1 4) 1) (Number (at 1 5) 0)), None)
    ∷ (ByInstance (at 1 1) cell one_x, Some (fails.Inside a_cell)) ∷ (ByInstance (at 1 1) cell (More (Variable (at 1 4) f) NoMore), None) ∷ []
