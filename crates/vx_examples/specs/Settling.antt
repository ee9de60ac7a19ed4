-- Written syntax, and the settled syntax that it becomes where `cell` is a predicate, `read` a method, and f and g are the fields.
use Rattle.std.specs.Prelude.{Bool, true, false, List, [], ◌∷◌, ◌++◌, Option, Some, None}
use Rattle.vx_ast.specs.declared.UnaryOperator.TheVariants as unary
use Rattle.vx_ast.specs.declared.BinaryOperator.{BinaryOperator}
use Rattle.vx_ast.specs.declared.BinaryOperator.TheVariants as operator
use Rattle.vx_ast.specs.declared.ValueType.TheVariants.{Int}
use Rattle.vx_ast.specs.declared.ValueType.TheVariants as type
use Rattle.vx_ast.specs.Written as written
use Rattle.vx_ast.specs.Syntax
use Rattle.vx_ast.specs.Syntax.{Name, same_name, result_name, Expr, Number, Truth, Null, Part, Variable, Not, Operate, Divide, Connect, Choose, Read, Old, Apply, Unfolding, Exprs, NoMore, More, Assertion, Pure, Points, Instance, Both, Implied, Chosen, Stmt, Block, Done, Then, Measure, ByNumber, ByInstance}
use Rattle.vx_ast.specs.Resolve.{Names}
use Rattle.vx_examples.specs.Words.{at}
use Rattle.vx_examples.specs.Cells.{cell, f, get, read_name, x, y}
use Rattle.vx_examples.specs.Mentioned.{g}

abbrev pub names : Names
names = record { is_predicate = same_name cell; is_method = same_name read_name; fields = f ∷ g ∷ [] }

-- a name, wherever it stands
abbrev pub named : Name → written.Placed
named x = written.placed (at 1 2) x

-- 1 OP 2
abbrev pub one_two : BinaryOperator → written.Expr
one_two op = written.Binary (at 1 1) op (written.Number (at 1 1) 1) (written.Number (at 1 6) 2)

abbrev pub one : Expr
one = Number (at 1 1) 1

abbrev pub two : Expr
two = Number (at 1 6) 2

-- 1 + x
abbrev pub written_sum : written.Expr
written_sum = written.Binary (at 1 1) operator.Add (written.Number (at 1 1) 1) (written.Variable (at 1 5) x)

abbrev pub sum : Expr
sum = Operate (at 1 1) Syntax.Add (Number (at 1 1) 1) (Variable (at 1 5) x)

-- x.f
abbrev pub written_read : written.Expr
written_read = written.Read (at 1 1) (written.Variable (at 1 1) x) (named f)

abbrev pub read : Expr
read = Read (at 1 1) (Variable (at 1 1) x) f

abbrev pub written_x : written.Exprs
written_x = written.More (written.Variable (at 1 9) x) written.NoMore

abbrev pub one_x : Exprs
one_x = More (Variable (at 1 9) x) NoMore

abbrev pub of_operators : List (written.Expr × Expr)
of_operators =
    (one_two operator.And, Connect (at 1 1) Syntax.And one two) ∷ (one_two operator.Or, Connect (at 1 1) Syntax.Or one two) ∷ (one_two operator.Implies, Connect (at 1 1) Syntax.Implies one two)
    ∷ (one_two operator.Equal, Operate (at 1 1) Syntax.Equal one two) ∷ (one_two operator.NotEqual, Not (at 1 1) (Operate (at 1 1) Syntax.Equal one two))
    ∷ (one_two operator.Less, Operate (at 1 1) Syntax.Less one two) ∷ (one_two operator.LessEqual, Operate (at 1 1) Syntax.LessEqual one two)
    ∷ (one_two operator.Greater, Operate (at 1 1) Syntax.Greater one two) ∷ (one_two operator.GreaterEqual, Operate (at 1 1) Syntax.GreaterEqual one two)
    ∷ (one_two operator.Add, Operate (at 1 1) Syntax.Add one two) ∷ (one_two operator.Subtract, Operate (at 1 1) Syntax.Subtract one two) ∷ (one_two operator.Multiply, Operate (at 1 1) Syntax.Multiply one two)
    ∷ (one_two operator.Quotient, Divide (at 1 1) Syntax.Quotient one two) ∷ (one_two operator.Remainder, Divide (at 1 1) Syntax.Remainder one two)
    -- 1/2, and a fraction of what is no numeral, which no typed program has
    ∷ (one_two operator.Divide, Part (at 1 1) 1 2)
    ∷ (written.Binary (at 1 1) operator.Divide (written.Variable (at 1 1) x) (written.Number (at 1 5) 2), Null (at 1 1))
    ∷ (written.Binary (at 1 1) operator.Divide (written.Number (at 1 1) 1) (written.Variable (at 1 5) x), Null (at 1 1))
    -- !true, -x
    ∷ (written.Unary (at 1 1) unary.Not (written.Truth (at 1 2) true), Not (at 1 1) (Truth (at 1 2) true))
    ∷ (written.Unary (at 1 1) unary.Negate (written.Variable (at 1 2) x), Operate (at 1 1) Syntax.Subtract (Number (at 1 1) 0) (Variable (at 1 2) x)) ∷ []

abbrev pub of_expressions : List (written.Expr × Expr)
of_expressions =
    (written.Number (at 1 1) 3, Number (at 1 1) 3) ∷ (written.Truth (at 1 1) false, Truth (at 1 1) false) ∷ (written.Null (at 1 1), Null (at 1 1))
    ∷ (written.Whole (at 1 1), Part (at 1 1) 1 1) ∷ (written.Nothing (at 1 1), Part (at 1 1) 0 1) ∷ (written.Result (at 1 1), Variable (at 1 1) result_name)
    ∷ (written.Variable (at 1 1) x, Variable (at 1 1) x) ∷ (written_sum, sum) ∷ (written_read, read)
    ∷ (written.Call (at 1 1) get (written.More written_sum written_x), Apply (at 1 1) get (More sum one_x)) ∷ (written.Call (at 1 1) get written.NoMore, Apply (at 1 1) get NoMore)
    ∷ (written.Choice (at 1 1) (written.Truth (at 2 1) true) written_sum written_read, Choose (at 1 1) (Truth (at 2 1) true) sum read) ∷ (written.Old (at 1 1) written_read, Old (at 1 1) read)
    -- acc(x.f), where it is no assertion
    ∷ (written.Access (at 1 1) written_read written.All, Null (at 1 1))
    -- unfolding cell(x) in x.f, unfolding acc(cell(x), none) in x.f
    ∷ (written.Unfolding (at 1 1) (named cell) written_x written.All written_read, Unfolding (at 1 1) cell one_x (Part (at 1 1) 1 1) read)
    ∷ (written.Unfolding (at 1 1) (named cell) written_x (written.Part (written.Nothing (at 1 7))) written_read, Unfolding (at 1 1) cell one_x (Part (at 1 7) 0 1) read) ∷ []

-- acc(x.f)
abbrev pub written_held : written.Expr
written_held = written.Access (at 3 1) written_read written.All

abbrev pub held : Assertion
held = Points (at 3 1) (Variable (at 1 1) x) f (Part (at 3 1) 1 1)

abbrev pub written_true : written.Expr
written_true = written.Truth (at 2 1) true

abbrev pub truth : Expr
truth = Truth (at 2 1) true

abbrev pub of_assertions : List (written.Expr × Assertion)
of_assertions =
    (written_held, held) ∷ (written.Access (at 3 1) written_read (written.Part (written.Nothing (at 3 9))), Points (at 3 1) (Variable (at 1 1) x) f (Part (at 3 9) 0 1))
    -- acc(cell(x)), acc(x)
    ∷ (written.Access (at 3 1) (written.Call (at 3 5) cell written_x) written.All, Instance (at 3 1) cell one_x (Part (at 3 1) 1 1)) ∷ (written.Access (at 3 1) (written.Variable (at 3 5) x) written.All, Pure (Null (at 3 1)))
    -- cell(x), get(x)
    ∷ (written.Call (at 3 1) cell written_x, Instance (at 3 1) cell one_x (Part (at 3 1) 1 1)) ∷ (written.Call (at 3 1) get written_x, Pure (Apply (at 3 1) get one_x))
    -- true && true, acc(x.f) && true
    ∷ (written.Binary (at 4 1) operator.And written_true written_true, Both (Pure truth) (Pure truth)) ∷ (written.Binary (at 4 1) operator.And written_held written_true, Both held (Pure truth))
    -- true ==> true, true ==> acc(x.f)
    ∷ (written.Binary (at 4 1) operator.Implies written_true written_true, Pure (Connect (at 4 1) Syntax.Implies truth truth)) ∷ (written.Binary (at 4 1) operator.Implies written_true written_held, Implied truth held)
    -- true ==> true && true, where both parts of the conjunction are pure
    ∷ (written.Binary (at 4 1) operator.Implies written_true (written.Binary (at 4 9) operator.And written_true written_true), Pure (Connect (at 4 1) Syntax.Implies truth (Connect (at 4 9) Syntax.And truth truth)))
    -- true ? true : true, true ? acc(x.f) : true, true ? true : acc(x.f)
    ∷ (written.Choice (at 4 1) written_true written_true written_true, Pure (Choose (at 4 1) truth truth truth)) ∷ (written.Choice (at 4 1) written_true written_held written_true, Chosen truth held (Pure truth))
    ∷ (written.Choice (at 4 1) written_true written_true written_held, Chosen truth (Pure truth) held)
    -- x, true || acc(x.f), which no typed program has
    ∷ (written.Variable (at 4 1) x, Pure (Variable (at 4 1) x)) ∷ (written.Binary (at 4 1) operator.Or written_true written_held, Pure (Connect (at 4 1) Syntax.Or truth (Null (at 3 1)))) ∷ []

-- is no permission in it
abbrev pub of_purity : List (written.Expr × Bool)
of_purity =
    (written_held, false) ∷ (written.Call (at 3 1) cell written_x, false) ∷ (written.Call (at 3 1) get written_x, true)
    ∷ (written.Binary (at 4 1) operator.And written_true written_true, true) ∷ (written.Binary (at 4 1) operator.And written_held written_true, false) ∷ (written.Binary (at 4 1) operator.And written_true written_held, false)
    ∷ (written.Binary (at 4 1) operator.Implies written_true written_true, true) ∷ (written.Binary (at 4 1) operator.Implies written_true written_held, false)
    ∷ (written.Choice (at 4 1) written_true written_true written_true, true) ∷ (written.Choice (at 4 1) written_true written_held written_true, false) ∷ (written.Choice (at 4 1) written_true written_true written_held, false)
    ∷ (written_read, true) ∷ (written.Binary (at 4 1) operator.Or written_true written_held, true) ∷ []

abbrev pub measures : List (written.Expr × Measure)
measures =
    (written.Call (at 3 1) cell written_x, ByInstance (at 3 1) cell one_x) ∷ (written.Call (at 3 1) get written_x, ByNumber (Apply (at 3 1) get one_x)) ∷ (written_sum, ByNumber sum)
    ∷ (written.Access (at 3 1) (written.Call (at 3 5) cell written_x) written.All, ByNumber (Null (at 3 1))) ∷ []

-- Statements

abbrev pub y_int : written.Declaration
y_int = record { name = named y; of = Int; type_at = at 1 1 }

abbrev pub x_ref : written.Declaration
x_ref = record { name = named x; of = type.Ref; type_at = at 1 1 }

abbrev pub alone : Stmt → Block
alone s = Then s Done

-- statements, each alone in a block
abbrev pub of_statements : List (written.Stmt × Block)
of_statements =
    -- var y: Int, var y: Int := 1 + x, var y: Int := read(x)
    (written.Declare (at 5 1) y_int None, alone (Syntax.Declare (at 5 1) y Int))
    ∷ (written.Declare (at 5 1) y_int (Some (written.Value written_sum)), Then (Syntax.Declare (at 5 1) y Int) (alone (Syntax.Assign (at 5 1) y sum)))
    ∷ (written.Declare (at 5 1) y_int (Some (written.Value (written.Call (at 5 9) read_name written_x))), Then (Syntax.Declare (at 5 1) y Int) (alone (Syntax.Call (at 5 1) (y ∷ []) read_name one_x)))
    -- y := 1 + x, y := read(x), y := get(x), y := new(*), y := new(g)
    ∷ (written.Assign (at 5 1) (named y) (written.Value written_sum), alone (Syntax.Assign (at 5 1) y sum))
    ∷ (written.Assign (at 5 1) (named y) (written.Value (written.Call (at 5 6) read_name written_x)), alone (Syntax.Call (at 5 1) (y ∷ []) read_name one_x))
    ∷ (written.Assign (at 5 1) (named y) (written.Value (written.Call (at 5 6) get written_x)), alone (Syntax.Assign (at 5 1) y (Apply (at 5 6) get one_x)))
    ∷ (written.Assign (at 5 1) (named y) (written.NewAll (at 5 6)), alone (Syntax.New (at 5 1) y (f ∷ g ∷ []))) ∷ (written.Assign (at 5 1) (named y) (written.New (at 5 6) (named g ∷ [])), alone (Syntax.New (at 5 1) y (g ∷ [])))
    -- x.f := 1 + x, x, y := read(x), read(x)
    ∷ (written.Write (at 5 1) (written.Variable (at 5 1) x) (named f) written_sum, alone (Syntax.Write (at 5 1) (Variable (at 5 1) x) f sum))
    ∷ (written.Invoke (at 5 1) (named x ∷ named y ∷ []) (named read_name) written_x, alone (Syntax.Call (at 5 1) (x ∷ y ∷ []) read_name one_x)) ∷ (written.Invoke (at 5 1) [] (named read_name) written_x, alone (Syntax.Call (at 5 1) [] read_name one_x))
    ∷ (written.Inhale (at 5 1) written_held, alone (Syntax.Inhale (at 5 1) held)) ∷ (written.Exhale (at 5 1) written_held, alone (Syntax.Exhale (at 5 1) held)) ∷ (written.Assert (at 5 1) written_true, alone (Syntax.Assert (at 5 1) (Pure truth)))
    -- assume true && true, which is one expression
    ∷ (written.Assume (at 5 1) (written.Binary (at 5 8) operator.And written_true written_true), alone (Syntax.Assume (at 5 1) (Connect (at 5 8) Syntax.And truth truth)))
    ∷ (written.Fold (at 5 1) (named cell) written_x written.All, alone (Syntax.Fold (at 5 1) cell one_x (Part (at 5 1) 1 1))) ∷ (written.Fold (at 5 1) (named cell) written_x (written.Part (written.Nothing (at 5 9))), alone (Syntax.Fold (at 5 1) cell one_x (Part (at 5 9) 0 1)))
    ∷ (written.Unfold (at 5 1) (named cell) written_x written.All, alone (Syntax.Unfold (at 5 1) cell one_x (Part (at 5 1) 1 1)))
    -- with no other side, and with one
    ∷ (written.If (at 5 1) written_true (written.Then (written.Assert (at 5 2) written_true) written.Done) written.NoElse, alone (Syntax.If (at 5 1) truth (alone (Syntax.Assert (at 5 2) (Pure truth))) Done))
    ∷ (written.If (at 5 1) written_true written.Done (written.Else (written.Then (written.Assert (at 5 2) written_true) written.Done)), alone (Syntax.If (at 5 1) truth Done (alone (Syntax.Assert (at 5 2) (Pure truth)))))
    ∷ (written.While (at 5 1) written_true (written.More written_held (written.More written_true written.NoMore)) written.Done, alone (Syntax.While (at 5 1) truth (held ∷ Pure truth ∷ []) Done)) ∷ []

-- Members

-- method read(x: Ref) returns (y: Int) requires true ensures acc(x.f) { assert true }, with or without its body
abbrev pub written_method : Option written.Block → written.Method
written_method b = record { parameters = x_ref ∷ []; returns = y_int ∷ []; clauses = written.Requires written_true ∷ written.Ensures written_held ∷ []; body = b }

abbrev pub method : Option Block → Syntax.Method
method b = record { place = at 6 1; parameters = record { name = x; of = type.Ref } ∷ []; returns = record { name = y; of = Int } ∷ []; requires = Pure truth ∷ []; ensures = held ∷ []; body = b }

-- function get(x: Ref): Int requires acc(x.f) ensures true { x.f }, with or without a measure
abbrev pub measured : Option written.Expr → List written.Clause
measured None = []
measured (Some e) = written.Decreases e ∷ []

abbrev pub written_function : Option written.Expr → written.Function
written_function m = record { parameters = x_ref ∷ []; of = Int; clauses = written.Requires written_held ∷ (measured m ++ written.Ensures written_true ∷ []); body = written_read }

abbrev pub function : Option Measure → Syntax.Function
function m = record { place = at 6 1; parameters = record { name = x; of = type.Ref } ∷ []; of = Int; requires = held ∷ []; ensures = truth ∷ []; decreases = m; body = read }

abbrev pub of_kinds : List (written.Kind × Syntax.Kind)
of_kinds =
    (written.IsField Int, Syntax.IsField Int)
    ∷ (written.IsPredicate (record { parameters = x_ref ∷ []; body = Some written_held }), Syntax.IsPredicate (record { place = at 6 1; parameters = record { name = x; of = type.Ref } ∷ []; body = Some held }))
    ∷ (written.IsPredicate (record { parameters = []; body = None }), Syntax.IsPredicate (record { place = at 6 1; parameters = []; body = None }))
    ∷ (written.IsFunction (written_function None), Syntax.IsFunction (function None)) ∷ (written.IsFunction (written_function (Some written_sum)), Syntax.IsFunction (function (Some (ByNumber sum))))
    ∷ (written.IsMethod (written_method None), Syntax.IsMethod (method None))
    ∷ (written.IsMethod (written_method (Some (written.Then (written.Assert (at 6 9) written_true) written.Done))), Syntax.IsMethod (method (Some (alone (Syntax.Assert (at 6 9) (Pure truth)))))) ∷ []

-- field f: Int
-- predicate cell(x: Ref) { acc(x.f) }
-- field g: Int
-- method read(x: Ref) returns (y: Int) requires true ensures acc(x.f)
-- function get(x: Ref): Int requires acc(x.f) ensures true { x.f }
abbrev pub written_members : written.Program
written_members =
    record { place = at 6 1; name = named f; kind = written.IsField Int } ∷ record { place = at 6 1; name = named cell; kind = written.IsPredicate (record { parameters = x_ref ∷ []; body = Some written_held }) }
    ∷ record { place = at 6 1; name = named g; kind = written.IsField Int } ∷ record { place = at 6 1; name = named read_name; kind = written.IsMethod (written_method None) } ∷ record { place = at 6 1; name = named get; kind = written.IsFunction (written_function None) } ∷ []

abbrev pub members : Syntax.Program
members =
    record { name = f; kind = Syntax.IsField Int } ∷ record { name = cell; kind = Syntax.IsPredicate (record { place = at 6 1; parameters = record { name = x; of = type.Ref } ∷ []; body = Some held }) }
    ∷ record { name = g; kind = Syntax.IsField Int } ∷ record { name = read_name; kind = Syntax.IsMethod (method None) } ∷ record { name = get; kind = Syntax.IsFunction (function None) } ∷ []
