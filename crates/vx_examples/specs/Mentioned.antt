-- What expressions and assertions mention, and the parts of the settled syntax.
use Rattle.std.specs.Prelude.{true, List, [], ◌∷◌, codes}
use Rattle.vx_ast.specs.declared.Place.{Place}
use Rattle.vx_ast.specs.declared.ValueType.TheVariants.{Int}
use Rattle.vx_ast.specs.Syntax.{Name, Expr, Number, Truth, Null, Part, Variable, Not, Operate, Equal, Divide, Quotient, Connect, And, Or, Implies, Choose, Read, Old, Apply, Unfolding, Exprs, NoMore, More, Assertion, Pure, Points, Instance, Both, Implied, Chosen, Stmt, Declare, Assign, Write, New, Call, Inhale, Exhale, Assert, Assume, Fold, Unfold, If, While, Block, Done, Then}
use Rattle.vx_examples.specs.Words.{at}
use Rattle.vx_examples.specs.Cells.{cell, f, get, x, y}

abbrev pub g : Name
g = codes "g"

abbrev pub h : Name
h = codes "h"

abbrev pub one_x : Exprs
one_x = More (Variable (at 1 9) x) NoMore

-- f(x), g(x) and h(x), each at a place of its own
abbrev pub f_x : Expr
f_x = Apply (at 2 1) f one_x

abbrev pub g_x : Expr
g_x = Apply (at 2 2) g one_x

abbrev pub h_x : Expr
h_x = Apply (at 2 3) h one_x

-- expressions, and the functions that they apply with the predicates that they unfold
abbrev pub by_expressions : List (Expr × List Name)
by_expressions =
    (Number (at 1 1) 1, []) ∷ (Truth (at 1 1) true, []) ∷ (Null (at 1 1), []) ∷ (Part (at 1 1) 1 2, []) ∷ (Variable (at 1 1) f, [])
    ∷ (Not (at 1 1) f_x, f ∷ []) ∷ (Operate (at 1 1) Equal f_x g_x, f ∷ g ∷ []) ∷ (Divide (at 1 1) Quotient f_x g_x, f ∷ g ∷ [])
    ∷ (Connect (at 1 1) And g_x f_x, g ∷ f ∷ []) ∷ (Choose (at 1 1) f_x g_x h_x, f ∷ g ∷ h ∷ []) ∷ (Read (at 1 1) f_x g, f ∷ []) ∷ (Old (at 1 1) f_x, f ∷ [])
    ∷ (f_x, f ∷ []) ∷ (Apply (at 1 1) f (More g_x (More h_x NoMore)), f ∷ g ∷ h ∷ []) ∷ (Apply (at 1 1) f (More f_x NoMore), f ∷ f ∷ [])
    ∷ (Unfolding (at 1 1) cell (More f_x NoMore) g_x h_x, cell ∷ f ∷ g ∷ h ∷ []) ∷ []

-- assertions, and what they mention
abbrev pub by_assertions : List (Assertion × List Name)
by_assertions =
    (Pure f_x, f ∷ []) ∷ (Pure (Truth (at 1 1) true), []) ∷ (Points (at 1 1) f_x h g_x, f ∷ g ∷ []) ∷ (Instance (at 1 1) cell (More f_x NoMore) g_x, cell ∷ f ∷ g ∷ [])
    ∷ (Both (Pure f_x) (Pure g_x), f ∷ g ∷ []) ∷ (Implied f_x (Pure g_x), f ∷ g ∷ []) ∷ (Chosen f_x (Pure g_x) (Pure h_x), f ∷ g ∷ h ∷ []) ∷ []

-- expressions, and their places
abbrev pub of_places : List (Expr × Place)
of_places =
    (Number (at 1 1) 1, at 1 1) ∷ (Truth (at 1 2) true, at 1 2) ∷ (Null (at 1 3), at 1 3) ∷ (Part (at 1 4) 1 2, at 1 4) ∷ (Variable (at 1 5) f, at 1 5)
    ∷ (Not (at 1 6) f_x, at 1 6) ∷ (Operate (at 1 7) Equal f_x g_x, at 1 7) ∷ (Divide (at 1 8) Quotient f_x g_x, at 1 8) ∷ (Connect (at 1 9) And f_x g_x, at 1 9)
    ∷ (Choose (at 3 1) f_x g_x h_x, at 3 1) ∷ (Read (at 3 2) f_x g, at 3 2) ∷ (Old (at 3 3) f_x, at 3 3) ∷ (f_x, at 2 1) ∷ (Unfolding (at 3 4) cell one_x f_x g_x, at 3 4) ∷ []

-- pure assertions: `&&` at the top is taken apart, and no other connective
abbrev pub of_pure : List (Expr × Assertion)
of_pure =
    (f_x, Pure f_x) ∷ (Connect (at 1 1) And f_x g_x, Both (Pure f_x) (Pure g_x)) ∷ (Connect (at 1 1) And (Connect (at 1 1) And f_x g_x) h_x, Both (Both (Pure f_x) (Pure g_x)) (Pure h_x))
    ∷ (Connect (at 1 1) Or f_x g_x, Pure (Connect (at 1 1) Or f_x g_x)) ∷ (Connect (at 1 1) Implies f_x (Connect (at 1 2) And g_x h_x), Pure (Connect (at 1 1) Implies f_x (Connect (at 1 2) And g_x h_x)))
    ∷ (Choose (at 1 1) f_x g_x h_x, Pure (Choose (at 1 1) f_x g_x h_x)) ∷ []

-- clauses of one kind, joined
abbrev pub of_clauses : List (List Assertion × Assertion)
of_clauses =
    ([], Pure (Truth (at 1 1) true)) ∷ (Pure f_x ∷ [], Pure f_x) ∷ (Pure f_x ∷ Pure g_x ∷ Pure h_x ∷ [], Both (Both (Pure f_x) (Pure g_x)) (Pure h_x)) ∷ []

abbrev pub of_pure_clauses : List (List Expr × Expr)
of_pure_clauses =
    ([], Truth (at 1 1) true) ∷ (f_x ∷ [], f_x) ∷ (f_x ∷ g_x ∷ h_x ∷ [], Connect (at 2 1) And (Connect (at 2 1) And f_x g_x) h_x) ∷ []

-- x := 1
abbrev pub sets_x : Block
sets_x = Then (Assign (at 1 1) x (Number (at 1 6) 1)) Done

-- statements, and the variables that they assign
abbrev pub of_statements : List (Stmt × List Name)
of_statements =
    (Declare (at 1 1) x Int, []) ∷ (Assign (at 1 1) x f_x, x ∷ []) ∷ (Write (at 1 1) f_x f g_x, []) ∷ (New (at 1 1) y (f ∷ []), y ∷ []) ∷ (Call (at 1 1) (x ∷ y ∷ []) get one_x, x ∷ y ∷ [])
    ∷ (Call (at 1 1) [] get one_x, []) ∷ (Inhale (at 1 1) (Pure f_x), []) ∷ (Exhale (at 1 1) (Pure f_x), []) ∷ (Assert (at 1 1) (Pure f_x), []) ∷ (Assume (at 1 1) f_x, [])
    ∷ (Fold (at 1 1) cell one_x (Part (at 1 1) 1 1), []) ∷ (Unfold (at 1 1) cell one_x (Part (at 1 1) 1 1), [])
    ∷ (If (at 1 1) f_x sets_x (Then (New (at 1 1) y []) sets_x), x ∷ y ∷ x ∷ []) ∷ (If (at 1 1) f_x Done Done, []) ∷ (While (at 1 1) f_x [] sets_x, x ∷ []) ∷ []
