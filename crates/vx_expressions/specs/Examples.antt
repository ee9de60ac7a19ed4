-- Expressions and assertions on one line, with the type or the first fault of each.
use Rattle.std.specs.Prelude.{◌≡◌, ℕ, ◌+◌, true, false, List, [], ◌∷◌, Some, None, Ok, Err, codes, ⊤}
use Rattle.vx_ast.specs.declared.Place.{Place}
use Rattle.vx_ast.specs.declared.ValueType.{ValueType}
use Rattle.vx_ast.specs.declared.ValueType.TheVariants.{Int, Ref, Perm}
use Rattle.vx_ast.specs.declared.ValueType.TheVariants as type
use Rattle.vx_ast.specs.declared.UnaryOperator.TheVariants as unary
use Rattle.vx_ast.specs.declared.BinaryOperator.TheVariants as binary
use Rattle.vx_ast.specs.Written.{Name, placed, Placed, Expr, Exprs, NoMore, More, All, Part, Number, Truth, Null, Nothing, Result, Variable, Call, Read, Unary, Binary, Choice, Old, Access, Unfolding}
use Rattle.vx_expressions.specs.Scopes.{named}
use Rattle.vx_expressions.specs.Settings.{Setting, Signature, IsField, IsPredicate, IsFunction, IsMethod}
use Rattle.vx_expressions.specs.Faults.{Checked, OfType, Numeral, Unknown, Mismatch, Impure, Arity, AmountNotConstant, NotHere, OldHere, ResultHere, UnfoldAbstract}

-- each row is what f gives
abbrev pub Computes : {A B : Type 0} → (A → B) → List (A × B) → Type 0
Computes f [] = Unit {0}
Computes f (row ∷ rows) = (f row.0 ≡ row.1) × Computes f rows

abbrev pub at : ℕ → Place
at n = record { line = 1; column = n }

-- field v: Int  field w: Perm  predicate p(x: Ref) { true }  predicate q(x: Ref)
-- function g(n: Int): Int { n }  method m() {}
abbrev pub members : List (Name × Signature)
members =
    (codes "v", IsField Int) ∷ (codes "w", IsField Perm) ∷ (codes "p", IsPredicate (Ref ∷ []) true) ∷ (codes "q", IsPredicate (Ref ∷ []) false)
    ∷ (codes "g", IsFunction (Int ∷ []) Int) ∷ (codes "m", IsMethod [] []) ∷ []

abbrev pub variables : List (Name × ValueType)
variables = (codes "x", Ref) ∷ (codes "n", Int) ∷ (codes "b", type.Bool) ∷ (codes "a", Perm) ∷ []

-- in a method's precondition
abbrev pub here : Setting
here = record { member = named members; variable = named variables; outcome = None; has_old = false; applies = true; constant = false }

-- in the postcondition of a function of type Int, but for `old`, which is let through
abbrev pub after : Setting
after = record { member = named members; variable = named variables; outcome = Some Int; has_old = true; applies = true; constant = false }

-- in a predicate's body
abbrev pub within : Setting
within = record { member = named members; variable = named variables; outcome = None; has_old = false; applies = false; constant = true }

abbrev pub x : ℕ → Expr
x c = Variable (at c) (codes "x")

abbrev pub n : ℕ → Expr
n c = Variable (at c) (codes "n")

abbrev pub b : ℕ → Expr
b c = Variable (at c) (codes "b")

abbrev pub a : ℕ → Expr
a c = Variable (at c) (codes "a")

-- a name that stands for nothing
abbrev pub z : ℕ → Expr
z c = Variable (at c) (codes "z")

abbrev pub number : ℕ → ℕ → Expr
number c k = Number (at c) k

abbrev pub name : ℕ → List ℕ → Placed
name c text = placed (at c) text

abbrev pub one : Expr → Exprs
one e = More e NoMore

abbrev pub two : Expr → Expr → Exprs
two e f = More e (More f NoMore)

abbrev pub p : ℕ → Exprs → Expr
p c es = Call (at c) (codes "p") es

abbrev pub g : ℕ → Exprs → Expr
g c es = Call (at c) (codes "g") es

-- x.v, from this column on
abbrev pub x_v : ℕ → Expr
x_v c = Read (at c) (x c) (name (c + 2) (codes "v"))

abbrev pub x_w : ℕ → Expr
x_w c = Read (at c) (x c) (name (c + 2) (codes "w"))

abbrev pub acc : ℕ → Expr → Expr
acc c e = Access (at c) e All

abbrev pub share : ℕ → Expr → Expr → Expr
share c e amount = Access (at c) e (Part amount)

abbrev pub over : ℕ → Expr → Expr → Expr
over c e f = Binary (at c) binary.Divide e f

-- typed, in a method's precondition
abbrev pub typed : List (Expr × Checked ValueType)
typed =
    -- n + 1
    (Binary (at 1) binary.Add (n 1) (number 5 1), Ok Int)
    -- x.v <= g(n)
    ∷ (Binary (at 1) binary.LessEqual (x_v 1) (g 8 (one (n 10))), Ok type.Bool)
    -- x == null
    ∷ (Binary (at 1) binary.Equal (x 1) (Null (at 6)), Ok type.Bool)
    -- -n \ 2
    ∷ (Binary (at 1) binary.Quotient (Unary (at 1) unary.Negate (n 2)) (number 6 2), Ok Int)
    -- 1 / 2 < 2 * a
    ∷ (Binary (at 1) binary.Less (over 1 (number 1 1) (number 5 2)) (Binary (at 9) binary.Multiply (number 9 2) (a 13)), Ok type.Bool)
    -- b ? x.w : none
    ∷ (Choice (at 1) (b 1) (x_w 5) (Nothing (at 11)), Ok Perm)
    -- unfolding p(x) in x.v
    ∷ (Unfolding (at 1) (name 11 (codes "p")) (one (x 13)) All (x_v 19), Ok Int) ∷ []

-- the first fault, in a method's precondition
abbrev pub faulty : List (Expr × Checked ValueType)
faulty =
    -- z
    (z 1, Err (Unknown (at 1) (codes "z")))
    -- x.g
    ∷ (Read (at 1) (x 1) (name 3 (codes "g")), Err (Unknown (at 3) (codes "g")))
    -- n.g: what stands before the dot comes first
    ∷ (Read (at 1) (n 1) (name 3 (codes "g")), Err (Mismatch (at 1) (OfType Ref) Int))
    -- h(z): the arguments come before the name
    ∷ (Call (at 1) (codes "h") (one (z 3)), Err (Unknown (at 3) (codes "z")))
    -- h(n)
    ∷ (Call (at 1) (codes "h") (one (n 3)), Err (Unknown (at 1) (codes "h")))
    -- m()
    ∷ (Call (at 1) (codes "m") NoMore, Err (Unknown (at 1) (codes "m")))
    -- g(n, 2)
    ∷ (g 1 (two (n 3) (number 6 2)), Err (Arity (at 1) 1 2))
    -- g(b, 2): their number comes before their types
    ∷ (g 1 (two (b 3) (number 6 2)), Err (Arity (at 1) 1 2))
    -- g(b)
    ∷ (g 1 (one (b 3)), Err (Mismatch (at 3) (OfType Int) type.Bool))
    -- 1 + true: the left operand sets the type
    ∷ (Binary (at 1) binary.Add (number 1 1) (Truth (at 5) true), Err (Mismatch (at 5) (OfType Int) type.Bool))
    -- true + 1
    ∷ (Binary (at 1) binary.Add (Truth (at 1) true) (number 8 1), Err (Mismatch (at 1) (OfType Int) type.Bool))
    -- n == x
    ∷ (Binary (at 1) binary.Equal (n 1) (x 6), Err (Mismatch (at 6) (OfType Int) Ref))
    -- a * 2: the numeral stands left
    ∷ (Binary (at 1) binary.Multiply (a 1) (number 5 2), Err (Mismatch (at 1) (OfType Int) Perm))
    -- n / 2
    ∷ (over 1 (n 1) (number 5 2), Err (Mismatch (at 1) Numeral Int))
    -- 2 * 1 / 3 is (2 * 1) / 3
    ∷ (over 1 (Binary (at 1) binary.Multiply (number 1 2) (number 5 1)) (number 9 3), Err (Mismatch (at 1) Numeral Int))
    -- 1 / 0
    ∷ (over 1 (number 1 1) (number 5 0), Err (Mismatch (at 5) Numeral Int))
    -- b ? n : x
    ∷ (Choice (at 1) (b 1) (n 5) (x 9), Err (Mismatch (at 9) (OfType Int) Ref))
    -- p(x)
    ∷ (p 1 (one (x 3)), Err (Impure (at 1)))
    -- p(n): the types come before what is pure
    ∷ (p 1 (one (n 3)), Err (Mismatch (at 3) (OfType Ref) Int))
    -- acc(x.v) || b
    ∷ (Binary (at 1) binary.Or (acc 1 (x_v 5)) (b 13), Err (Impure (at 1)))
    -- acc(n)
    ∷ (acc 1 (n 5), Err (Impure (at 5)))
    -- old(n)
    ∷ (Old (at 1) (n 5), Err (OldHere (at 1)))
    -- old(z)
    ∷ (Old (at 1) (z 5), Err (Unknown (at 5) (codes "z")))
    -- result
    ∷ (Result (at 1), Err (ResultHere (at 1)))
    -- unfolding q(x) in n
    ∷ (Unfolding (at 1) (name 11 (codes "q")) (one (x 13)) All (n 19), Err (UnfoldAbstract (at 11)))
    -- unfolding g(n) in n
    ∷ (Unfolding (at 1) (name 11 (codes "g")) (one (n 13)) All (n 19), Err (Unknown (at 11) (codes "g")))
    -- unfolding acc(p(x), n) in n
    ∷ (Unfolding (at 1) (name 15 (codes "p")) (one (x 17)) (Part (n 21)) (n 27), Err (Mismatch (at 21) (OfType Perm) Int))
    -- unfolding acc(p(x), x.w) in n
    ∷ (Unfolding (at 1) (name 15 (codes "p")) (one (x 17)) (Part (x_w 21)) (n 29), Err (AmountNotConstant (at 21))) ∷ []

-- where `old` and `result` may stand
abbrev pub later : List (Expr × Checked ValueType)
later =
    -- old(x.v)
    (Old (at 1) (x_v 5), Ok Int)
    -- result
    ∷ (Result (at 1), Ok Int) ∷ []

-- where no function is applied
abbrev pub unapplied : List (Expr × Checked ValueType)
unapplied =
    -- g(n)
    (g 1 (one (n 3)), Err (NotHere (at 1)))
    -- g(z)
    ∷ (g 1 (one (z 3)), Err (Unknown (at 3) (codes "z")))
    -- g(b, 2)
    ∷ (g 1 (two (b 3) (number 6 2)), Err (NotHere (at 1))) ∷ []

-- assertions of a method's precondition
abbrev pub asserted : List (Expr × Checked ⊤)
asserted =
    -- acc(x.v) && x.v == n
    (Binary (at 1) binary.And (acc 1 (x_v 5)) (Binary (at 13) binary.Equal (x_v 13) (n 20)), Ok tt)
    -- b ==> p(x)
    ∷ (Binary (at 1) binary.Implies (b 1) (p 7 (one (x 9))), Ok tt)
    -- b ? acc(p(x), a) : true
    ∷ (Choice (at 1) (b 1) (share 5 (p 9 (one (x 11))) (a 15)) (Truth (at 20) true), Ok tt)
    -- n
    ∷ (n 1, Err (Mismatch (at 1) (OfType type.Bool) Int))
    -- p(x) && n
    ∷ (Binary (at 1) binary.And (p 1 (one (x 3))) (n 9), Err (Mismatch (at 9) (OfType type.Bool) Int))
    -- n ==> p(x)
    ∷ (Binary (at 1) binary.Implies (n 1) (p 7 (one (x 9))), Err (Mismatch (at 1) (OfType type.Bool) Int))
    -- n ==> p(n): the parts come first
    ∷ (Binary (at 1) binary.Implies (n 1) (p 7 (one (n 9))), Err (Mismatch (at 9) (OfType Ref) Int))
    -- b ? acc(x.v) : n
    ∷ (Choice (at 1) (b 1) (acc 5 (x_v 9)) (n 16), Err (Mismatch (at 16) (OfType type.Bool) Int))
    -- b ? n : true
    ∷ (Choice (at 1) (b 1) (n 5) (Truth (at 9) true), Err (Mismatch (at 9) (OfType Int) type.Bool))
    -- p(x) ==> b
    ∷ (Binary (at 1) binary.Implies (p 1 (one (x 3))) (b 10), Err (Impure (at 1)))
    -- p(x) || b
    ∷ (Binary (at 1) binary.Or (p 1 (one (x 3))) (b 9), Err (Impure (at 1)))
    -- acc(g(n))
    ∷ (acc 1 (g 5 (one (n 7))), Err (Unknown (at 5) (codes "g")))
    -- acc(p(x, x))
    ∷ (acc 1 (p 5 (two (x 7) (x 10))), Err (Arity (at 5) 1 2))
    -- acc(x.v, a + x.w)
    ∷ (share 1 (x_v 5) (Binary (at 10) binary.Add (a 10) (x_w 14)), Err (AmountNotConstant (at 14))) ∷ []

-- assertions in a predicate's body: acc(x.v, ..), whose amount begins at column 10
abbrev pub bodies : List (Expr × Checked ⊤)
bodies =
    -- 1 / 2
    (share 1 (x_v 5) (over 10 (number 10 1) (number 14 2)), Ok tt)
    -- 1 / 2 - 1 / 3
    ∷ (share 1 (x_v 5) (Binary (at 10) binary.Subtract (over 10 (number 10 1) (number 14 2)) (over 18 (number 18 1) (number 22 3))), Ok tt)
    -- n
    ∷ (share 1 (x_v 5) (n 10), Err (Mismatch (at 10) (OfType Perm) Int))
    -- a
    ∷ (share 1 (x_v 5) (a 10), Err (AmountNotConstant (at 10)))
    -- 2 * a
    ∷ (share 1 (x_v 5) (Binary (at 10) binary.Multiply (number 10 2) (a 14)), Err (AmountNotConstant (at 14)))
    -- none
    ∷ (share 1 (x_v 5) (Nothing (at 10)), Err (AmountNotConstant (at 10)))
    -- 1 / 2 - 1 / 2
    ∷ (share 1 (x_v 5) (Binary (at 10) binary.Subtract (over 10 (number 10 1) (number 14 2)) (over 18 (number 18 1) (number 22 2))), Err (AmountNotConstant (at 10)))
    -- none + N / 1 with N = 2 ^ 127: of numbers, those below it fit
    ∷ (share 1 (x_v 5) (Binary (at 10) binary.Add (Nothing (at 10)) (over 17 (number 17 170141183460469231731687303715884105728) (number 59 1))), Err (AmountNotConstant (at 17))) ∷ []
