-- The program that the generated text spells, by its structure: each part with the column in which it stands.
use Rattle.std.specs.Prelude.{ℕ, zero, suc, ◌+◌, ◌%◌, List, [], ◌∷◌, ◌++◌, Some, codes, length}
use Rattle.std.specs.Fmt.{decimal}
use Rattle.vx_ast.specs.declared.Place.{Place}
use Rattle.vx_ast.specs.declared.ValueType.{ValueType}
use Rattle.vx_ast.specs.declared.ValueType.TheVariants.{Int, Ref}
use Rattle.vx_ast.specs.declared.BinaryOperator.TheVariants.{Implies, And, Equal, NotEqual, LessEqual, Add}
use Rattle.vx_ast.specs.Written.{Name, placed, Expr, Exprs, NoMore, More, All, Number, Null, Variable, Call, Read, Binary, Old, Access, Declaration, Write, Fold, Unfold, Block, Done, Then, Clause, Requires, Ensures, IsField, IsPredicate, IsMethod, Member, Program}

-- the places of a line, by their columns
abbrev pub Columns : Type 0
Columns = ℕ → Place

abbrev pub line : ℕ → Columns
line n column = record { line = n; column = column }

-- ---- parts

abbrev pub variable : Columns → ℕ → Name → Expr
variable on c x = Variable (on c) x

-- `x.f`
abbrev pub dot : Columns → ℕ → Name → Expr
dot on c f = Read (on c) (variable on c (codes "x")) (placed (on (c + 2)) f)

-- `acc(x.f)`
abbrev pub access : Columns → ℕ → Name → Expr
access on c f = Access (on c) (dot on (c + 4) f) All

abbrev pub only : Expr → Exprs
only e = More e NoMore

-- `a && b`
abbrev pub both : Columns → ℕ → Expr → Expr → Expr
both on c a b = Binary (on c) And a b

-- `a + b`
abbrev pub sum : Columns → ℕ → Expr → Expr → Expr
sum on c a b = Binary (on c) Add a b

-- `x.f != null ==> p(x.f)`
abbrev pub goes_on : Columns → (c null behind : ℕ) → Name → Name → Expr
goes_on on c null behind f p =
    Binary (on c) Implies (Binary (on c) NotEqual (dot on c f) (Null (on null))) (Call (on behind) p (only (dot on (behind + 5) f)))

-- `x: T`
abbrev pub declared : Columns → ℕ → Name → ValueType → Declaration
declared on c x of = record { name = placed (on c) x; of = of; type_at = on (c + 3) }

-- ---- fields and predicates

abbrev pub field : Columns → Name → ValueType → Member
field on f of = record { place = on 1; name = placed (on 7) f; kind = IsField of }

abbrev pub predicate : Columns → Name → Expr → Member
predicate on p body = record {
  place = on 1;
  name = placed (on 11) p;
  kind = IsPredicate record { parameters = declared on 16 (codes "x") Ref ∷ []; body = Some body };
}

abbrev pub list_body : Columns → Expr
list_body on = both on 26 (both on 26 (access on 26 (codes "value")) (access on 42 (codes "next"))) (goes_on on 58 68 77 (codes "next") (codes "list"))

abbrev pub tree_body : Columns → Expr
tree_body on =
    both on 26 (both on 26 (both on 26 (both on 26 (access on 26 (codes "value")) (access on 42 (codes "left"))) (access on 57 (codes "right")))
    (goes_on on 74 84 93 (codes "left") (codes "tree"))) (goes_on on 111 122 131 (codes "right") (codes "tree"))

abbrev pub first_members : Program
first_members =
    field (line 1) (codes "value") Int ∷ field (line 2) (codes "next") Ref ∷ field (line 3) (codes "left") Ref ∷ field (line 4) (codes "right") Ref
    ∷ predicate (line 5) (codes "list") (list_body (line 5)) ∷ predicate (line 6) (codes "tree") (tree_body (line 6)) ∷ []

-- ---- methods

-- A method's line is in three parts: `front` is what stands in front of the number in its name, `middle` what stands
-- behind that up to the next number, and `back` what stands behind this one. Columns are those of a line without the digits.

abbrev pub method : (front : Columns) → Name → List Declaration → List Clause → Block → Member
method front m parameters clauses body = record {
  place = front 1;
  name = placed (front 8) m;
  kind = IsMethod record { parameters = parameters; returns = []; clauses = clauses; body = Some body };
}

-- It takes the instance `p(x)` and gives it back, with another value.
abbrev pub holder_clauses : (middle : Columns) → Name → List Clause
holder_clauses middle p =
    Requires (Call (middle 38) p (only (variable middle 43 (codes "x")))) ∷ Ensures (Call (middle 54) p (only (variable middle 59 (codes "x")))) ∷ []

abbrev pub holder_body : (middle back : Columns) → Name → ℕ → Block
holder_body middle back p i =
    Then (Unfold (middle 64) (placed (middle 71) p) (only (variable middle 76 (codes "x"))) All)
    (Then (Write (middle 79) (variable middle 79 (codes "x")) (placed (middle 81) (codes "value")) (sum middle 90 (variable middle 90 (codes "v")) (Number (middle 94) i)))
    (Then (Fold (back 95) (placed (back 100) p) (only (variable back 105 (codes "x"))) All) Done))

abbrev pub holder : (front middle back : Columns) → Name → ℕ → Member
holder front middle back p i =
    method front (p ++ decimal i) (declared middle 13 (codes "x") Ref ∷ declared middle 21 (codes "v") Int ∷ []) (holder_clauses middle p) (holder_body middle back p i)

-- It adds to the value of a field that it holds.
abbrev pub account_clauses : (middle : Columns) → ℕ → List Clause
account_clauses middle i =
    Requires (both middle 41 (access middle 41 (codes "value")) (Binary (middle 57) LessEqual (Number (middle 57) 0) (variable middle 62 (codes "v"))))
    ∷ Ensures (both middle 72 (access middle 72 (codes "value")) (Binary (middle 88) Equal (dot middle 88 (codes "value"))
    (sum middle 99 (sum middle 99 (Old (middle 99) (dot middle 103 (codes "value"))) (variable middle 114 (codes "v"))) (Number (middle 118) i)))) ∷ []

abbrev pub account_body : (back : Columns) → ℕ → Block
account_body back i =
    Then (Write (back 121) (variable back 121 (codes "x")) (placed (back 123) (codes "value"))
    (sum back 132 (sum back 132 (dot back 132 (codes "value")) (variable back 142 (codes "v"))) (Number (back 146) i))) Done

abbrev pub account : (front middle back : Columns) → ℕ → Member
account front middle back i =
    method front (codes "account" ++ decimal i) (declared middle 16 (codes "x") Ref ∷ declared middle 24 (codes "v") Int ∷ []) (account_clauses middle i) (account_body back i)

-- ---- the program

abbrev pub method_by : (turn : ℕ) → (front middle back : Columns) → ℕ → Member
method_by zero front middle back i = holder front middle back (codes "list") i
method_by (suc zero) front middle back i = account front middle back i
method_by (suc (suc k)) front middle back i = holder front middle back (codes "tree") i

abbrev pub digits : ℕ → ℕ
digits i = length (decimal i)

-- the method of a number, on a line
abbrev pub method_on : (at number : ℕ) → Member
method_on at i = method_by (i % 3) (line at) (λ c. line at (c + digits i)) (λ c. line at (c + (digits i + digits i))) i

abbrev pub methods : ℕ → Program
methods zero = []
methods (suc n) = methods n ++ method_on (7 + n) n ∷ []

-- four fields, two predicates and so many methods
abbrev pub program_of : ℕ → Program
program_of n = first_members ++ methods n
