-- What the computed runs share.
use Rattle.std.proofs.Common.{ℕ, List, [], ◌∷◌, Some}
use Rattle.std.specs.Prelude.{codes}
use Rattle.vx_ast.specs.declared.Place.{Place}
use Rattle.vx_ast.specs.declared.ValueType.TheVariants as type
use Rattle.vx_ast.specs.Syntax.{Name, Member, IsMethod, Method, Declaration, Expr, Exprs, Assertion, Points, Variable, Number, Part, Read, NoMore, More, Block}

abbrev pub column : ℕ → Place
column n = record { line = 1; column = n }

abbrev pub f : Name
f = codes "f"

abbrev pub x : Name
x = codes "x"

abbrev pub y : Name
y = codes "y"

-- a variable, a number, a field of a variable, the whole of it, one argument
abbrev pub var : Name → Expr
var z = Variable (column 1) z

abbrev pub num : ℕ → Expr
num n = Number (column 1) n

abbrev pub field : Name → Expr
field z = Read (column 1) (var z) f

abbrev pub all : Expr
all = Part (column 1) 1 1

abbrev pub acc : ℕ → Name → Assertion
acc n z = Points (column n) (var z) f all

abbrev pub one : Name → Exprs
one z = More (var z) NoMore

abbrev pub references : List Name → List Declaration
references [] = []
references (z ∷ zs) = record { name = z; of = type.Ref } ∷ references zs

-- a method with a body and no contract
abbrev pub bare_method : List Declaration → Block → Method
bare_method ps b = record { place = column 1; parameters = ps; returns = []; requires = []; ensures = []; body = Some b }

abbrev pub method_of : Name → Method → Member
method_of n m = record { name = n; kind = IsMethod m }
