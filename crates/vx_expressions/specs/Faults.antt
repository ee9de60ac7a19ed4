-- The first fault of an expression, or its type. Subexpressions come first, from left to right, then the node itself: its
-- name, where it may stand, the number of its arguments, their types, and whether it is pure. Of an operator's operands
-- the left one sets the type that is expected.
use Rattle.std.specs.Prelude.{ℕ, zero, suc, pos, ⊤, true, false, Bool, ◌&&◌, List, [], ◌∷◌, Option, Some, None, Result, Ok, Err, length, nat_eq, nat_lt, if◌then◌else◌}
use Rattle.vx_ast.specs.declared.Place.{Place}
use Rattle.vx_ast.specs.declared.ValueType.{ValueType}
use Rattle.vx_ast.specs.declared.ValueType.TheVariants as type
use Rattle.vx_ast.specs.declared.UnaryOperator.{UnaryOperator}
use Rattle.vx_ast.specs.declared.UnaryOperator.TheVariants as unary
use Rattle.vx_ast.specs.declared.BinaryOperator.{BinaryOperator}
use Rattle.vx_ast.specs.declared.BinaryOperator.TheVariants as binary
use Rattle.vx_ast.specs.Types.{same_type, is_ordered}
use Rattle.vx_frac.specs.Fractions.{Fraction, none, full, over, lowest, sum, difference, product, sum_fits, difference_fits, product_fits, fits_i128, is_positive}
use Rattle.vx_ast.specs.Written.{Name, Placed, Expr, Exprs, NoMore, More, Amount, All, Part}
use Rattle.vx_ast.specs.Written as expr
use Rattle.vx_expressions.specs.Places.{place_of}
use Rattle.vx_expressions.specs.Settings.{Setting, Signature, IsField, IsPredicate, IsFunction}

-- what was expected: a type, or a numeral
pub data Expected : Type 0 where
  OfType : ValueType → Expected
  Numeral : Expected

pub data Fault : Type 0 where
  Unknown : Place → Name → Fault
  Twice : Place → Name → Fault
  Mismatch : Place → Expected → ValueType → Fault
  Impure : Place → Fault
  Arity : Place → (expected found : ℕ) → Fault
  NoMeasure : Place → Fault
  MixedMeasures : Place → Fault
  AmountNotConstant : Place → Fault
  NotHere : Place → Fault
  NotAssignable : Place → Fault
  OldHere : Place → Fault
  ResultHere : Place → Fault
  UnfoldAbstract : Place → Fault

abbrev pub Checked : Type 0 → Type 0
Checked X = Result X Fault

infixl 10 ◌>>=◌
abbrev pub ◌>>=◌ : {X Y : Type 0} → Checked X → (X → Checked Y) → Checked Y
Ok x >>= f = f x
Err e >>= f = Err e

-- a test, or a fault
abbrev pub unless : Bool → Fault → Checked ⊤
unless b e = if b then Ok tt else Err e

abbrev pub expect : Place → ValueType → ValueType → Checked ⊤
expect at t found = unless (same_type found t) (Mismatch at (OfType t) found)

abbrev pub expect_ordered : Place → ValueType → Checked ⊤
expect_ordered at found = unless (is_ordered found) (Mismatch at (OfType type.Int) found)

abbrev pub is_numeral : Expr → Bool
is_numeral (expr.Number at n) = true
is_numeral _ = false

-- a numeral other than 0
abbrev pub is_divisor : Expr → Bool
is_divisor (expr.Number at zero) = false
is_divisor (expr.Number at (suc n)) = true
is_divisor _ = false

-- operators, by their operands and the types of these

abbrev pub unary_type : UnaryOperator → Expr → ValueType → Checked ValueType
unary_type unary.Not e t = expect (place_of e) type.Bool t >>= λ _. Ok type.Bool
unary_type unary.Negate e t = expect (place_of e) type.Int t >>= λ _. Ok type.Int

abbrev pub both : ValueType → Expr → Expr → ValueType → ValueType → Checked ValueType
both expected a b t u = expect (place_of a) expected t >>= λ _. expect (place_of b) expected u >>= λ _. Ok expected

abbrev pub compared : Expr → Expr → ValueType → ValueType → Checked ValueType
compared a b t u = expect_ordered (place_of a) t >>= λ _. expect (place_of b) t u >>= λ _. Ok type.Bool

abbrev pub summed : Expr → Expr → ValueType → ValueType → Checked ValueType
summed a b t u = expect_ordered (place_of a) t >>= λ _. expect (place_of b) t u >>= λ _. Ok t

abbrev pub same : Expr → ValueType → ValueType → Checked ValueType
same b t u = expect (place_of b) t u >>= λ _. Ok type.Bool

abbrev pub multiplied : Expr → Expr → ValueType → ValueType → Checked ValueType
multiplied a b t u = if is_numeral a && same_type u type.Perm then Ok type.Perm else both type.Int a b t u

abbrev pub divided : Expr → Expr → ValueType → ValueType → Checked ValueType
divided a b t u =
    unless (is_numeral a) (Mismatch (place_of a) Numeral t) >>= λ _. unless (is_divisor b) (Mismatch (place_of b) Numeral u) >>= λ _. Ok type.Perm

abbrev pub binary_type : BinaryOperator → Expr → Expr → ValueType → ValueType → Checked ValueType
binary_type binary.And a b t u = both type.Bool a b t u
binary_type binary.Or a b t u = both type.Bool a b t u
binary_type binary.Implies a b t u = both type.Bool a b t u
binary_type binary.Equal a b t u = same b t u
binary_type binary.NotEqual a b t u = same b t u
binary_type binary.Less a b t u = compared a b t u
binary_type binary.LessEqual a b t u = compared a b t u
binary_type binary.Greater a b t u = compared a b t u
binary_type binary.GreaterEqual a b t u = compared a b t u
binary_type binary.Add a b t u = summed a b t u
binary_type binary.Subtract a b t u = summed a b t u
binary_type binary.Multiply a b t u = multiplied a b t u
binary_type binary.Divide a b t u = divided a b t u
binary_type binary.Quotient a b t u = both type.Int a b t u
binary_type binary.Remainder a b t u = both type.Int a b t u

abbrev pub choice_type : Expr → Expr → ValueType → ValueType → ValueType → Checked ValueType
choice_type c b k t u = expect (place_of c) type.Bool k >>= λ _. expect (place_of b) t u >>= λ _. Ok t

-- names, and what they are given

abbrev pub known : Place → Name → Option ValueType → Checked ValueType
known at x (Some t) = Ok t
known at x None = Err (Unknown at x)

abbrev pub field_type : Placed → Option Signature → Checked ValueType
field_type f (Some (IsField t)) = Ok t
field_type f _ = Err (Unknown f.place f.name)

abbrev pub read_type : Setting → Expr → Placed → ValueType → Checked ValueType
read_type s e f t = expect (place_of e) type.Ref t >>= λ _. field_type f (s.member f.name)

abbrev pub old_type : Place → Bool → ValueType → Checked ValueType
old_type at has_old t = if has_old then Ok t else Err (OldHere at)

abbrev pub unfolded_type : Place → Bool → ValueType → Checked ValueType
unfolded_type at has_body t = if has_body then Ok t else Err (UnfoldAbstract at)

abbrev pub outcome_type : Place → Option ValueType → Checked ValueType
outcome_type at (Some t) = Ok t
outcome_type at None = Err (ResultHere at)

-- the types of the arguments, each at its place
abbrev pub arguments_fit : Exprs → List ValueType → List ValueType → Checked ⊤
arguments_fit (More e es) (u ∷ found) (t ∷ ts) = expect (place_of e) t u >>= λ _. arguments_fit es found ts
arguments_fit _ _ _ = Ok tt

abbrev pub arguments : Place → Exprs → List ValueType → List ValueType → Checked ⊤
arguments at es found ts = unless (nat_eq (length found) (length ts)) (Arity at (length ts) (length found)) >>= λ _. arguments_fit es found ts

-- whether the predicate has a body
abbrev pub instance_of : Place → Name → Exprs → List ValueType → Option Signature → Checked Bool
instance_of at i es found (Some (IsPredicate ts has_body)) = arguments at es found ts >>= λ _. Ok has_body
instance_of at i es found _ = Err (Unknown at i)

abbrev pub application : Setting → Place → Name → Exprs → List ValueType → Option Signature → Checked ValueType
application s at f es found (Some (IsFunction ts t)) = unless s.applies (NotHere at) >>= λ _. arguments at es found ts >>= λ _. Ok t
application s at f es found (Some (IsPredicate ts has_body)) = arguments at es found ts >>= λ _. Err (Impure at)
application s at f es found _ = Err (Unknown at f)

-- amounts

abbrev pub where_fits : Place → Bool → Fraction → Checked Fraction
where_fits at fits f = if fits then Ok f else Err (AmountNotConstant at)

abbrev pub numeral_fits : ℕ → Bool
numeral_fits n = fits_i128 (pos n)

-- two numerals as a fraction, where both fit 128 bits and the second is above 0
abbrev pub ratio_of : Place → ℕ → ℕ → Checked Fraction
ratio_of at n d = where_fits at (numeral_fits n && (numeral_fits d && nat_lt 0 d)) (lowest (over n d))

abbrev pub fraction_of : Place → Expr → Expr → Checked Fraction
fraction_of at (expr.Number p n) (expr.Number q d) = ratio_of at n d
fraction_of at a b = Err (AmountNotConstant at)

abbrev pub numeral_of : Place → Expr → Checked Fraction
numeral_of at (expr.Number p n) = ratio_of at n 1
numeral_of at a = Err (AmountNotConstant at)

abbrev pub sum_of : Place → Fraction → Fraction → Checked Fraction
sum_of at f g = where_fits at (sum_fits f g) (lowest (sum f g))

abbrev pub difference_of : Place → Fraction → Fraction → Checked Fraction
difference_of at f g = where_fits at (difference_fits f g) (lowest (difference f g))

abbrev pub product_of : Place → Fraction → Fraction → Checked Fraction
product_of at f g = where_fits at (product_fits f g) (lowest (product f g))

abbrev pub amount_value : Expr → Checked Fraction
amount_value (expr.Whole at) = Ok full
amount_value (expr.Nothing at) = Ok none
amount_value (expr.Binary at binary.Divide a b) = fraction_of at a b
amount_value (expr.Binary at binary.Add a b) = amount_value a >>= λ f. amount_value b >>= λ g. sum_of at f g
amount_value (expr.Binary at binary.Subtract a b) = amount_value a >>= λ f. amount_value b >>= λ g. difference_of at f g
amount_value (expr.Binary at binary.Multiply a b) = numeral_of at a >>= λ f. amount_value b >>= λ g. product_of at f g
amount_value e = Err (AmountNotConstant (place_of e))

abbrev pub constant_amount : Expr → Checked ⊤
constant_amount e = amount_value e >>= λ f. unless (is_positive f) (AmountNotConstant (place_of e))

abbrev pub made_if : Place → Bool → Checked ⊤
made_if at b = unless b (AmountNotConstant at)

abbrev pub amount_made : Expr → Checked ⊤
amount_made (expr.Whole at) = Ok tt
amount_made (expr.Nothing at) = Ok tt
amount_made (expr.Variable at x) = Ok tt
amount_made (expr.Binary at binary.Divide a b) = made_if at (is_numeral a && is_numeral b)
amount_made (expr.Binary at binary.Add a b) = amount_made a >>= λ _. amount_made b
amount_made (expr.Binary at binary.Subtract a b) = amount_made a >>= λ _. amount_made b
amount_made (expr.Binary at binary.Multiply a b) = made_if at (is_numeral a) >>= λ _. amount_made b
amount_made e = Err (AmountNotConstant (place_of e))

abbrev pub amount : (constant : Bool) → Expr → ValueType → Checked ⊤
amount constant e t = expect (place_of e) type.Perm t >>= λ _. if constant then constant_amount e else amount_made e

abbrev mutual
  pub check : Setting → Expr → Checked ValueType
  check s (expr.Number at n) = Ok type.Int
  check s (expr.Truth at b) = Ok type.Bool
  check s (expr.Null at) = Ok type.Ref
  check s (expr.Whole at) = Ok type.Perm
  check s (expr.Nothing at) = Ok type.Perm
  check s (expr.Result at) = outcome_type at s.outcome
  check s (expr.Variable at x) = known at x (s.variable x)
  check s (expr.Call at f es) = check_all s es >>= λ found. application s at f es found (s.member f)
  check s (expr.Read at e f) = check s e >>= λ t. read_type s e f t
  check s (expr.Unary at op e) = check s e >>= λ t. unary_type op e t
  check s (expr.Binary at op a b) = check s a >>= λ t. check s b >>= λ u. binary_type op a b t u
  check s (expr.Choice at c a b) = check s c >>= λ k. check s a >>= λ t. check s b >>= λ u. choice_type c b k t u
  check s (expr.Old at e) = check s e >>= λ t. old_type at s.has_old t
  check s (expr.Access at (expr.Read p e f) share) = check s e >>= λ t. read_type s e f t >>= λ _. check_share s share >>= λ _. Err (Impure at)
  check s (expr.Access at (expr.Call p i es) share) = check_all s es >>= λ found. instance_of p i es found (s.member i) >>= λ _. check_share s share >>= λ _. Err (Impure at)
  check s (expr.Access at e share) = check s e >>= λ _. Err (Impure (place_of e))
  check s (expr.Unfolding at i es share e) =
      check_all s es >>= λ found. instance_of i.place i.name es found (s.member i.name) >>= λ has_body.
      check_share s share >>= λ _. check s e >>= λ t. unfolded_type i.place has_body t

  pub check_all : Setting → Exprs → Checked (List ValueType)
  check_all s NoMore = Ok []
  check_all s (More e es) = check s e >>= λ t. check_all s es >>= λ ts. Ok (t ∷ ts)

  pub check_share : Setting → Amount → Checked ⊤
  check_share s All = Ok tt
  check_share s (Part e) = check s e >>= λ t. amount s.constant e t

abbrev pub applied : Setting → Place → Name → Exprs → Checked ValueType
applied s at f es = check_all s es >>= λ found. application s at f es found (s.member f)

abbrev pub instance : Setting → Place → Name → Exprs → Checked Bool
instance s at i es = check_all s es >>= λ found. instance_of at i es found (s.member i)

abbrev pub read : Setting → Expr → Placed → Checked ValueType
read s e f = check s e >>= λ t. read_type s e f t

-- what stands first in an `acc`
abbrev pub check_held : Setting → Expr → Checked ⊤
check_held s (expr.Read at e f) = read s e f >>= λ _. Ok tt
check_held s (expr.Call at i es) = instance s at i es >>= λ _. Ok tt
check_held s e = check s e >>= λ _. Err (Impure (place_of e))

-- what an expression is where an assertion may stand: a value, or a permission
pub data Claim : Type 0 where
  Value : ValueType → Claim
  Permission : Claim

-- a part of an assertion is a truth or a permission
abbrev pub held : Expr → Claim → Checked ⊤
held e (Value t) = expect (place_of e) type.Bool t
held e Permission = Ok tt

abbrev pub joined : Claim → Claim → Claim
joined (Value t) (Value u) = Value type.Bool
joined _ _ = Permission

abbrev pub conjunction : Expr → Expr → Claim → Claim → Checked Claim
conjunction a b x y = held a x >>= λ _. held b y >>= λ _. Ok (joined x y)

abbrev pub implication : Expr → Expr → ValueType → Claim → Checked Claim
implication c a t y = expect (place_of c) type.Bool t >>= λ _. held a y >>= λ _. Ok (joined (Value type.Bool) y)

abbrev pub choice : Expr → Expr → Claim → Claim → Checked Claim
choice a b (Value t) (Value u) = expect (place_of b) t u >>= λ _. Ok (Value t)
choice a b x y = held a x >>= λ _. held b y >>= λ _. Ok Permission

abbrev pub chosen : Expr → Expr → Expr → ValueType → Claim → Claim → Checked Claim
chosen c a b t x y = expect (place_of c) type.Bool t >>= λ _. choice a b x y

abbrev pub value_of_call : Setting → Place → Name → Exprs → List ValueType → Option Signature → Checked Claim
value_of_call s at f es found sig = application s at f es found sig >>= λ t. Ok (Value t)

abbrev pub called : Setting → Place → Name → Exprs → List ValueType → Option Signature → Checked Claim
called s at f es found (Some (IsPredicate ts has_body)) = arguments at es found ts >>= λ _. Ok Permission
called s at f es found sig = value_of_call s at f es found sig

abbrev pub call : Setting → Place → Name → Exprs → Checked Claim
call s at f es = check_all s es >>= λ found. called s at f es found (s.member f)

abbrev pub access : Setting → Expr → Amount → Checked Claim
access s e share = check_held s e >>= λ _. check_share s share >>= λ _. Ok Permission

abbrev pub pure : Setting → Expr → Checked Claim
pure s e = check s e >>= λ t. Ok (Value t)

abbrev pub claim : Setting → Expr → Checked Claim
claim s (expr.Access at e share) = access s e share
claim s (expr.Call at f es) = call s at f es
claim s (expr.Binary at binary.And a b) = claim s a >>= λ x. claim s b >>= λ y. conjunction a b x y
claim s (expr.Binary at binary.Implies c a) = check s c >>= λ t. claim s a >>= λ y. implication c a t y
claim s (expr.Choice at c a b) = check s c >>= λ t. claim s a >>= λ x. claim s b >>= λ y. chosen c a b t x y
claim s e = pure s e

abbrev pub assertion : Setting → Expr → Checked ⊤
assertion s e = claim s e >>= λ x. held e x
