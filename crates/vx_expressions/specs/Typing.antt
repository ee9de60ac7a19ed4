-- What is typed, by the structure of an expression. After the typing of Viper's core (VMCAI 2016, section 2; the
-- Silicon thesis, chapter 2), for this part of the language.
use Rattle.std.specs.Prelude.{◌≡◌, ◌<◌, ℕ, true, Bool, List, [], ◌∷◌, Some}
use Rattle.vx_ast.specs.declared.Place.{Place}
use Rattle.vx_ast.specs.declared.ValueType.{ValueType}
use Rattle.vx_ast.specs.declared.ValueType.TheVariants as type
use Rattle.vx_ast.specs.declared.UnaryOperator.TheVariants as unary
use Rattle.vx_ast.specs.declared.BinaryOperator.{BinaryOperator}
use Rattle.vx_ast.specs.declared.BinaryOperator.TheVariants as binary
use Rattle.vx_ast.specs.Written.{Name, Placed, Expr, Number, Truth, Null, Whole, Nothing, Result, Variable, Call, Read, Unary, Binary, Choice, Old, Access, Unfolding, Exprs, NoMore, More, Amount, All, Part}
use Rattle.vx_expressions.specs.Settings.{Setting, IsField, IsPredicate, IsFunction}
use Rattle.vx_expressions.specs.Amounts.{IsAmount}
use Rattle.vx_expressions.specs.AmountValues.{IsConstantAmount}

-- the types that are ordered and summed
pub data IsOrdered : ValueType → Type 0 where
  int : IsOrdered type.Int
  perm : IsOrdered type.Perm

-- the operators, the types of both their operands, and the type that they give
pub data Operates : BinaryOperator → ValueType → ValueType → Type 0 where
  and : Operates binary.And type.Bool type.Bool
  or : Operates binary.Or type.Bool type.Bool
  implies : Operates binary.Implies type.Bool type.Bool
  equal : (t : ValueType) → Operates binary.Equal t type.Bool
  not_equal : (t : ValueType) → Operates binary.NotEqual t type.Bool
  less : {t : ValueType} → IsOrdered t → Operates binary.Less t type.Bool
  less_equal : {t : ValueType} → IsOrdered t → Operates binary.LessEqual t type.Bool
  greater : {t : ValueType} → IsOrdered t → Operates binary.Greater t type.Bool
  greater_equal : {t : ValueType} → IsOrdered t → Operates binary.GreaterEqual t type.Bool
  add : {t : ValueType} → IsOrdered t → Operates binary.Add t t
  subtract : {t : ValueType} → IsOrdered t → Operates binary.Subtract t t
  multiply : Operates binary.Multiply type.Int type.Int
  quotient : Operates binary.Quotient type.Int type.Int
  remainder : Operates binary.Remainder type.Int type.Int

mutual
  -- a pure expression and its type
  pub data HasType (s : Setting) : Expr → ValueType → Type 0 where
    number : (at : Place) (n : ℕ) → HasType s (Number at n) type.Int
    truth : (at : Place) (b : Bool) → HasType s (Truth at b) type.Bool
    nulls : (at : Place) → HasType s (Null at) type.Ref
    whole : (at : Place) → HasType s (Whole at) type.Perm
    nothing : (at : Place) → HasType s (Nothing at) type.Perm
    result : (at : Place) {t : ValueType} → s.outcome ≡ Some t → HasType s (Result at) t
    variable : (at : Place) (x : Name) {t : ValueType} → s.variable x ≡ Some t → HasType s (Variable at x) t
    applies : (at : Place) (f : Name) {es : Exprs} {ts : List ValueType} {t : ValueType} → s.member f ≡ Some (IsFunction ts t) → s.applies ≡ true →
        HaveTypes s es ts → HasType s (Call at f es) t
    reads : (at : Place) {e : Expr} (f : Placed) {t : ValueType} → HasType s e type.Ref → s.member f.name ≡ Some (IsField t) → HasType s (Read at e f) t
    nots : (at : Place) {e : Expr} → HasType s e type.Bool → HasType s (Unary at unary.Not e) type.Bool
    negates : (at : Place) {e : Expr} → HasType s e type.Int → HasType s (Unary at unary.Negate e) type.Int
    operates : (at : Place) {op : BinaryOperator} {a b : Expr} {t u : ValueType} → Operates op t u → HasType s a t → HasType s b t → HasType s (Binary at op a b) u
    -- a numeral times a Perm, and a fraction of numerals
    scales : (at p : Place) (n : ℕ) {b : Expr} → HasType s b type.Perm → HasType s (Binary at binary.Multiply (Number p n) b) type.Perm
    fraction : (at p q : Place) (n d : ℕ) → 0 < d → HasType s (Binary at binary.Divide (Number p n) (Number q d)) type.Perm
    chooses : (at : Place) {c a b : Expr} {t : ValueType} → HasType s c type.Bool → HasType s a t → HasType s b t → HasType s (Choice at c a b) t
    olds : (at : Place) {e : Expr} {t : ValueType} → HasType s e t → s.has_old ≡ true → HasType s (Old at e) t
    unfoldings : (at : Place) (i : Placed) {es : Exprs} {share : Amount} {e : Expr} {ts : List ValueType} {t : ValueType} →
        s.member i.name ≡ Some (IsPredicate ts true) → HaveTypes s es ts → IsShare s share → HasType s e t → HasType s (Unfolding at i es share e) t

  pub data HaveTypes (s : Setting) : Exprs → List ValueType → Type 0 where
    no_more : HaveTypes s NoMore []
    more : {e : Expr} {es : Exprs} {t : ValueType} {ts : List ValueType} → HasType s e t → HaveTypes s es ts → HaveTypes s (More e es) (t ∷ ts)

  -- how much is held or taken
  pub data IsShare (s : Setting) : Amount → Type 0 where
    all : IsShare s All
    part : {e : Expr} → HasType s e type.Perm → IsAmount e → (s.constant ≡ true → IsConstantAmount e) → IsShare s (Part e)

mutual
  -- what holds a permission
  pub data IsPermission (s : Setting) : Expr → Type 0 where
    location : (at p : Place) {e : Expr} (f : Placed) {t : ValueType} {share : Amount} → HasType s (Read p e f) t → IsShare s share → IsPermission s (Access at (Read p e f) share)
    share_of : (at p : Place) (i : Name) {es : Exprs} {ts : List ValueType} {has_body : Bool} {share : Amount} → s.member i ≡ Some (IsPredicate ts has_body) →
        HaveTypes s es ts → IsShare s share → IsPermission s (Access at (Call p i es) share)
    instance : (at : Place) (i : Name) {es : Exprs} {ts : List ValueType} {has_body : Bool} → s.member i ≡ Some (IsPredicate ts has_body) → HaveTypes s es ts →
        IsPermission s (Call at i es)
    left : (at : Place) {a b : Expr} → IsPermission s a → IsAssertion s b → IsPermission s (Binary at binary.And a b)
    right : (at : Place) {a b : Expr} → IsAssertion s a → IsPermission s b → IsPermission s (Binary at binary.And a b)
    implied : (at : Place) {c a : Expr} → HasType s c type.Bool → IsPermission s a → IsPermission s (Binary at binary.Implies c a)
    first : (at : Place) {c a b : Expr} → HasType s c type.Bool → IsPermission s a → IsAssertion s b → IsPermission s (Choice at c a b)
    second : (at : Place) {c a b : Expr} → HasType s c type.Bool → IsAssertion s a → IsPermission s b → IsPermission s (Choice at c a b)

  -- an assertion: a pure truth, or what holds a permission
  pub data IsAssertion (s : Setting) : Expr → Type 0 where
    pure : {e : Expr} → HasType s e type.Bool → IsAssertion s e
    permission : {e : Expr} → IsPermission s e → IsAssertion s e
