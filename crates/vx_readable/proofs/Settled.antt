-- The numerals of a settled program are those that are written.
use Rattle.std.proofs.Common.{◌<◌, ◌^◌, Bool, true, false, cond, ◌&&◌, List, [], ◌∷◌, map, Option, Some, None, arith}
use Rattle.std.specs.Prelude.{IfSome}
use Rattle.vx_ast.specs.declared.Place.{Place}
use Rattle.vx_ast.specs.declared.UnaryOperator.{UnaryOperator}
use Rattle.vx_ast.specs.declared.UnaryOperator.TheVariants as unary
use Rattle.vx_ast.specs.declared.BinaryOperator.{BinaryOperator}
use Rattle.vx_ast.specs.declared.BinaryOperator.TheVariants as operator
use Rattle.vx_ast.specs.Written as written
use Rattle.vx_ast.specs.Syntax as settled
use Rattle.vx_ast.specs.Syntax.{Name}
use Rattle.vx_ast.specs.Resolve.{Names, whole, unary_of, part_of, binary_of, expression, amount, expressions, access, is_pure, assertion, assertions, assign, statement, other_side, block, optional_assertion, optional_block, measure, optional_measure, kind, names_of, program, member}
use Rattle.vx_terms.specs.Interpretations.{Each}
use Rattle.vx_readable.specs.Numerals.{IsSmallExpr, AreSmallExprs, IsSmallAssertion, IsSmallStmt, IsSmallBlock, IsSmallMeasure, IsSmallKind, HasSmallNumerals}
use Rattle.vx_readable.proofs.Spelled.{SmallExpr, SmallExprs, SmallAmount, SmallRight, SmallStmt, SmallOther, SmallBlock, SmallClause, SmallKind, SmallProgram}

none_small : 0 < 2 ^ 127
none_small = omega arith

one_small : 1 < 2 ^ 127
one_small = omega arith

-- ---- expressions

unary_small : (at : Place) (op : UnaryOperator) (e : settled.Expr) → IsSmallExpr e → IsSmallExpr (unary_of at op e)
unary_small at unary.Not e h = h
unary_small at unary.Negate e h = (none_small, h)

part_small : (at : Place) (a b : settled.Expr) → IsSmallExpr a → IsSmallExpr (part_of at a b)
part_small at (settled.Number p n) (settled.Number q d) h = h
part_small at (settled.Number p n) (settled.Truth q b) h = tt
part_small at (settled.Number p n) (settled.Null q) h = tt
part_small at (settled.Number p n) (settled.Part q m d) h = tt
part_small at (settled.Number p n) (settled.Variable q x) h = tt
part_small at (settled.Number p n) (settled.Not q e) h = tt
part_small at (settled.Number p n) (settled.Operate q op a b) h = tt
part_small at (settled.Number p n) (settled.Divide q op a b) h = tt
part_small at (settled.Number p n) (settled.Connect q c a b) h = tt
part_small at (settled.Number p n) (settled.Choose q c a b) h = tt
part_small at (settled.Number p n) (settled.Read q e f) h = tt
part_small at (settled.Number p n) (settled.Old q e) h = tt
part_small at (settled.Number p n) (settled.Apply q f es) h = tt
part_small at (settled.Number p n) (settled.Unfolding q i es share e) h = tt
part_small at (settled.Truth p b) d h = tt
part_small at (settled.Null p) d h = tt
part_small at (settled.Part p m n) d h = tt
part_small at (settled.Variable p x) d h = tt
part_small at (settled.Not p e) d h = tt
part_small at (settled.Operate p op a b) d h = tt
part_small at (settled.Divide p op a b) d h = tt
part_small at (settled.Connect p c a b) d h = tt
part_small at (settled.Choose p c a b) d h = tt
part_small at (settled.Read p e f) d h = tt
part_small at (settled.Old p e) d h = tt
part_small at (settled.Apply p f es) d h = tt
part_small at (settled.Unfolding p i es share e) d h = tt

binary_small : (at : Place) (op : BinaryOperator) (a b : settled.Expr) → IsSmallExpr a → IsSmallExpr b → IsSmallExpr (binary_of at op a b)
binary_small at operator.And a b h k = (h, k)
binary_small at operator.Or a b h k = (h, k)
binary_small at operator.Implies a b h k = (h, k)
binary_small at operator.Equal a b h k = (h, k)
binary_small at operator.NotEqual a b h k = (h, k)
binary_small at operator.Less a b h k = (h, k)
binary_small at operator.LessEqual a b h k = (h, k)
binary_small at operator.Greater a b h k = (h, k)
binary_small at operator.GreaterEqual a b h k = (h, k)
binary_small at operator.Add a b h k = (h, k)
binary_small at operator.Subtract a b h k = (h, k)
binary_small at operator.Multiply a b h k = (h, k)
binary_small at operator.Divide a b h k = part_small at a b h
binary_small at operator.Quotient a b h k = (h, k)
binary_small at operator.Remainder a b h k = (h, k)

mutual
  expression_small : (e : written.Expr) → SmallExpr e → IsSmallExpr (expression e)
  expression_small (written.Number at n) h = h
  expression_small (written.Truth at b) h = tt
  expression_small (written.Null at) h = tt
  expression_small (written.Whole at) h = one_small
  expression_small (written.Nothing at) h = none_small
  expression_small (written.Result at) h = tt
  expression_small (written.Variable at x) h = tt
  expression_small (written.Call at f es) h = expressions_small es h
  expression_small (written.Read at e f) h = expression_small e h
  expression_small (written.Unary at op e) h = unary_small at op (expression e) (expression_small e h)
  expression_small (written.Binary at op a b) h = binary_small at op (expression a) (expression b) (expression_small a h.0) (expression_small b h.1)
  expression_small (written.Choice at c a b) h = (expression_small c h.0, expression_small a h.1, expression_small b h.2)
  expression_small (written.Old at e) h = expression_small e h
  expression_small (written.Access at e share) h = tt
  expression_small (written.Unfolding at i es share e) h = (expressions_small es h.0, share_small at share h.1, expression_small e h.2)

  share_small : (at : Place) (a : written.Amount) → SmallAmount a → IsSmallExpr (amount at a)
  share_small at written.All h = one_small
  share_small at (written.Part e) h = expression_small e h

  expressions_small : (es : written.Exprs) → SmallExprs es → AreSmallExprs (expressions es)
  expressions_small written.NoMore h = tt
  expressions_small (written.More e es) h = (expression_small e h.0, expressions_small es h.1)

-- ---- assertions

access_small : (at : Place) (e : written.Expr) (share : settled.Expr) → SmallExpr e → IsSmallExpr share → IsSmallAssertion (access at e share)
access_small at (written.Read place e f) share h k = (expression_small e h, k)
access_small at (written.Call place i es) share h k = (expressions_small es h, k)
access_small at (written.Number p n) share h k = tt
access_small at (written.Truth p b) share h k = tt
access_small at (written.Null p) share h k = tt
access_small at (written.Whole p) share h k = tt
access_small at (written.Nothing p) share h k = tt
access_small at (written.Result p) share h k = tt
access_small at (written.Variable p x) share h k = tt
access_small at (written.Unary p op e) share h k = tt
access_small at (written.Binary p op a b) share h k = tt
access_small at (written.Choice p c a b) share h k = tt
access_small at (written.Old p e) share h k = tt
access_small at (written.Access p e s) share h k = tt
access_small at (written.Unfolding p i es s e) share h k = tt

either_small : (b : Bool) (x y : settled.Assertion) → IsSmallAssertion x → IsSmallAssertion y → IsSmallAssertion (cond b x y)
either_small true x y h k = h
either_small false x y h k = k

module _ (names : Names) where
  assertion_small : (e : written.Expr) → SmallExpr e → IsSmallAssertion (assertion names e)
  assertion_small (written.Access at e share) h = access_small at e (amount at share) h.0 (share_small at share h.1)
  assertion_small (written.Call at f es) h =
      either_small (names.is_predicate f) (settled.Instance at f (expressions es) (whole at)) (settled.Pure (expression (written.Call at f es))) (expressions_small es h, one_small) (expressions_small es h)
  assertion_small (written.Binary at operator.And a b) h = (assertion_small a h.0, assertion_small b h.1)
  assertion_small (written.Binary at operator.Implies c a) h =
      either_small (is_pure names a) (settled.Pure (expression (written.Binary at operator.Implies c a))) (settled.Implied (expression c) (assertion names a))
      (expression_small c h.0, expression_small a h.1) (expression_small c h.0, assertion_small a h.1)
  assertion_small (written.Binary at operator.Or a b) h = expression_small (written.Binary at operator.Or a b) h
  assertion_small (written.Binary at operator.Equal a b) h = expression_small (written.Binary at operator.Equal a b) h
  assertion_small (written.Binary at operator.NotEqual a b) h = expression_small (written.Binary at operator.NotEqual a b) h
  assertion_small (written.Binary at operator.Less a b) h = expression_small (written.Binary at operator.Less a b) h
  assertion_small (written.Binary at operator.LessEqual a b) h = expression_small (written.Binary at operator.LessEqual a b) h
  assertion_small (written.Binary at operator.Greater a b) h = expression_small (written.Binary at operator.Greater a b) h
  assertion_small (written.Binary at operator.GreaterEqual a b) h = expression_small (written.Binary at operator.GreaterEqual a b) h
  assertion_small (written.Binary at operator.Add a b) h = expression_small (written.Binary at operator.Add a b) h
  assertion_small (written.Binary at operator.Subtract a b) h = expression_small (written.Binary at operator.Subtract a b) h
  assertion_small (written.Binary at operator.Multiply a b) h = expression_small (written.Binary at operator.Multiply a b) h
  assertion_small (written.Binary at operator.Divide a b) h = expression_small (written.Binary at operator.Divide a b) h
  assertion_small (written.Binary at operator.Quotient a b) h = expression_small (written.Binary at operator.Quotient a b) h
  assertion_small (written.Binary at operator.Remainder a b) h = expression_small (written.Binary at operator.Remainder a b) h
  assertion_small (written.Choice at c a b) h =
      either_small (is_pure names a && is_pure names b) (settled.Pure (expression (written.Choice at c a b))) (settled.Chosen (expression c) (assertion names a) (assertion names b))
      (expression_small c h.0, expression_small a h.1, expression_small b h.2) (expression_small c h.0, assertion_small a h.1, assertion_small b h.2)
  assertion_small (written.Number at n) h = h
  assertion_small (written.Truth at b) h = tt
  assertion_small (written.Null at) h = tt
  assertion_small (written.Whole at) h = one_small
  assertion_small (written.Nothing at) h = none_small
  assertion_small (written.Result at) h = tt
  assertion_small (written.Variable at x) h = tt
  assertion_small (written.Read at e f) h = expression_small e h
  assertion_small (written.Unary at op e) h = expression_small (written.Unary at op e) h
  assertion_small (written.Old at e) h = expression_small e h
  assertion_small (written.Unfolding at i es share e) h = expression_small (written.Unfolding at i es share e) h

  assertions_small : (es : written.Exprs) → SmallExprs es → Each IsSmallAssertion (assertions names es)
  assertions_small written.NoMore h = tt
  assertions_small (written.More e es) h = (assertion_small e h.0, assertions_small es h.1)

  -- ---- statements

  either_stmt : (b : Bool) (x y : settled.Stmt) → IsSmallStmt x → IsSmallStmt y → IsSmallStmt (cond b x y)
  either_stmt true x y h k = h
  either_stmt false x y h k = k

  value_small : (at : Place) (x : Name) (e : written.Expr) → SmallExpr e → IsSmallStmt (assign names at x (written.Value e))
  value_small at x (written.Call place m es) h =
      either_stmt (names.is_method m) (settled.Call at (x ∷ []) m (expressions es)) (settled.Assign at x (expression (written.Call place m es))) (expressions_small es h) (expressions_small es h)
  value_small at x (written.Number p n) h = h
  value_small at x (written.Truth p b) h = tt
  value_small at x (written.Null p) h = tt
  value_small at x (written.Whole p) h = one_small
  value_small at x (written.Nothing p) h = none_small
  value_small at x (written.Result p) h = tt
  value_small at x (written.Variable p y) h = tt
  value_small at x (written.Read p e f) h = expression_small e h
  value_small at x (written.Unary p op e) h = expression_small (written.Unary p op e) h
  value_small at x (written.Binary p op a b) h = expression_small (written.Binary p op a b) h
  value_small at x (written.Choice p c a b) h = expression_small (written.Choice p c a b) h
  value_small at x (written.Old p e) h = expression_small e h
  value_small at x (written.Access p e share) h = tt
  value_small at x (written.Unfolding p i es share e) h = expression_small (written.Unfolding p i es share e) h

  assign_small : (at : Place) (x : Name) (r : written.Right) → SmallRight r → IsSmallStmt (assign names at x r)
  assign_small at x (written.Value e) h = value_small at x e h
  assign_small at x (written.NewAll p) h = tt
  assign_small at x (written.New p xs) h = tt

  mutual
    statement_small : (s : written.Stmt) (rest : settled.Block) → SmallStmt s → IsSmallBlock rest → IsSmallBlock (statement names s rest)
    statement_small (written.Declare at d None) rest h k = (tt, k)
    statement_small (written.Declare at d (Some r)) rest h k = (tt, (assign_small at d.name.name r h, k))
    statement_small (written.Assign at x r) rest h k = (assign_small at x.name r h, k)
    statement_small (written.Write at e f e') rest h k = ((expression_small e h.0, expression_small e' h.1), k)
    statement_small (written.Invoke at xs m es) rest h k = (expressions_small es h, k)
    statement_small (written.Inhale at e) rest h k = (assertion_small e h, k)
    statement_small (written.Exhale at e) rest h k = (assertion_small e h, k)
    statement_small (written.Assert at e) rest h k = (assertion_small e h, k)
    statement_small (written.Assume at e) rest h k = (expression_small e h, k)
    statement_small (written.Fold at i es share) rest h k = ((expressions_small es h.0, share_small at share h.1), k)
    statement_small (written.Unfold at i es share) rest h k = ((expressions_small es h.0, share_small at share h.1), k)
    statement_small (written.If at c a b) rest h k = ((expression_small c h.0, block_small a h.1, other_small b h.2), k)
    statement_small (written.While at c is b) rest h k = ((expression_small c h.0, assertions_small is h.1, block_small b h.2), k)

    other_small : (b : written.Other) → SmallOther b → IsSmallBlock (other_side names b)
    other_small written.NoElse h = tt
    other_small (written.Else b) h = block_small b h

    block_small : (b : written.Block) → SmallBlock b → IsSmallBlock (block names b)
    block_small written.Done h = tt
    block_small (written.Then s b) h = statement_small s (block names b) h.0 (block_small b h.1)

  -- ---- members

  optional_small : (e : Option written.Expr) → IfSome e SmallExpr → IfSome (optional_assertion names e) IsSmallAssertion
  optional_small None h = tt
  optional_small (Some e) h = assertion_small e h

  optional_block_small : (b : Option written.Block) → IfSome b SmallBlock → IfSome (optional_block names b) IsSmallBlock
  optional_block_small None h = tt
  optional_block_small (Some b) h = block_small b h

  either_measure : (b : Bool) (x y : settled.Measure) → IsSmallMeasure x → IsSmallMeasure y → IsSmallMeasure (cond b x y)
  either_measure true x y h k = h
  either_measure false x y h k = k

  measure_small : (e : written.Expr) → SmallExpr e → IsSmallMeasure (measure names e)
  measure_small (written.Call at i es) h =
      either_measure (names.is_predicate i) (settled.ByInstance at i (expressions es)) (settled.ByNumber (expression (written.Call at i es))) (expressions_small es h) (expressions_small es h)
  measure_small (written.Number p n) h = h
  measure_small (written.Truth p b) h = tt
  measure_small (written.Null p) h = tt
  measure_small (written.Whole p) h = one_small
  measure_small (written.Nothing p) h = none_small
  measure_small (written.Result p) h = tt
  measure_small (written.Variable p y) h = tt
  measure_small (written.Read p e f) h = expression_small e h
  measure_small (written.Unary p op e) h = expression_small (written.Unary p op e) h
  measure_small (written.Binary p op a b) h = expression_small (written.Binary p op a b) h
  measure_small (written.Choice p c a b) h = expression_small (written.Choice p c a b) h
  measure_small (written.Old p e) h = expression_small e h
  measure_small (written.Access p e share) h = tt
  measure_small (written.Unfolding p i es share e) h = expression_small (written.Unfolding p i es share e) h

  requires_small : (cs : List written.Clause) → Each SmallClause cs → Each IsSmallAssertion (map (assertion names) (written.requires_of cs))
  requires_small [] h = tt
  requires_small (written.Requires e ∷ cs) h = (assertion_small e h.0, requires_small cs h.1)
  requires_small (written.Ensures e ∷ cs) h = requires_small cs h.1
  requires_small (written.Decreases e ∷ cs) h = requires_small cs h.1

  ensures_small : (cs : List written.Clause) → Each SmallClause cs → Each IsSmallAssertion (map (assertion names) (written.ensures_of cs))
  ensures_small [] h = tt
  ensures_small (written.Requires e ∷ cs) h = ensures_small cs h.1
  ensures_small (written.Ensures e ∷ cs) h = (assertion_small e h.0, ensures_small cs h.1)
  ensures_small (written.Decreases e ∷ cs) h = ensures_small cs h.1

  promises_small : (cs : List written.Clause) → Each SmallClause cs → Each IsSmallExpr (map expression (written.ensures_of cs))
  promises_small [] h = tt
  promises_small (written.Requires e ∷ cs) h = promises_small cs h.1
  promises_small (written.Ensures e ∷ cs) h = (expression_small e h.0, promises_small cs h.1)
  promises_small (written.Decreases e ∷ cs) h = promises_small cs h.1

  decreases_small : (cs : List written.Clause) → Each SmallClause cs → IfSome (optional_measure names (written.measure_of cs)) IsSmallMeasure
  decreases_small [] h = tt
  decreases_small (written.Requires e ∷ cs) h = decreases_small cs h.1
  decreases_small (written.Ensures e ∷ cs) h = decreases_small cs h.1
  decreases_small (written.Decreases e ∷ cs) h = measure_small e h.0

  kind_small : (at : Place) (k : written.Kind) → SmallKind k → IsSmallKind (kind names at k)
  kind_small at (written.IsField t) h = tt
  kind_small at (written.IsPredicate d) h = optional_small d.body h
  kind_small at (written.IsFunction g) h = record {
    requires = requires_small g.clauses h.0;
    ensures = promises_small g.clauses h.0;
    decreases = decreases_small g.clauses h.0;
    body = expression_small g.body h.1;
  }
  kind_small at (written.IsMethod m) h = record {
    requires = requires_small m.clauses h.0;
    ensures = ensures_small m.clauses h.0;
    body = optional_block_small m.body h.1;
  }

  members_small : (ms : written.Program) → SmallProgram ms → HasSmallNumerals (map (member names) ms)
  members_small [] h = tt
  members_small (m ∷ ms) h = (kind_small m.place m.kind h.0, members_small ms h.1)

pub settled_small : (p : written.Program) → SmallProgram p → HasSmallNumerals (program p)
settled_small p h = members_small (names_of p) p h
