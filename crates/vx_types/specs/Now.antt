-- What has no `old`: it speaks of the state where it stands alone.
use Rattle.std.specs.Prelude.{Option, Some, None, ⊤}
use Rattle.vx_ast.specs.Syntax.{Function, Measure, ByNumber, ByInstance, Expr, Not, Operate, Divide, Connect, Choose, Read, Old, Apply, Unfolding, Exprs, NoMore, More, Assertion, Pure, Points, Instance, Both, Implied, Chosen}
use Rattle.vx_terms.specs.Interpretations.{Each}

abbrev mutual
  pub IsOfNow : Expr → Type 0
  IsOfNow (Not at e) = IsOfNow e
  IsOfNow (Operate at op a b) = IsOfNow a × IsOfNow b
  IsOfNow (Divide at op a b) = IsOfNow a × IsOfNow b
  IsOfNow (Connect at c a b) = IsOfNow a × IsOfNow b
  IsOfNow (Choose at c a b) = IsOfNow c × IsOfNow a × IsOfNow b
  IsOfNow (Read at e f) = IsOfNow e
  IsOfNow (Old at e) = ⊥
  IsOfNow (Apply at f es) = AreOfNow es
  IsOfNow (Unfolding at i es share e) = AreOfNow es × IsOfNow share × IsOfNow e
  IsOfNow _ = ⊤

  pub AreOfNow : Exprs → Type 0
  AreOfNow NoMore = ⊤
  AreOfNow (More e es) = IsOfNow e × AreOfNow es

abbrev pub SaysNow : Assertion → Type 0
SaysNow (Pure e) = IsOfNow e
SaysNow (Points at e f share) = IsOfNow e × IsOfNow share
SaysNow (Instance at i es share) = AreOfNow es × IsOfNow share
SaysNow (Both a b) = SaysNow a × SaysNow b
SaysNow (Implied c a) = IsOfNow c × SaysNow a
SaysNow (Chosen c a b) = IsOfNow c × SaysNow a × SaysNow b

abbrev pub IsMeasuredNow : Option Measure → Type 0
IsMeasuredNow None = ⊤
IsMeasuredNow (Some (ByNumber e)) = IsOfNow e
IsMeasuredNow (Some (ByInstance at i es)) = AreOfNow es

-- no part of a function has an `old`: its value is told by the state where it is applied
pub record SpeaksOfNow (g : Function) : Type 0 where
  pub requires : Each SaysNow g.requires
  pub ensures : Each IsOfNow g.ensures
  pub measure : IsMeasuredNow g.decreases
  pub body : IsOfNow g.body
