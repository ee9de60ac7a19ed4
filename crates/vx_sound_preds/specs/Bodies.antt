-- What is asked of the bodies of predicates.
use Rattle.std.specs.Prelude.{◌≡◌, true, List, [], ◌∷◌, Some}
use Rattle.vx_frac.specs.Fractions.{Fraction, is_positive}
use Rattle.vx_ast.specs.Syntax.{Name, Program, Predicate, predicate_named, Expr, Not, Operate, Divide, Connect, Choose, Read, Old, Apply, Unfolding, Exprs, NoMore, More, Assertion, Pure, Points, Both, Implied, Chosen}
use Rattle.vx_ast.specs.Syntax as syntax
use Rattle.vx_meaning.specs.Values.{Value, PermValue}
use Rattle.vx_meaning.specs.States.{State, Store}
use Rattle.vx_meaning.specs.Evaluate.{value, values}
use Rattle.vx_meaning.specs.Flatten.{no_applications}

-- values that are no amounts: those of the parameters of predicates
abbrev pub IsRigid : Value → Type 0
IsRigid (PermValue q) = ⊥
IsRigid _ = Unit {0}

abbrev pub AreRigid : List Value → Type 0
AreRigid [] = Unit {0}
AreRigid (v ∷ vs) = IsRigid v × AreRigid vs

-- the values of the variables are no amounts
abbrev pub RigidStore : Store → Type 0
RigidStore [] = Unit {0}
RigidStore (e ∷ rest) = IsRigid e.1 × RigidStore rest

abbrev pub Rigid : State → Type 0
Rigid s = RigidStore s.store

-- what the bodies of predicates are made of: no application, and no `old`
abbrev mutual
  pub IsPlain : Expr → Type 0
  IsPlain (Not at e) = IsPlain e
  IsPlain (Operate at op a b) = IsPlain a × IsPlain b
  IsPlain (Divide at op a b) = IsPlain a × IsPlain b
  IsPlain (Connect at c a b) = IsPlain a × IsPlain b
  IsPlain (Choose at c a b) = IsPlain c × IsPlain a × IsPlain b
  IsPlain (Read at e f) = IsPlain e
  IsPlain (Old at e) = ⊥
  IsPlain (Apply at f es) = ⊥
  IsPlain (Unfolding at i es share e) = ArePlain es × IsPlain share × IsPlain e
  IsPlain _ = Unit {0}

  pub ArePlain : Exprs → Type 0
  ArePlain NoMore = Unit {0}
  ArePlain (More e es) = IsPlain e × ArePlain es

-- an amount of a body: one fraction above none, whatever the state
pub record IsAmount (p : Program) (share : Expr) : Type 0 where
  pub plain : IsPlain share
  pub amount : Fraction
  pub above : is_positive amount ≡ true
  pub value_is : (s : State) → value p no_applications s share ≡ Some (PermValue amount)

-- the body of a predicate, where T says which states have values of their types; an instance's arguments are no amounts
abbrev pub IsPlainBody : Program → (State → Type 0) → Assertion → Type 0
IsPlainBody p T (Pure e) = IsPlain e
IsPlainBody p T (Points at e f share) = IsPlain e × IsAmount p share
IsPlainBody p T (syntax.Instance at i es share) = ArePlain es × IsAmount p share × ((s : State) (vs : List Value) → T s → values p no_applications s es ≡ Some vs → AreRigid vs)
IsPlainBody p T (Both a b) = IsPlainBody p T a × IsPlainBody p T b
IsPlainBody p T (Implied c a) = IsPlain c × IsPlainBody p T a
IsPlainBody p T (Chosen c a b) = IsPlain c × IsPlainBody p T a × IsPlainBody p T b

-- the bodies of predicates are as typing leaves them
pub record GoodBodies (p : Program) : Type 0 where
  pub plain : (i : Name) (d : Predicate) (e : Assertion) → predicate_named p i ≡ Some d → d.body ≡ Some e → IsPlainBody p Rigid e
