-- What the law asks of a program as a whole.
use Rattle.std.specs.Prelude.{◌≡◌, ℕ, true, Some, slice_get, ⊤}
use Rattle.vx_ast.specs.Syntax.{Name, Program, Member, Predicate, Function, Method, Expr, Assertion, Pure, Points, Instance, Both, Implied, Chosen, member_named, predicate_named, function_named, method_named}
use Rattle.vx_frac.specs.Fractions.{Fraction, is_positive}
use Rattle.vx_terms.specs.Interpretations.{Each}
use Rattle.vx_meaning.specs.Values.{PermValue}
use Rattle.vx_meaning.specs.States.{State}
use Rattle.vx_meaning.specs.Evaluate.{Applications, value}
use Rattle.vx_types.specs.Typing.{IsTypedPredicate, IsTypedFunction, IsTypedMethod}
use Rattle.vx_ast.specs.Apart.{KeepsApart}
use Rattle.vx_types.specs.Now.{SaysNow, SpeaksOfNow}

-- one value in every state, which is above none
abbrev pub IsConstantAmount : Expr → Type 0
IsConstantAmount e = (q : Fraction) × ((p : Program) (ap : Applications) (s : State) → value p ap s e ≡ Some (PermValue q)) × (is_positive q ≡ true)

abbrev pub HasConstantAmounts : Assertion → Type 0
HasConstantAmounts (Pure e) = ⊤
HasConstantAmounts (Points at e f share) = IsConstantAmount share
HasConstantAmounts (Instance at i es share) = IsConstantAmount share
HasConstantAmounts (Both a b) = HasConstantAmounts a × HasConstantAmounts b
HasConstantAmounts (Implied c a) = HasConstantAmounts a
HasConstantAmounts (Chosen c a b) = HasConstantAmounts a × HasConstantAmounts b

-- Each member is found by its name, and typed; amounts in predicates and in preconditions of functions are known without
-- running; predicates and functions say nothing of an earlier state; and no member is entered within itself.
pub record IsTypedProgram (p : Program) : Type 0 where
  pub names : (n : ℕ) (m : Member) → slice_get p n ≡ Some m → member_named p m.name ≡ Some m.kind
  pub predicates : (x : Name) (d : Predicate) → predicate_named p x ≡ Some d → IsTypedPredicate p d
  pub functions : (x : Name) (g : Function) → function_named p x ≡ Some g → IsTypedFunction p g
  pub methods : (x : Name) (m : Method) → method_named p x ≡ Some m → IsTypedMethod p m
  pub bodies : (x : Name) (d : Predicate) (a : Assertion) → predicate_named p x ≡ Some d → d.body ≡ Some a → HasConstantAmounts a
  pub now : (x : Name) (d : Predicate) (a : Assertion) → predicate_named p x ≡ Some d → d.body ≡ Some a → SaysNow a
  pub preconditions : (x : Name) (g : Function) → function_named p x ≡ Some g → Each HasConstantAmounts g.requires
  pub functions_now : (x : Name) (g : Function) → function_named p x ≡ Some g → SpeaksOfNow g
  pub apart : KeepsApart p
