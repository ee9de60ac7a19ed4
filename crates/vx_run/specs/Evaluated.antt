-- Expressions and assertions of a run with steps and a width, read as `fit`, `take` and `give` of the meaning read them.
use Rattle.std.specs.Prelude.{ℕ, zero, suc, Bool, List, [], ◌∷◌, Option, Some, pos}
use Rattle.vx_ast.specs.declared.Place.{Place}
use Rattle.vx_ast.specs.Syntax.{Name, Program, Function, Predicate, function_named, predicate_named, joined, Expr, Exprs, Number, Truth, Null, Part, Variable, Not, Operate, Divide, Connective, Connect, Choose, Read, Old, Apply, Unfolding, NoMore, More, Assertion, Pure, Points, Both, Implied, Chosen, place_of}
use Rattle.vx_ast.specs.Syntax as syntax
use Rattle.vx_frac.specs.Fractions.{Fraction, none, full, is_positive, at_most, over}
use Rattle.vx_meaning.specs.Values.{Value, IntValue, BoolValue, RefValue, PermValue, is_true, negated, needs_right, without_right}
use Rattle.vx_meaning.specs.States.{State, Holdings, Location, Instance, Resource, At, Folded, amount, lookup, bind, value_at, at_old, with_store, with_holdings}
use Rattle.vx_meaning.specs.Fits.{location_of, amount_of, readable, has_instance}
use Rattle.vx_run.specs.Going.{Going, ◌>>=◌, gives, ends_with, when, require, expect, failing_as, step, Failed, Running}
use Rattle.vx_run.specs.Widths.{Width, written_by, operate, divide, times, more, less}

-- whether what is read, applied and unfolded has to be held, or permissions are ignored
pub data Reading : Type 0 where
  Permitted Free : Reading

-- what goes on one level deeper: a function's value at its arguments, and the state after an amount of an instance is exchanged for its body
pub record Deeper (S : Type 0) : Type 0 where
  pub applied : Reading → Place → Name → List Value → State → Going S Value
  pub opened : Place → Instance → Fraction → State → Going S State

-- what is done with the parts of an assertion, from left to right, to something that is carried along
pub record Visit (S X : Type 0) : Type 0 where
  pub reading : Reading
  -- the parts are evaluated in this state
  pub state : X → State
  pub pure : Place → Bool → Going S (Unit {0})
  -- which side a condition takes
  pub side : Place → Value → Going S Bool
  pub part : Place → Resource × Fraction → X → Going S X

module _ {S : Type 0} where
  -- the right part where it is needed
  abbrev pub connected : Place → Connective → Value → Going S Value → Going S Value
  connected at c (BoolValue a) right = when (needs_right c a) right (gives (BoolValue (without_right c)))
  connected at c _ right = ends_with (Failed at)

  -- a condition that has to be a truth value
  abbrev pub decided : Place → Value → Going S Bool
  decided at (BoolValue b) = gives b
  decided at _ = ends_with (Failed at)

abbrev pub read : Program → Reading → State → Location → Option Value
read p Permitted s l = readable p s l
read p Free s l = Some (value_at p s.heap l)

module _ {S : Type 0} (p : Program) (width : Width) where
  -- an amount of the instance, above none, is held, and is exchanged for its body
  abbrev pub exchanged : Deeper S → Place → Instance × Fraction → State → Going S State
  exchanged d at (i, q) s =
      require (has_instance s i q) (Failed at) >>= λ _. failing_as (Failed at) (d.opened at i q s)

  module _ (d : Deeper S) where
    abbrev mutual
      pub evaluate : Reading → State → Expr → Going S Value
      evaluate r s (Number at n) = gives (IntValue (pos n))
      evaluate r s (Truth at b) = gives (BoolValue b)
      evaluate r s (Null at) = gives (RefValue 0)
      evaluate r s (Part at n m) = gives (written_by width (PermValue (over n m)))
      evaluate r s (Variable at x) = expect (lookup x s.store) (Failed at)
      evaluate r s (Not at e) = evaluate r s e >>= λ v. expect (negated v) (Failed at)
      evaluate r s (Operate at op a b) = evaluate r s a >>= λ v. evaluate r s b >>= λ w. operate width at op v w
      evaluate r s (Divide at op a b) = evaluate r s a >>= λ v. evaluate r s b >>= λ w. divide width at op v w
      evaluate r s (Connect at c a b) = evaluate r s a >>= λ v. connected at c v (evaluate r s b)
      evaluate r s (Choose at c a b) = evaluate r s c >>= λ v. decided at v >>= λ t. when t (evaluate r s a) (evaluate r s b)
      evaluate r s (Read at e f) = evaluate r s e >>= λ v. expect (location_of f v) (Failed at) >>= λ l. expect (read p r s l) (Failed at)
      evaluate r s (Old at e) = evaluate r (at_old s) e
      evaluate r s (Apply at f es) = evaluate_all r s es >>= λ vs. step >>= λ _. failing_as (Failed at) (d.applied r at f vs s)
      evaluate Free s (Unfolding at i es share e) = evaluate Free s e
      evaluate Permitted s (Unfolding at i es share e) =
          evaluate Permitted s share >>= λ v. expect (amount_of v) (Failed at) >>= λ q. require (is_positive q) (Failed at) >>= λ _.
          evaluate_all Permitted s es >>= λ vs. exchanged d at (record { predicate = i; arguments = vs }, q) s >>= λ t. evaluate Permitted t e

      pub evaluate_all : Reading → State → Exprs → Going S (List Value)
      evaluate_all r s NoMore = gives []
      evaluate_all r s (More e es) = evaluate r s e >>= λ v. evaluate_all r s es >>= λ vs. gives (v ∷ vs)

    -- an instance and its amount, above none: what is folded and unfolded
    abbrev pub instance_at : State → Place → Name → Exprs → Expr → Going S (Instance × Fraction)
    instance_at s at i es share =
        evaluate Permitted s share >>= λ v. expect (amount_of v) (Failed at) >>= λ q. require (is_positive q) (Failed at) >>= λ _.
        evaluate_all Permitted s es >>= λ vs. gives (record { predicate = i; arguments = vs }, q)

    -- the location, or the instance, and the amount of a permission; the amount is at least 0
    abbrev pub field_part : Reading → State → Place → Expr → Name → Expr → Going S (Resource × Fraction)
    field_part r s at e f share =
        evaluate r s e >>= λ v. evaluate r s share >>= λ w. expect (location_of f v) (Failed at) >>= λ l. expect (amount_of w) (Failed at) >>= λ q.
        require (at_most none q) (Failed at) >>= λ _. gives (At l, q)

    abbrev pub instance_part : Reading → State → Place → Name → Exprs → Expr → Going S (Resource × Fraction)
    instance_part r s at i es share =
        evaluate_all r s es >>= λ vs. evaluate r s share >>= λ w. expect (amount_of w) (Failed at) >>= λ q.
        require (at_most none q) (Failed at) >>= λ _. gives (Folded record { predicate = i; arguments = vs }, q)

    abbrev pub visit : {X : Type 0} → Visit S X → Assertion → X → Going S X
    visit v (Pure e) x = evaluate v.reading (v.state x) e >>= λ b. v.pure (place_of e) (is_true b) >>= λ _. gives x
    visit v (Points at e f share) x = field_part v.reading (v.state x) at e f share >>= λ part. v.part at part x
    visit v (syntax.Instance at i es share) x = instance_part v.reading (v.state x) at i es share >>= λ part. v.part at part x
    visit v (Both a b) x = visit v a x >>= λ y. visit v b y
    visit v (Implied c a) x = evaluate v.reading (v.state x) c >>= λ b. v.side (place_of c) b >>= λ t. when t (visit v a x) (gives x)
    visit v (Chosen c a b) x = evaluate v.reading (v.state x) c >>= λ w. v.side (place_of c) w >>= λ t. when t (visit v a x) (visit v b x)

    -- q of an assertion is taken from what still remains; all of it is evaluated in this state
    abbrev pub to_take : State → Fraction → Visit S Holdings
    to_take s q = record {
      reading = Permitted;
      state = λ h. s;
      pure = λ at b. require b (Failed at);
      side = decided;
      part = λ at part h.
          times width at q part.1 >>= λ b. require (at_most b (amount h part.0)) (Failed at) >>= λ _. less width at part.0 b h;
    }

    abbrev pub take : State → Fraction → Assertion → Holdings → Going S Holdings
    take s q = visit (to_take s q)

    -- q of an assertion is added, read left to right in the state as it then is; its truth isn't asked
    abbrev pub to_add : Fraction → Visit S State
    to_add q = record {
      reading = Permitted;
      state = λ s. s;
      pure = λ at b. gives tt;
      side = decided;
      part = λ at part s. times width at q part.1 >>= λ b. more width at part.0 b s.holdings >>= λ h. gives (with_holdings h s);
    }

    abbrev pub add : Fraction → Assertion → State → Going S State
    add q = visit (to_add q)

  -- a function's value, where its precondition can be taken
  abbrev pub application : Deeper S → Reading → Place → Name → List Value → State → Going S Value
  application d r at f vs s = expect (function_named p f) (Failed at) >>= λ g. applied r g (with_store (bind g.parameters vs) s) where
    applied : Reading → Function → State → Going S Value
    applied Permitted g callee = take d callee full (joined g.place g.requires) s.holdings >>= λ _. evaluate d Free callee g.body
    applied Free g callee = evaluate d Free callee g.body

  -- q of an instance is exchanged for its body
  abbrev pub exchange : Deeper S → Place → Instance → Fraction → State → Going S State
  exchange d at i q s =
      expect (predicate_named p i.predicate) (Failed at) >>= λ b. expect b.body (Failed at) >>= λ e. less width at (Folded i) q s.holdings >>= λ h.
      add d q e (with_store (bind b.parameters i.arguments) (with_holdings h s)) >>= λ t. gives (with_store s.store t)

  abbrev pub deeper : ℕ → Deeper S
  deeper zero = record { applied = λ r at f vs s. ends_with Running; opened = λ at i q s. ends_with (Failed at) }
  deeper (suc n) = record { applied = application (deeper n); opened = exchange (deeper n) }
