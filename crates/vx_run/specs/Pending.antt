-- What is still to be done of expressions.
use Rattle.std.specs.Prelude.{ℕ, List, ◌∷◌, string_bytes}
use Rattle.vx_ast.specs.declared.Place.{Place}
use Rattle.vx_ast.specs.Syntax.{Name, Function, Assertion, Expr, Exprs, joined}
use Rattle.vx_frac.specs.Fraction.{fraction}
use Rattle.vx_frac.specs.Fractions.{Fraction, full, is_positive}
use Rattle.vx_meaning.specs.Values.{Value, negated}
use Rattle.vx_meaning.specs.States.{State, Store, Instance, Folded, at_old, with_store, with_holdings}
use Rattle.vx_meaning.specs.Fits.{location_of, amount_of, has_instance}
use Rattle.vx_resolved.specs.Resolved.{expr, exprs, operator, division, connective}
use Rattle.vx_run.specs.Going.{Going, ◌>>=◌, gives, when, require, expect, failing_as, step, Failed}
use Rattle.vx_run.specs.Widths.{within_128_bits, less, operate, divide}
use Rattle.vx_run.specs.Evaluated as evaluated
use Rattle.vx_run.specs.Evaluated.{Deeper, Reading, Permitted, Free, deeper, connected, decided, read, take, add, exchanged}
use Rattle.vx_run.specs.Blame.{within}
use Rattle.vx_run.specs.Configs.{Setting, Config, newest_of, with_values, with_lists, with_one, with_two, with_list, put_value, put_list}
use Rattle.vx_run.specs.declared.context.When.{When}
use Rattle.vx_run.specs.declared.context.When.TheVariants as when'
use Rattle.vx_run.specs.declared.context.Reading.{Reading as Reading'}
use Rattle.vx_run.specs.declared.context.Reading.TheVariants as reading'
use Rattle.vx_run.specs.declared.context.Within.{Within}
use Rattle.vx_run.specs.declared.pending.Pending.{Pending}
use Rattle.vx_run.specs.declared.pending.Pending.TheVariants as pending'

abbrev pub state_at : When → State → State
state_at when'.Now s = s
state_at when'.Before s = at_old s

abbrev pub reading : Reading' → Reading
reading reading'.Permitted = Permitted
reading reading'.Free = Free

-- one of two by a condition
abbrev pub side : Place → Value → Going ℕ Value → Going ℕ Value → Going ℕ Value
side at v a b = decided at v >>= λ t. when t a b

-- an amount above none
abbrev pub share_of : Place → Value → Going ℕ Fraction
share_of at v = expect (amount_of v) (Failed at) >>= λ q. require (is_positive q) (Failed at) >>= λ _. gives q

-- so much of an instance is held
abbrev pub required : Place → State → Instance → Fraction → Going ℕ (Unit {0})
required at s i q = require (has_instance s i q) (Failed at)

module _ (t : Setting) where
  -- what goes on that many levels deeper
  abbrev pub deeper_by : ℕ → Deeper ℕ
  deeper_by n = deeper t.program within_128_bits n

  abbrev pub evaluate : ℕ → Reading → State → Expr → Going ℕ Value
  evaluate n r s e = evaluated.evaluate t.program within_128_bits (deeper_by n) r s e

  abbrev pub evaluate_all : ℕ → Reading → State → Exprs → Going ℕ (List Value)
  evaluate_all n r s es = evaluated.evaluate_all t.program within_128_bits (deeper_by n) r s es

  -- the field of a reference, read in a state
  abbrev pub read_at : Reading → State → Place → Name → Value → Going ℕ Value
  read_at r s at f v = expect (location_of f v) (Failed at) >>= λ l. expect (read t.program r s l) (Failed at)

  -- a function's value at its arguments
  abbrev pub apply : ℕ → Reading → State → Place → Name → List Value → Going ℕ Value
  apply n r s at f vs = step >>= λ _. failing_as (Failed at) ((deeper_by n).applied r at f vs s)

  -- what a function comes to in its part: its precondition is taken where permissions are asked
  abbrev pub applied : ℕ → Reading → Function → State → Going ℕ Value
  applied n Permitted g callee = take t.program within_128_bits (deeper_by n) callee full (joined g.place g.requires) callee.holdings >>= λ _. evaluate n Free callee g.body
  applied n Free g callee = evaluate n Free callee g.body

  -- so much of an instance is unfolded, which is held, and the expression is evaluated there
  abbrev pub opened_in : ℕ → State → Place → Fraction → Expr → Instance → Going ℕ Value
  opened_in n s at q e i = failing_as (Failed at) ((deeper_by n).opened at i q s) >>= λ u. evaluate n Permitted u e

  abbrev pub open_in : ℕ → State → Place → Fraction → Expr → Instance → Going ℕ Value
  open_in n s at q e i = exchanged t.program within_128_bits (deeper_by n) at (i, q) s >>= λ u. evaluate n Permitted u e

  -- a body is added in this state, within something, and the expression is evaluated with the variables as they were
  abbrev pub body_opened : Within → Within → Fraction → Assertion → Expr → State → Config → Going ℕ Config
  body_opened inner k q x e s c =
      within inner.blame (add t.program within_128_bits (deeper_by inner.level) q x s) >>= λ u. put_value k.blame c (evaluate k.level Permitted (with_store c.state.store u) e)

  -- so much less of an instance is held, and its body is added, with these variables, within something
  abbrev pub body_exchanged : Within → Place → Instance → Fraction → Store → Assertion → State → Going ℕ State
  body_exchanged inner at i q x body s =
      less within_128_bits at (Folded i) q s.holdings >>= λ left. add t.program within_128_bits (deeper_by inner.level) q body (with_store x (with_holdings left s)) >>= λ u.
      gives (with_store s.store u)

  -- and then the expression is evaluated
  abbrev pub exchanged_in : Within → Within → Place → Instance → Fraction → Store → Assertion → Expr → State → Config → Going ℕ Config
  exchanged_in inner k at i q x body e s c = within inner.blame (body_exchanged inner at i q x body s) >>= λ u. put_value k.blame c (evaluate k.level Permitted u e)

  abbrev pub unfold_in : ℕ → State → Place → Name → Exprs → Expr → Value → Going ℕ Value
  unfold_in n s at i es e v = share_of at v >>= λ q. evaluate_all n Permitted s es >>= λ vs. open_in n s at q e (record { predicate = i; arguments = vs })

  -- the operands of each are there
  abbrev pub act : Pending → Config → Going ℕ Config
  act (pending'.Evaluate k r w e) c = put_value k.blame c (evaluate k.level (reading r) (state_at w c.state) (expr e.now))
  act (pending'.EvaluateAll k r w es) c = put_list k.blame c (evaluate_all k.level (reading r) (state_at w c.state) (exprs es.now))
  act pending'.Collect c = with_one c (λ v d. with_list d (λ vs f. gives (with_lists ((v ∷ vs) ∷ f.lists) f)))
  act (pending'.Negate b at) c = with_one c (λ v d. put_value b d (expect (negated v) (Failed at)))
  act (pending'.Operate b at op) c = with_two c (λ v w d. put_value b d (operate within_128_bits at (operator op) v w))
  act (pending'.Divide b at op) c = with_two c (λ v w d. put_value b d (divide within_128_bits at (division op) v w))
  act (pending'.Connect k r at op w e) c =
      with_one c (λ v d. put_value k.blame d (connected at (connective op) v (evaluate k.level (reading r) (state_at w d.state) (expr e.now))))
  act (pending'.Choose k r at w x y) c =
      with_one c (λ v d. put_value k.blame d (side at v (evaluate k.level (reading r) (state_at w d.state) (expr x.now)) (evaluate k.level (reading r) (state_at w d.state) (expr y.now))))
  act (pending'.Read b r at w x) c = with_one c (λ v d. put_value b d (read_at (reading r) (state_at w d.state) at (string_bytes x.now.value) v))
  act (pending'.Apply k r at w x) c = with_list c (λ vs d. put_value k.blame d (apply k.level (reading r) (state_at w d.state) at (string_bytes x.now.value) vs))
  act (pending'.Unfold k at w i es e) c =
      with_one c (λ v d. put_value k.blame d (unfold_in k.level (state_at w d.state) at (string_bytes i.now.value) (exprs es.now) (expr e.now) v))
  act (pending'.Open k at w i q e) c =
      with_list c (λ vs d. put_value k.blame d (open_in k.level (state_at w d.state) at (fraction q) (expr e.now) (record { predicate = string_bytes i.now.value; arguments = vs })))
