-- What is still to be done of assertions.
use Rattle.std.specs.Prelude.{◌≡◌, ℕ, Bool, List, ◌∷◌, Result, Ok, Err, string_bytes, ⊤}
use Rattle.vx_ast.specs.declared.Place.{Place}
use Rattle.vx_ast.specs.Syntax.{Name, Expr, Exprs, Predicate, Assertion, joined}
use Rattle.vx_frac.specs.Fraction.{fraction}
use Rattle.vx_frac.specs.Fractions.{Fraction, none, at_most}
use Rattle.vx_meaning.specs.Values.{Value, is_true}
use Rattle.vx_meaning.specs.States.{State, Store, Holdings, Instance, Resource, At, Folded, with_heap, with_holdings}
use Rattle.vx_meaning.specs.Fits.{location_of, amount_of}
use Rattle.vx_meaning.specs.Flatten.{bare}
use Rattle.vx_resolved.specs.Resolved.{assertion, assertions}
use Rattle.vx_run.specs.Draws.{by_draws}
use Rattle.vx_run.specs.Going.{Going, ◌>>=◌, gives, ends_with, when, require, expect, failing_as, Failed, Stopped}
use Rattle.vx_run.specs.Widths.{within_128_bits, written_all, times, more}
use Rattle.vx_run.specs.Evaluated.{Reading, Permitted, Free, Visit, decided, visit, to_take, to_add}
use Rattle.vx_run.specs.Given.{Filling, all_held, filled, to_give, to_give_again, to_fill, fill_body, fill, is_possible}
use Rattle.vx_run.specs.Blame.{within}
use Rattle.vx_run.specs.Configs.{Setting, Config, around, in_state, with_one, with_two, with_list, with_taking, put_value, put_list, put_state, put_taking, put_filling}
use Rattle.vx_run.specs.ConfigViews.{state_of}
use Rattle.vx_run.specs.Held.{instance}
use Rattle.vx_run.specs.Pending.{deeper_by, evaluate, evaluate_all}
use Rattle.vx_run.specs.Views.{outcome}
use Rattle.vx_run.specs.declared.outcome.Whole.{Whole}
use Rattle.vx_run.specs.declared.context.Within.{Within}
use Rattle.vx_run.specs.declared.visit.Manner.{Manner}
use Rattle.vx_run.specs.declared.visit.Manner.TheVariants as manner'
use Rattle.vx_run.specs.declared.visit.Visit.{Visit as Visit'}
use Rattle.vx_run.specs.declared.visit.Visit.TheVariants as visit'

-- what a part came to: something, or the end of the run
abbrev pub came : {A B : Type 0} → (A → B) → Result A Whole → Going ℕ B
came f (Ok a) = gives (f a)
came f (Err end) = ends_with (outcome end)

-- whether a pure part holds, and which side a condition takes
abbrev pub asked_of : Manner → Place → Bool → Going ℕ (Unit {0})
asked_of (manner'.Take q) at b = require b (Failed at)
asked_of (manner'.Add q) at b = gives tt
asked_of (manner'.GiveAgain q) at b = require b (Stopped at)
asked_of (manner'.Give q) at b = require b (Stopped at)
asked_of (manner'.Fill q n place) at b = require b (Failed at)

abbrev pub side_of : Manner → Place → Value → Going ℕ Bool
side_of (manner'.GiveAgain q) at v = gives (is_true v)
side_of (manner'.Give q) at v = gives (is_true v)
side_of m at v = decided at v

-- how its parts are read
abbrev pub reading_of : Manner → Reading
reading_of (manner'.Fill q n at) = Free
reading_of m = Permitted

-- What a manner carries is there: a taking, or what still remains of the totals. While values are chosen the state is that of a body.
abbrev pub HasTaking : List Holdings → Type 0
HasTaking hs = (h : Holdings) × (more : List Holdings) × (hs ≡ h ∷ more)

abbrev pub IsReady : Manner → Config → Type 0
IsReady (manner'.Take q) c = HasTaking c.takings
IsReady (manner'.Fill q n at) c = HasTaking c.takings × (c.state ≡ bare c.state.store c.state.heap)
IsReady m c = ⊤

-- with so much of a permission more
abbrev pub more_of : Place → Fraction → Resource × Fraction → Holdings → Going ℕ Holdings
more_of at q part h = times within_128_bits at q part.1 >>= λ b. more within_128_bits at part.0 b h

-- the amount of a permission is at least 0
abbrev pub amount_at : Place → Value → Going ℕ Fraction
amount_at at w = expect (amount_of w) (Failed at) >>= λ q. require (at_most none q) (Failed at) >>= λ _. gives q

-- the location, or the instance, and the amount
abbrev pub field_of : Place → Name → Value → Value → Going ℕ (Resource × Fraction)
field_of at f v w =
    expect (location_of f v) (Failed at) >>= λ l. expect (amount_of w) (Failed at) >>= λ q. require (at_most none q) (Failed at) >>= λ _. gives (At l, q)

abbrev pub instance_of : Place → Name → List Value → Value → Going ℕ (Resource × Fraction)
instance_of at i vs w =
    expect (amount_of w) (Failed at) >>= λ q. require (at_most none q) (Failed at) >>= λ _. gives (Folded record { predicate = i; arguments = vs }, q)

module _ (t : Setting) where
  abbrev pub taking : Within → Fraction → State → Visit ℕ Holdings
  taking k q s = to_take t.program within_128_bits (deeper_by t k.level) s q

  abbrev pub adding : Within → Fraction → Visit ℕ State
  adding k q = to_add t.program within_128_bits (deeper_by t k.level) q

  abbrev pub giving_again : Within → Fraction → Config → Visit ℕ State
  giving_again k q c = to_give_again t.program by_draws within_128_bits (deeper_by t k.level) t.steps (around c.callers) q

  abbrev pub giving : Within → Fraction → Config → Visit ℕ State
  giving k q c = to_give t.program by_draws within_128_bits (deeper_by t k.level) t.steps (around c.callers) k.level q

  abbrev pub filling : Within → Fraction → ℕ → Place → Store → Visit ℕ Filling
  filling k q n at x = to_fill t.program by_draws within_128_bits (fill t.program by_draws within_128_bits (deeper_by t k.level) n at) q x

  abbrev pub visit_by : {X : Type 0} → Within → Visit ℕ X → Assertion → X → Going ℕ X
  visit_by k v a x = visit t.program within_128_bits (deeper_by t k.level) v a x

  -- an expression in an assertion, and a list of them
  abbrev pub value_in : Within → Manner → Expr → Config → Going ℕ Config
  value_in k m e c = put_value k.blame c (evaluate t k.level (reading_of m) c.state e)

  abbrev pub list_in : Within → Manner → Exprs → Config → Going ℕ Config
  list_in k m es c = put_list k.blame c (evaluate_all t k.level (reading_of m) c.state es)

  -- a whole assertion, in the state as it is
  abbrev pub visiting : Within → Manner → Assertion → Config → Going ℕ Config
  visiting k (manner'.Take q) a c = with_taking c (λ h d. put_taking k.blame d (visit_by k (taking k (fraction q) d.state) a h))
  visiting k (manner'.Add q) a c = put_state k.blame c (visit_by k (adding k (fraction q)) a c.state)
  visiting k (manner'.GiveAgain q) a c = put_state k.blame c (visit_by k (giving_again k (fraction q) c) a c.state)
  visiting k (manner'.Give q) a c = put_state k.blame c (visit_by k (giving k (fraction q) c) a c.state)
  visiting k (manner'.Fill q n at) a c =
      with_taking c (λ h d. put_filling k.blame d (visit_by k (filling k (fraction q) n at d.state.store) a (record { heap = d.state.heap; totals = h })))

  -- a permission, whose location or instance is found
  abbrev pub doing : Within → Manner → Place → Resource × Fraction → Config → Going ℕ Config
  doing k (manner'.Take q) at part c = with_taking c (λ h d. put_taking k.blame d ((taking k (fraction q) d.state).part at part h))
  doing k (manner'.Add q) at part c = put_state k.blame c ((adding k (fraction q)).part at part c.state)
  doing k (manner'.GiveAgain q) at part c = put_state k.blame c ((giving_again k (fraction q) c).part at part c.state)
  doing k (manner'.Give q) at part c = put_state k.blame c ((giving k (fraction q) c).part at part c.state)
  doing k (manner'.Fill q n place) at part c =
      with_taking c (λ h d. put_filling k.blame d ((filling k (fraction q) n place d.state.store).part at part (record { heap = d.state.heap; totals = h })))

  -- the state, or a stop where it can't be
  abbrev pub possible_or_stop : Place → Config → State → Going ℕ State
  possible_or_stop at c s = require (is_possible t.program t.steps (around c.callers) s) (Stopped at) >>= λ _. gives s

  -- values are chosen for so much of what is in a predicate's body
  abbrev pub filling_body : Within → ℕ → Place → Predicate → Instance → Fraction → Config → Going ℕ Config
  filling_body k n at b i q c =
      with_taking c (λ h d. put_filling k.blame d (fill_body t.program by_draws within_128_bits (deeper_by t k.level) (fill t.program by_draws within_128_bits (deeper_by t k.level) n at) q b i b.body
      (record { heap = d.state.heap; totals = h })))

  -- so much is held, and values are chosen for what is newly held
  abbrev pub holding_now : Within → Place → Resource → Fraction → Holdings → Config → Going ℕ Config
  holding_now k at r b h c = put_state k.blame c (
      failing_as (Stopped at) (filled t.program by_draws within_128_bits (deeper_by t k.level) t.steps (around c.callers) k.level at r b
      (record { heap = c.state.heap; totals = written_all within_128_bits (all_held t.program t.steps (around c.callers) c.state) })) >>= λ w.
      possible_or_stop at c (with_holdings h (with_heap w.heap c.state)))

  abbrev pub act : Visit' → Config → Going ℕ Config
  act (visit'.Whole k m a) c = visiting k m (assertion a.now) c
  act (visit'.All k m at all) c = visiting k m (joined at (assertions all.now)) c
  act (visit'.Ask b m at) c = with_one c (λ v d. within b (asked_of m at (is_true v)) >>= λ _. gives d)
  act (visit'.Imply k m at a) c =
      with_one c (λ v d. within k.blame (side_of m at v) >>= λ b. when b (visiting k m (assertion a.now) d) (gives d))
  act (visit'.Choose k m at x y) c =
      with_one c (λ v d. within k.blame (side_of m at v) >>= λ b. when b (visiting k m (assertion x.now) d) (visiting k m (assertion y.now) d))
  act (visit'.Points k m at f) c = with_two c (λ v w d. within k.blame (field_of at (string_bytes f.now.value) v w) >>= λ part. doing k m at part d)
  act (visit'.Folded k m at i) c =
      with_one c (λ w d. with_list d (λ vs e. within k.blame (instance_of at (string_bytes i.now.value) vs w) >>= λ part. doing k m at part e))
  -- values are chosen for what is in an instance
  act (visit'.Fill k n at i q) c =
      with_taking c (λ h d. put_filling k.blame d (fill t.program by_draws within_128_bits (deeper_by t k.level) n at (instance i) (fraction q) (record { heap = d.state.heap; totals = h })))
  -- the values are chosen, and this is the state with the heap as it is now
  act (visit'.Given b at s) c =
      with_taking c (λ h d. put_state b d (possible_or_stop at d (with_heap d.state.heap (state_of s))))
