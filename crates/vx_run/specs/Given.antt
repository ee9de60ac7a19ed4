-- What is given: values are chosen for what is newly held, and the state has to be possible.
use Rattle.std.specs.Prelude.{ℕ, zero, suc, Bool, true, false, ◌&&◌, not, ◌∷◌, ◌++◌, Option, Some, None, is_some, if◌then◌else◌}
use Rattle.std.specs.List.{list_all}
use Rattle.vx_ast.specs.declared.Place.{Place}
use Rattle.vx_ast.specs.Syntax.{Program, Predicate, predicate_named, Assertion}
use Rattle.vx_frac.specs.Fractions.{Fraction, none, full, is_positive, at_most}
use Rattle.vx_meaning.specs.Values.{is_true}
use Rattle.vx_meaning.specs.States.{State, Store, Heap, Holdings, Location, Instance, Resource, At, Folded, amount, bind, field_type, with_heap, with_holdings}
use Rattle.vx_meaning.specs.Flatten.{bare, flat}
use Rattle.vx_meaning.specs.Consistent.{spread}
use Rattle.vx_meaning.specs.Around.{Around}
use Rattle.vx_run.specs.Draws.{Choosing}
use Rattle.vx_run.specs.Going.{Going, ◌>>=◌, gives, ends_with, when, require, expect, failing_as, step, chosen, Failed, Stopped, Running}
use Rattle.vx_run.specs.Widths.{Width, written_all, times, more}
use Rattle.vx_run.specs.Evaluated.{Deeper, Permitted, Free, Visit, decided, visit}

-- the most that can be held of a location: nothing of null
abbrev pub most_of : Location → Fraction
most_of l = of l.receiver where
  of : ℕ → Fraction
  of zero = none
  of (suc r) = full

-- what is held by the method that runs and by all that wait for it
abbrev pub held_by_all : Around → State → Holdings
held_by_all a s = a.holdings ++ s.holdings

-- no more is held of a location than can be
abbrev pub bounded : Holdings → Resource → Bool
bounded all (At l) = at_most (amount all (At l)) (most_of l)
bounded all (Folded i) = true

module _ (p : Program) (depth : ℕ) where
  -- with all that is inside it; no instance that is held is deeper than this
  abbrev pub all_held : Around → State → Holdings
  all_held a s = spread p depth s.heap (held_by_all a s)

  -- an instance that is held comes to an end
  abbrev pub grounded : Heap → Holdings → Resource → Bool
  grounded h held (At l) = true
  grounded h held (Folded i) = if is_positive (amount held (Folded i)) then is_some (flat p depth h i) else true

  -- of no location is more held than can be, and each instance that is held comes to an end
  abbrev pub is_possible : Around → State → Bool
  is_possible a s = list_all (λ e. bounded (all_held a s) e.0) (all_held a s) && list_all (λ e. grounded s.heap (held_by_all a s) e.0) (held_by_all a s)

-- while values are chosen: the heap, and what is held of each location in all
pub record Filling : Type 0 where
  pub heap : Heap
  pub totals : Holdings

module _ {S : Type 0} (p : Program) (c : Choosing S) (width : Width) where
  -- a location that was held by nobody gets a value
  abbrev pub valued : Bool → Location → Heap → Going S Heap
  valued true l h = chosen c (field_type p l.field) >>= λ v. gives ((l, v) ∷ h)
  valued false l h = gives h

  -- q more of a location
  abbrev pub fill_location : Place → Location → Fraction → Filling → Going S Filling
  fill_location at l q w =
      more width at (At l) q w.totals >>= λ totals. require (at_most (amount totals (At l)) (most_of l)) (Failed at) >>= λ _.
      valued (is_positive q && not (is_positive (amount w.totals (At l)))) l w.heap >>= λ h. gives record { heap = h; totals = totals }

  -- q of what is in a body with these variables, read left to right in the heap as it then is
  abbrev pub to_fill : (Instance → Fraction → Filling → Going S Filling) → Fraction → Store → Visit S Filling
  to_fill inside q x = record {
    reading = Free;
    state = λ u. bare x u.heap;
    pure = λ at t. require t (Failed at);
    side = decided;
    part = λ at part u. times width at q part.1 >>= λ r. one at part.0 r u;
  } where
    one : Place → Resource → Fraction → Filling → Going S Filling
    one at (At l) r u = fill_location at l r u
    one at (Folded j) r u = inside j r u

  abbrev pub fill_body : Deeper S → (Instance → Fraction → Filling → Going S Filling) → Fraction → Predicate → Instance → Option Assertion → Filling → Going S Filling
  fill_body d inside q b i None w = gives w
  fill_body d inside q b i (Some e) w = visit p width d (to_fill inside q (bind b.parameters i.arguments)) e w

  -- q of an instance with all that is in it, a step for each
  abbrev pub fill : Deeper S → ℕ → Place → Instance → Fraction → Filling → Going S Filling
  fill d zero at i q w = ends_with Running
  fill d (suc n) at i q w = step >>= λ _. expect (predicate_named p i.predicate) (Failed at) >>= λ b. fill_body d (fill d n at) q b i b.body w

  module _ (d : Deeper S) (depth : ℕ) (a : Around) where
    -- the state, or a stop where it can't be
    abbrev pub if_possible : Place → State → Going S State
    if_possible at s = require (is_possible p depth a s) (Stopped at) >>= λ _. gives s

    -- q of an assertion is given, and no value is chosen: what was held throughout
    abbrev pub to_give_again : Fraction → Visit S State
    to_give_again q = record {
      reading = Permitted;
      state = λ s. s;
      pure = λ at b. require b (Stopped at);
      side = λ at v. gives (is_true v);
      part = λ at part s. times width at q part.1 >>= λ b. more width at part.0 b s.holdings >>= λ h. if_possible at (with_holdings h s);
    }

    abbrev pub give_again : Fraction → Assertion → State → Going S State
    give_again q = visit p width d (to_give_again q)

    -- the heap where q of a location or of an instance is newly held
    abbrev pub filled : ℕ → Place → Resource → Fraction → Filling → Going S Filling
    filled n at (At l) q w = fill_location at l q w
    filled n at (Folded i) q w = when (is_positive q) (fill d n at i q w) (gives w)

    -- q of an assertion is given, with values chosen
    abbrev pub to_give : ℕ → Fraction → Visit S State
    to_give n q = record {
      reading = Permitted;
      state = λ s. s;
      pure = λ at b. require b (Stopped at);
      side = λ at v. gives (is_true v);
      part = λ at part s.
          times width at q part.1 >>= λ b. more width at part.0 b s.holdings >>= λ h.
          failing_as (Stopped at) (filled n at part.0 b record { heap = s.heap; totals = written_all width (all_held p depth a s) }) >>= λ w.
          if_possible at (with_holdings h (with_heap w.heap s));
    }

    abbrev pub give : ℕ → Fraction → Assertion → State → Going S State
    give n q = visit p width d (to_give n q)
