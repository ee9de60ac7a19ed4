-- What lies inside an instance, with its numbers as the code writes them.
use Rattle.std.specs.Prelude.{◌≡◌, ℕ, Bool, true, false, List, [], ◌∷◌, ◌++◌, map, Option, Some, None, option_map, option_and_then, Result, Ok, Err}
use Rattle.vx_ast.specs.Syntax.{Program, Expr, Exprs, Assertion}
use Rattle.vx_frac.specs.Fractions.{Fraction, lowest}
use Rattle.vx_meaning.specs.Values.{Value, BoolValue, RefValue}
use Rattle.vx_meaning.specs.States.{Store, Heap, Holdings, Resource, scaled}
use Rattle.vx_meaning.specs.Fits.{amount_of}
use Rattle.vx_meaning.specs.Evaluate as plain
use Rattle.vx_meaning.specs.Flatten.{bare, no_applications, entries, with_inner, within, flat}
use Rattle.vx_run.specs.Going.{Outcome, Supply, Wide}
use Rattle.vx_run.specs.Widths as widths
use Rattle.vx_run.specs.Widths.{within_128_bits, written_by}
use Rattle.vx_run.specs.Configs.{Config}

abbrev pub written : Value → Value
written v = written_by within_128_bits v

abbrev pub written_store : Store → Store
written_store [] = []
written_store (e ∷ rest) = (e.0, written e.1) ∷ written_store rest

-- the value of an expression that knows only variables and a heap, and those of a list of them
abbrev pub has_value : Program → Store → Heap → Expr → Option Value
has_value p x h e = option_map written (plain.value p no_applications (bare x h) e)

abbrev pub have_values : Program → Store → Heap → Exprs → Option (List Value)
have_values p x h es = option_map (map written) (plain.values p no_applications (bare x h) es)

-- what a value is, where it is of that type
abbrev pub as_truth : Value → Option Bool
as_truth (BoolValue b) = Some b
as_truth _ = None

abbrev pub as_reference : Value → Option ℕ
as_reference (RefValue r) = Some r
as_reference _ = None

-- the truth, the reference and the amount that such an expression has
abbrev pub has_truth : Program → Store → Heap → Expr → Option Bool
has_truth p x h e = option_and_then as_truth (plain.value p no_applications (bare x h) e)

abbrev pub has_reference : Program → Store → Heap → Expr → Option ℕ
has_reference p x h e = option_and_then as_reference (plain.value p no_applications (bare x h) e)

abbrev pub has_amount : Program → Store → Heap → Expr → Option Fraction
has_amount p x h e = option_map lowest (option_and_then amount_of (plain.value p no_applications (bare x h) e))

-- where an evaluation begins that knows only these
abbrev pub at_first : Store → Heap → Config
at_first x h = record { values = []; lists = []; state = bare x h; takings = []; callers = [] }

abbrev pub is_wide : Outcome → Bool
is_wide (Wide at op a b) = true
is_wide e = false

-- an evaluation came to this configuration, or to an end within 128 bits
abbrev pub Came : Bool → Config → Result (Config × Supply ℕ) Outcome → Type 0
Came true c r = (l : Supply ℕ) × (r ≡ Ok (c, l))
Came false c r = (e : Outcome) × (r ≡ Err e) × (is_wide e ≡ false)

-- an evaluation goes on to the same end, or comes to an end within 128 bits
abbrev pub GoesOn : Bool → (new old : Result (Config × Supply ℕ) Outcome) → Type 0
GoesOn true new old = new ≡ old
GoesOn false new old = (e : Outcome) × (old ≡ Err e) × (is_wide e ≡ false)

abbrev pub written_resource : Resource → Resource
written_resource r = widths.written_resource within_128_bits r

abbrev pub all_written : Holdings → Holdings
all_written h = widths.written_all within_128_bits h

-- what is left of flattening: so much of a part of a body with these variables, or of a location or an instance, in which so many instances may be within one another
pub data Inside : Type 0 where
  PartOf : ℕ → Fraction → Store → Assertion → Inside
  EntryOf : ℕ → Fraction → Resource → Inside

module _ (p : Program) (h : Heap) where
  abbrev pub inside : Inside → Option Holdings
  inside (PartOf n q x a) = option_and_then (λ es. Some (scaled q es)) (option_and_then (with_inner (flat p n h)) (entries p (bare x h) a))
  inside (EntryOf n q r) = option_and_then (λ es. Some ((r, q) ∷ es)) (within (flat p n h) r q)

-- one after the other
abbrev pub and_behind : Option Holdings → Option Holdings → Option Holdings
and_behind o r = option_and_then (λ xs. option_and_then (λ ys. Some (xs ++ ys)) r) o
