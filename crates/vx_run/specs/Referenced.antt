-- References, part by part.
use Rattle.std.specs.Prelude.{ℕ, List, [], flat_map, map, reverse, ◌∷◌, if◌then◌else◌}
use Rattle.vx_frac.specs.Fractions.{is_positive}
use Rattle.vx_meaning.specs.States.{State, Holdings, Resource, amount}
use Rattle.vx_run.specs.Fresh.{in_resource, in_store, in_heap}
use Rattle.vx_run.specs.Configs.{Caller, around}
use Rattle.vx_run.specs.ConfigViews.{caller_of}
use Rattle.vx_run.specs.declared.state.Caller.{Caller as Caller'}

-- the callers of code, the newest first
abbrev pub waiting : List Caller' → List Caller
waiting ws = reverse (map caller_of ws)

-- in a resource, where something of it is held by all
abbrev pub of_one : Holdings → Resource → List ℕ
of_one all r = if is_positive (amount all r) then in_resource r else []

-- in a part of what is held by all
abbrev pub in_part : Holdings → Holdings → List ℕ
in_part all part = flat_map (λ e. of_one all e.0) part

-- in all stores, and in all heaps
abbrev pub in_stores : List Caller → State → List ℕ
in_stores cs s = flat_map in_store (s.store ∷ (around cs).stores)

abbrev pub in_heaps : List Caller → State → List ℕ
in_heaps cs s = flat_map in_heap (s.heap ∷ s.old_heap ∷ map (λ o. o.0) (around cs).olds)
