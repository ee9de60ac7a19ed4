-- The least reference above all that stand anywhere.
use Rattle.std.specs.Prelude.{ℕ, suc, List, [], ◌∷◌, ◌++◌, flat_map, map, nat_lt, if◌then◌else◌}
use Rattle.vx_frac.specs.Fractions.{is_positive}
use Rattle.vx_meaning.specs.Values.{Value, RefValue}
use Rattle.vx_meaning.specs.States.{State, Store, Heap, Holdings, Resource, At, Folded, amount}
use Rattle.vx_meaning.specs.Around.{Around}
use Rattle.vx_run.specs.Given.{held_by_all}

abbrev pub reference : Value → List ℕ
reference (RefValue r) = r ∷ []
reference _ = []

abbrev pub in_store : Store → List ℕ
in_store s = flat_map (λ e. reference e.1) s

abbrev pub in_heap : Heap → List ℕ
in_heap h = flat_map (λ e. e.0.receiver ∷ reference e.1) h

abbrev pub in_resource : Resource → List ℕ
in_resource (At l) = l.receiver ∷ []
in_resource (Folded i) = flat_map reference i.arguments

abbrev pub in_holdings : Holdings → List ℕ
in_holdings h = flat_map (λ e. if is_positive (amount h e.0) then in_resource e.0 else []) h

abbrev pub largest : List ℕ → ℕ
largest [] = 0
largest (r ∷ rs) = if nat_lt (largest rs) r then r else largest rs

-- in each store and heap, of those that wait too, and in what is held by anybody
abbrev pub references : Around → State → List ℕ
references a s =
    flat_map in_store (s.store ∷ a.stores) ++ flat_map in_heap (s.heap ∷ s.old_heap ∷ map (λ o. o.0) a.olds) ++ in_holdings (held_by_all a s)

abbrev pub fresh : Around → State → ℕ
fresh a s = suc (largest (references a s))
