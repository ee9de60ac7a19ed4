-- Draws from a seed, and where a run's values come from.
use Rattle.std.specs.Prelude.{ℕ, ◌+◌, ◌*◌, ◌^◌, ◌%◌, ◌/◌, nat_eq, pos, ◌-ℤ◌, List, [], ◌∷◌, Option, Some, None}
use Rattle.vx_ast.specs.declared.ValueType.{ValueType}
use Rattle.vx_ast.specs.declared.ValueType.TheVariants as type
use Rattle.vx_frac.specs.Fractions.{over, lowest}
use Rattle.vx_meaning.specs.Values.{Value, IntValue, BoolValue, RefValue, PermValue}

-- the next state of the draws
abbrev pub turned : ℕ → ℕ
turned s = (s * 6364136223846793005 + 1442695040888963407) % (2 ^ 64)

-- a number below k, from a state
abbrev pub below : ℕ → ℕ → ℕ
below k s = (s / (2 ^ 33)) % k

abbrev pub drawn_value : ValueType → ℕ → Value
drawn_value type.Int s = IntValue (pos (below 17 s) -ℤ pos 8)
drawn_value type.Bool s = BoolValue (nat_eq (below 2 s) 1)
drawn_value type.Ref s = RefValue (below 5 s)
drawn_value type.Perm s = PermValue (lowest (over (below 5 s) 4))

-- a source of values: a value of a type, and the source after it; none where no choice is left
pub record Choosing (S : Type 0) : Type 0 where
  pub choose : ValueType → S → Option (Value × S)

-- each draw turns the state, and is made from the new one
abbrev pub by_draws : Choosing ℕ
by_draws = record { choose = λ t s. Some (drawn_value t (turned s), turned s) }

-- a list of choices
abbrev pub by_list : Choosing (List Value)
by_list = record { choose = λ t vs. first vs } where
  first : List Value → Option (Value × List Value)
  first [] = None
  first (v ∷ vs) = Some (v, vs)
