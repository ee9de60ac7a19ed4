-- What trees tell of values and of states.
use Rattle.std.specs.Prelude.{◌≡◌, ℕ, true, List, Some}
use Rattle.vx_frac.specs.Fractions.{is_positive}
use Rattle.vx_ast.specs.Syntax.{Name, Program, Function, Assertion, joined}
use Rattle.vx_meaning.specs.Values.{Value}
use Rattle.vx_meaning.specs.States.{State, Holdings, Location, Instance, Folded, amount, value_at}
use Rattle.vx_meaning.specs.Evaluate.{applications}
use Rattle.vx_meaning.specs.Flatten.{flat}
use Rattle.vx_meaning.specs.Consistent.{IsHeld}
use Rattle.vx_sound.specs.Snapshots.{leaf}

-- the same as a leaf tells it: all of a value but how a fraction is written
abbrev pub LooksLike : Value → Value → Type 0
LooksLike v w = leaf v ≡ leaf w

-- t has the variables of s, and is like it in what s holds, directly and folded
pub record IsLike (p : Program) (s t : State) : Type 0 where
  pub store : t.store ≡ s.store
  pub heap : (l : Location) → IsHeld p s.heap s.holdings l → LooksLike (value_at p s.heap l) (value_at p t.heap l)
  pub folded : (i : Instance) (n : ℕ) (x : Holdings) → is_positive (amount s.holdings (Folded i)) ≡ true → flat p n s.heap i ≡ Some x → flat p n t.heap i ≡ Some x

-- what a function asks for
abbrev pub precondition_of : Function → Assertion
precondition_of g = joined g.place g.requires

-- the value of a function at its arguments, in a state
abbrev pub IsValueOf : Program → Name → List Value → State → Value → Type 0
IsValueOf p f vs s v = (n : ℕ) × (applications p n f vs s ≡ Some v)
