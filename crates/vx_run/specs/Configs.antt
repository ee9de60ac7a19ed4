-- Where a run is: the values that were found, the state, and who waits.
use Rattle.std.specs.Prelude.{ℕ, List, [], ◌∷◌}
use Rattle.vx_ast.specs.Syntax.{Program}
use Rattle.vx_meaning.specs.Values.{Value}
use Rattle.vx_meaning.specs.States.{State, Holdings}
use Rattle.vx_meaning.specs.Flatten.{bare}
use Rattle.vx_meaning.specs.Around.{Around, nobody, waits}
use Rattle.vx_run.specs.Going.{Going, ◌>>=◌, gives, ends_with, Running}
use Rattle.vx_run.specs.Given.{Filling}
use Rattle.vx_run.specs.Blame.{within}
use Rattle.vx_run.specs.declared.blame.Blame.{Blame}

-- what a run rests on: its program, and its steps
pub record Setting : Type 0 where
  pub program : Program
  pub steps : ℕ

-- a caller that waits: its state at the call, and what the precondition left of its holdings
pub record Caller : Type 0 where
  pub state : State
  pub left : Holdings

-- of each list the newest first
pub record Config : Type 0 where
  pub values : List Value
  -- the arguments that were found, of each list that isn't used yet
  pub lists : List (List Value)
  pub state : State
  -- what still remains of each taking, and the totals of each filling
  pub takings : List Holdings
  pub callers : List Caller

abbrev pub around : List Caller → Around
around [] = nobody
around (c ∷ cs) = waits c.state c.left (around cs)

abbrev pub with_values : List Value → Config → Config
with_values vs c = record c { values = vs }

abbrev pub with_lists : List (List Value) → Config → Config
with_lists vss c = record c { lists = vss }

abbrev pub in_state : State → Config → Config
in_state s c = record c { state = s }

-- back to a state, but for the heap and what is held
abbrev pub resumed : State → State → State
resumed s now = record { store = s.store; heap = now.heap; holdings = now.holdings; old_heap = s.old_heap; old_holdings = s.old_holdings }

abbrev pub with_takings : List Holdings → Config → Config
with_takings hs c = record c { takings = hs }

abbrev pub with_callers : List Caller → Config → Config
with_callers cs c = record c { callers = cs }

-- Goes on with what is newest, which is there.

abbrev pub newest_of : {A : Type 0} → List A → (A → List A → Going ℕ Config) → Going ℕ Config
newest_of [] f = ends_with Running
newest_of (a ∷ as') f = f a as'

abbrev pub with_one : Config → (Value → Config → Going ℕ Config) → Going ℕ Config
with_one c f = newest_of c.values (λ v vs. f v (with_values vs c))

-- the second before the newest
abbrev pub with_two : Config → (Value → Value → Config → Going ℕ Config) → Going ℕ Config
with_two c f = with_one c (λ w d. with_one d (λ v. f v w))

abbrev pub with_list : Config → (List Value → Config → Going ℕ Config) → Going ℕ Config
with_list c f = newest_of c.lists (λ vs vss. f vs (with_lists vss c))

abbrev pub with_taking : Config → (Holdings → Config → Going ℕ Config) → Going ℕ Config
with_taking c f = newest_of c.takings (λ h hs. f h (with_takings hs c))

-- What something within another comes to is put on what was found.

abbrev pub put_value : Blame → Config → Going ℕ Value → Going ℕ Config
put_value b c m = within b m >>= λ v. gives (with_values (v ∷ c.values) c)

abbrev pub put_list : Blame → Config → Going ℕ (List Value) → Going ℕ Config
put_list b c m = within b m >>= λ vs. gives (with_lists (vs ∷ c.lists) c)

abbrev pub put_state : Blame → Config → Going ℕ State → Going ℕ Config
put_state b c m = within b m >>= λ s. gives (in_state s c)

abbrev pub put_taking : Blame → Config → Going ℕ Holdings → Going ℕ Config
put_taking b c m = within b m >>= λ h. gives (with_takings (h ∷ c.takings) c)

-- while values are chosen for an instance the state is that of its body, and the totals are the newest taking
abbrev pub put_filling : Blame → Config → Going ℕ Filling → Going ℕ Config
put_filling b c m = within b m >>= λ w. gives (with_takings (w.totals ∷ c.takings) (in_state (bare c.state.store w.heap) c))
