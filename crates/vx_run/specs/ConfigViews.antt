-- The states and configurations that the code's stand for.
use Rattle.std.specs.Prelude.{List, map, reverse}
use Rattle.vx_meaning.specs.Values.{Value}
use Rattle.vx_meaning.specs.States.{State}
use Rattle.vx_run.specs.Views.{value}
use Rattle.vx_run.specs.Stores.{store}
use Rattle.vx_run.specs.Held.{heap, entries}
use Rattle.vx_run.specs.Configs.{Caller, Config}
use Rattle.vx_run.specs.declared.values.Value.{Value as Value'}
use Rattle.vx_run.specs.declared.state.State.{State as State'}
use Rattle.vx_run.specs.declared.state.Caller.{Caller as Caller'}
use Rattle.vx_run.specs.declared.state.Config.{Config as Config'}

abbrev pub state_of : State' → State
state_of s = record {
  store = store s.store.items;
  heap = heap s.heap.value;
  holdings = entries s.holdings.entries.value;
  old_heap = heap s.old_heap.value;
  old_holdings = entries s.old_holdings.entries.value;
}

abbrev pub caller_of : Caller' → Caller
caller_of c = record { state = state_of c.state; left = entries c.left.entries.value }

-- values, the last first
abbrev pub newest : List Value' → List Value
newest vs = reverse (map value vs)

abbrev pub config_of : Config' → Config
config_of c = record {
  values = newest c.values.items;
  lists = reverse (map (λ vs. newest vs.items) c.lists.items);
  state = state_of c.state;
  takings = reverse (map (λ h. entries h.entries.value) c.takings.items);
  callers = reverse (map caller_of c.callers.items);
}
