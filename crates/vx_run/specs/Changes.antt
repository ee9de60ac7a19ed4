-- What is still to be done to the state alone.
use Rattle.std.specs.Prelude.{ℕ, ◌∷◌}
use Rattle.vx_meaning.specs.States.{from_now, with_store, with_heap, with_holdings}
use Rattle.vx_run.specs.Going.{Going, gives}
use Rattle.vx_run.specs.Configs.{Config, resumed, in_state, with_takings, with_taking}
use Rattle.vx_run.specs.Stores.{store}
use Rattle.vx_run.specs.ConfigViews.{state_of}
use Rattle.vx_run.specs.declared.change.Change.{Change}
use Rattle.vx_run.specs.declared.change.Change.TheVariants as change'

abbrev pub act : Change → Config → Going ℕ Config
act (change'.Restore s) c = gives (in_state (state_of s) c)
act (change'.PutStore xs) c = gives (in_state (with_store (store xs.items) c.state) c)
act (change'.KeepHeap s) c = gives (in_state (with_heap c.state.heap (state_of s)) c)
act (change'.Resume w) c = gives (in_state (resumed (state_of w.state) c.state) c)
act change'.FromNow c = gives (in_state (from_now c.state) c)
act change'.StartTaking c = gives (with_takings (c.state.holdings ∷ c.takings) c)
act change'.DropTaking c = with_taking c (λ h d. gives d)
act change'.KeepTaking c = with_taking c (λ h d. gives (in_state (with_holdings h d.state) d))
