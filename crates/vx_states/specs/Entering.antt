-- Back from the part of another member.
use Rattle.std.specs.Prelude.{map}
use Rattle.vx_rules.specs.States.{State}
use Rattle.vx_states.specs.declared.entering.Caller.{Caller}
use Rattle.vx_states.specs.SymStates.{binding}

-- a state with the variables, the place and the mark of this one
abbrev pub back_to : Caller → State → State
back_to c s = record s { store = map binding c.store.items; at = c.at; inner = c.is_inner }
