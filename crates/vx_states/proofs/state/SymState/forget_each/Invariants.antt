use Rattle.std.proofs.Common.{◌≡◌, ◌++◌, List, drop}
use Rattle.vx_ast.specs.Syntax.{Name}
use Rattle.vx_resolved.specs.Resolved.{names_of}
use Rattle.vx_rules.specs.Members.{forget}
use Rattle.vx_states.specs.SymStates.{state}
use Rattle.vx_states.proofs.state.SymState.forget_each.Given as goal

abbrev pub invariant-loop-name : goal.invariant-loop-name
invariant-loop-name l =
    (rest : List Name) → forget (names_of l.done.items) (names_of (drop l.name-index l.those) ++ rest) (state l.self) ≡ forget (names_of l.initial.done.items) (names_of l.those ++ rest) (state l.initial.self)
