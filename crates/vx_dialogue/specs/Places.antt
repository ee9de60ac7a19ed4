-- Where a dialogue stands, in code.
use Rattle.std.specs.Prelude.{⊤, List}
use Rattle.vx_segments.specs.Segments.{Entry}
use Rattle.vx_dialogue.specs.Scripts.{Scope, Outside, Inside, Left}
use Rattle.vx_dialogue.specs.Standing.{path_of, IsSound}
use Rattle.vx_dialogue.specs.declared.standing.Standing.{Standing}
use Rattle.vx_dialogue.specs.declared.scope.Place.{Place}
use Rattle.vx_dialogue.specs.declared.scope.Place.TheVariants as place
use Rattle.vx_dialogue.specs.declared.scope.Levels.{Levels}

abbrev pub scope_at : Place → List Entry → Scope
scope_at place.Outside path = Outside
scope_at place.Inside path = Inside path
scope_at place.Left path = Left path

abbrev pub scope : Levels → Scope
scope l = scope_at l.place (path_of l.standing)

-- outside of members nothing is asked of what stands there
abbrev pub IsSoundAt : Place → Standing → Type 0
IsSoundAt place.Outside s = ⊤
IsSoundAt place.Inside s = IsSound s
IsSoundAt place.Left s = IsSound s

-- a question may come next
abbrev pub IsReady : Levels → Type 0
IsReady l = IsSoundAt l.place l.standing
