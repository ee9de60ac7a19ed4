-- Paths that are told by what is new of them.
use Rattle.std.specs.Prelude.{List, [], ◌++◌}
use Rattle.vx_segments.specs.Segments.{Entry}
use Rattle.vx_dialogue.specs.Scripts.{Scope, Outside, Inside, Left}
use Rattle.vx_dialogue.specs.declared.base.Base.{Base}
use Rattle.vx_dialogue.specs.declared.base.Base.TheVariants.{Nothing, Standing}

-- the path whose levels are open for the member
abbrev pub standing : Scope → List Entry
standing Outside = []
standing (Inside path) = path
standing (Left path) = []

-- the path of which these entries are given
abbrev pub path_behind : Base → Scope → List Entry → List Entry
path_behind Nothing scope es = es
path_behind Standing scope es = standing scope ++ es
