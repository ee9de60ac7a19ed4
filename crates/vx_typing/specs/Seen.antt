-- Uses without where they lie in memory.
use Rattle.std.specs.Prelude.{List, map}
use Rattle.vx_typing.specs.declared.uses.Named.{Named}
use Rattle.vx_typing.specs.Uses.{Use}

abbrev pub seen_use : Named → Use
seen_use u = record { place = u.place; name = u.name.now; unfolds = u.unfolds }

abbrev pub seen : List Named → List Use
seen us = map seen_use us
