-- How serving ends: the status, and what is put behind the answers.
use Rattle.std.specs.Prelude.{ℕ, List, [], codes}
use Rattle.cs_serve.specs.declared.ending.Ending.{Ending}
use Rattle.cs_serve.specs.declared.ending.Ending.TheVariants.{Exited, Exhausted, BadToken, Unfinished, SourceFailed, TooLong, SinkFailed, Want}

abbrev pub status : Ending → ℕ
status Exited = 0
status Exhausted = 0
status BadToken = 1
status Unfinished = 1
status SourceFailed = 3
status TooLong = 4
status SinkFailed = 6
status Want = 7

abbrev pub farewell : Ending → List ℕ
farewell Exited = []
farewell Exhausted = []
farewell BadToken = codes "(error \"S2\")\n"
farewell Unfinished = codes "(error \"S1\")\n"
farewell SourceFailed = []
farewell TooLong = []
farewell SinkFailed = []
farewell Want = []
