-- How far decisions have led.
use Rattle.std.specs.Prelude.{⊤, length}
use Rattle.cs_search.specs.declared.search.Search.{Search}
use Rattle.cs_search.specs.Extended.{IsConflict}
use Rattle.cs_search.specs.Search.{AreSatisfied}
use Rattle.cs_decide.specs.declared.turns.Reached.{Reached}
use Rattle.cs_decide.specs.declared.turns.Reached.TheVariants as reached

-- a false clause, or each clause is satisfied
abbrev pub IsReached : Search → Reached → Type 0
IsReached s (reached.Conflict i) = IsConflict s.clauses.items s.made.values.items (length s.made.trail.items) i
IsReached s (reached.Broken claim) = ⊤
IsReached s reached.Whole = AreSatisfied s.clauses.items s.made.values.items
