-- Levels by how much stands on each, and all that stands on them.
use Rattle.std.specs.Prelude.{suc, List, [], ◌∷◌, take, drop}
use Rattle.vx_smt_meaning.specs.Commands.{Level}
use Rattle.cs_session.specs.declared.counts.Counts.{Counts}
use Rattle.cs_session.specs.declared.counts.Kind.{Kind}
use Rattle.cs_session.specs.declared.counts.Kind.TheVariants.{Sort, Symbol, Assertion}

abbrev pub with : Kind → Counts → Counts
with Sort c = record c { sorts = suc c.sorts }
with Symbol c = record c { symbols = suc c.symbols }
with Assertion c = record c { assertions = suc c.assertions }

-- one more on the newest level; what stands on the base level isn't counted
abbrev pub one_more : Kind → List Counts → List Counts
one_more k [] = []
one_more k (c ∷ cs) = with k c ∷ cs

-- the newest so many
abbrev pub newest : Counts → Level → Level
newest c all = record { sorts = take c.sorts all.sorts; symbols = take c.symbols all.symbols; assertions = take c.assertions all.assertions }

abbrev pub older : Counts → Level → Level
older c all = record { sorts = drop c.sorts all.sorts; symbols = drop c.symbols all.symbols; assertions = drop c.assertions all.assertions }

-- the newest level holds the newest of all, and the base level all that no other one holds
abbrev pub spread : List Counts → Level → List Level
spread [] all = all ∷ []
spread (c ∷ cs) all = newest c all ∷ spread cs (older c all)
