use Rattle.std.proofs.Common.{ℕ, Option, IfNone, length, subst, sym}
use Rattle.cs_search.specs.declared.search.Search.{Search}
use Rattle.cs_search.specs.Extended.{AreClosed}
use Rattle.cs_decide.proofs.turns.descend.Goals as goal

abbrev IsClosed : Search → Type 0
IsClosed s = AreClosed s.clauses.items s.made.values.items (length s.made.trail.items) (length s.clauses.items)

pub decide-requires-clause-closed : goal.decide-requires-clause-closed
decide-requires-clause-closed c =
    let spread : IsClosed c.spread.new.search = subst (λ (o : Option ℕ). IfNone o (IsClosed c.spread.new.search)) c.in_default.is c.in_ok-conflict.ensures.closed in
    subst IsClosed (sym c.in_ok-aim.ensures.same) spread
