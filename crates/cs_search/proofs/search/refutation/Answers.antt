use Rattle.std.proofs.Common.{List, length, sym, subst}
use Rattle.cs_certificate.specs.declared.literal.Clause.{Clause}
use Rattle.cs_search.specs.Extended.{IsConflict}
use Rattle.cs_search.proofs.search.refutation.Goals as goal

pub refute-requires-clause-conflict : goal.refute-requires-clause-conflict
refute-requires-clause-conflict c =
    let s = c.args.search.now in
    let P : List Clause → Type 0 = λ x. IsConflict x s.made.values.items (length s.made.trail.items) c.args.conflict in
    subst P (sym c.deref.ensures.value) c.requires.conflict
