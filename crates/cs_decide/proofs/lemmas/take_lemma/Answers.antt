use Rattle.std.proofs.Common.{List, length, subst}
use Rattle.cs_certificate.specs.declared.literal.Literal.{Literal}
use Rattle.cs_search.specs.Assignment.{IsFalse}
use Rattle.cs_decide.proofs.lemmas.take_lemma.Goals as goal

pub learn-requires-clause-all_false : goal.learn-requires-clause-all_false
learn-requires-clause-all_false c =
    let made = c.args.search.now.made in
    let P : List Literal → Type 0 = IsFalse made.values.items (length made.trail.items) in
    subst P c.deref-3.ensures.value (c.are_false.ensures c.if-not-are_false.false)
