use Rattle.std.proofs.Common.{◌≤◌, List, false, length, subst}
use Rattle.std.proofs.lemmas.List.{take_all}
use Rattle.std.proofs.lemmas.List.Elements.{All-more}
use Rattle.cs_certificate.specs.declared.literal.Literal.{Literal}
use Rattle.cs_search.specs.Assignment.{FalseBefore, IsFalse}
use Rattle.cs_decide.proofs.lemmas.are_false.Goals as goal

pub loop-literal-preserved : goal.loop-literal-preserved
loop-literal-preserved c =
    let P : Literal → Type 0 = FalseBefore c.args.made.now.values.items (length c.args.made.now.trail.items) in
    All-more P c.args.literals.now c.loop-literal.literal-index record { positive = false; number = 0 } c.loop-literal-test.true c.loop-literal.invariant (c.is_false.ensures c.if-not-is_false.false)

pub returns : goal.returns
returns c =
    let P : List Literal → Type 0 = IsFalse c.args.made.now.values.items (length c.args.made.now.trail.items) in
    let n : length c.args.literals.now ≤ c.loop-literal.literal-index = c.loop-literal-test.false in
    λ t. subst P (take_all c.loop-literal.literal-index c.args.literals.now n) c.loop-literal.invariant
