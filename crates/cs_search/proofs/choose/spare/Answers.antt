use Rattle.std.proofs.Common.{◌≡◌, ◌⊎◌, false}
use Rattle.cs_certificate.specs.declared.literal.Literal.{Literal}
use Rattle.cs_search.specs.Assignment.{BecameFalse}
use Rattle.cs_search.proofs.Added.{all_more, all_whole}
use Rattle.cs_search.proofs.choose.spare.Goals as goal

pub loop-literal-preserved : goal.loop-literal-preserved
loop-literal-preserved c =
    let d : Literal = record { positive = false; number = 0 } in
    let P : Literal → Type 0 = λ m. (m ≡ c.args.but) ⊎ BecameFalse c.args.values.now m in
    all_more P c.args.literals.now c.loop-literal.literal-index d c.loop-literal-test.true c.loop-literal.invariant (c.is_spare.ensures.no c.if-is_spare.false)

pub returns : goal.returns
returns c =
    let P : Literal → Type 0 = λ m. (m ≡ c.args.but) ⊎ BecameFalse c.args.values.now m in
    all_whole P c.args.literals.now c.loop-literal.literal-index c.loop-literal-test.false c.loop-literal.invariant
