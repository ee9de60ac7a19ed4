use Rattle.std.proofs.Common.{◌≡◌, ◌⊎◌, ◌≤◌, false, length, refl}
use Rattle.cs_certificate.specs.declared.literal.Literal.{Literal}
use Rattle.cs_search.specs.Assignment.{FalseBefore}
use Rattle.cs_search.proofs.Added.{all_more, all_whole}
use Rattle.cs_search.proofs.analyse.leaves_only.Goals as goal

pub loop-literal-preserved : goal.loop-literal-preserved
loop-literal-preserved c =
    let P : Literal → Type 0 = λ m. (m ≡ c.args.one) ⊎ FalseBefore c.args.values.now c.args.start m in
    all_more P c.args.list.now c.loop-literal.literal-index record { positive = false; number = 0 } c.loop-literal-test.true c.loop-literal.invariant (c.is_left.ensures.0 c.if-not-is_left.false)

pub returns : goal.returns
returns c =
    let P : Literal → Type 0 = λ m. (m ≡ c.args.one) ⊎ FalseBefore c.args.values.now c.args.start m in
    let n : length c.args.list.now ≤ c.loop-literal.literal-index = c.loop-literal-test.false in
    ((λ t. all_whole P c.args.list.now c.loop-literal.literal-index n c.loop-literal.invariant), (λ h. refl))
