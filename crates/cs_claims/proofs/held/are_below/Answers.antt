use Rattle.std.proofs.Common.{ℕ, ◌<◌, ◌≤◌, List, length, subst, arith}
use Rattle.std.specs.List.{All}
use Rattle.std.proofs.lemmas.List.{take_all}
use Rattle.std.proofs.lemmas.List.Elements.{All-more}
use Rattle.cs_claims.proofs.held.are_below.Goals as goal

pub loop-number-preserved : goal.loop-number-preserved
loop-number-preserved c =
    let P : ℕ → Type 0 = λ n. n < c.args.count in
    let no = c.if-number-count.false in
    All-more P c.args.numbers.now c.loop-number.number-index 0 c.loop-number-test.true c.loop-number.invariant (omega (arith, no))

pub returns : goal.returns
returns c =
    let P : List ℕ → Type 0 = All (λ n. n < c.args.count) in
    let n : length c.args.numbers.now ≤ c.loop-number.number-index = c.loop-number-test.false in
    λ t. subst P (take_all c.loop-number.number-index c.args.numbers.now n) c.loop-number.invariant
