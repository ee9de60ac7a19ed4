use Rattle.std.proofs.Common.{◌+◌, false, take, sym}
use Rattle.std.proofs.lemmas.List.{take_more, take_all}
use Rattle.cs_certificate.specs.declared.literal.Literal.{Literal}
use Rattle.cs_search.proofs.Choices.{last_at}
use Rattle.cs_search.proofs.choose.last_false.Goals as goal

pub loop-literal-preserved : goal.loop-literal-preserved
loop-literal-preserved c =
    let d : Literal = record { positive = false; number = 0 } in
    let k = c.loop-literal.literal-index in
    let list = c.args.literals.now in
    last_at c.args.values.now _ (take (k + 1) list) c.args.but c.last_with-last.result (sym (take_more list k d c.loop-literal-test.true)) (c.last_with-last.ensures (take k list) c.loop-literal.invariant)

pub last_with-last-requires : goal.last_with-last-requires
last_with-last-requires c =
    let d : Literal = record { positive = false; number = 0 } in
    c.requires c.loop-literal.literal-index d c.loop-literal-test.true

pub returns : goal.returns
returns c = last_at c.args.values.now _ c.args.literals.now c.args.but c.loop-literal.last (take_all c.loop-literal.literal-index c.args.literals.now c.loop-literal-test.false) c.loop-literal.invariant
