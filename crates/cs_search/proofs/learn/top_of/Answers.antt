use Rattle.std.proofs.Common.{◌+◌, false, take, sym}
use Rattle.std.proofs.lemmas.List.{take_more}
use Rattle.cs_certificate.specs.declared.literal.Literal.{Literal}
use Rattle.cs_search.proofs.Tops.{top_at}
use Rattle.cs_search.proofs.learn.top_of.Goals as goal

pub loop-literal-preserved : goal.loop-literal-preserved
loop-literal-preserved c =
    let d : Literal = record { positive = false; number = 0 } in
    let k = c.loop-literal.literal-index in
    let list = c.args.literals.now in
    top_at c.args.made.now.values.items _ (take (k + 1) list) c.later-best.result (sym (take_more list k d c.loop-literal-test.true)) (c.later-best.ensures (take k list) c.loop-literal.invariant)
