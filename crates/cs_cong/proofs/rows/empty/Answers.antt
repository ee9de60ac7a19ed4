use Rattle.std.proofs.Common.{◌∙◌, ap, length, ◌+◌}
use Rattle.std.proofs.lemmas.List.{length-append}
use Rattle.cs_cong.specs.Rows.{row}
use Rattle.cs_cong.proofs.Written.{row_pushed}
use Rattle.cs_cong.proofs.rows.empty.Goals as goal

pub loop-preserved : goal.loop-preserved
loop-preserved c =
    let items = c.in_ok-push.ensures.items in
    record {
      count = ap (λ xs. length xs) items ∙ length-append c.loop.rows.items _ ∙ ap (λ n. n + 1) c.loop.invariant.count;
      empty = λ s. ap (λ rs. row rs s) items ∙ row_pushed c.loop.rows.items c.new.result c.new.ensures.items c.loop.invariant.empty s;
    }
