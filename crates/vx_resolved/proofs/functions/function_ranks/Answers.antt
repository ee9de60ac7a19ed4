use Rattle.std.proofs.Common.{◌∙◌, ◌++◌, ◌+◌, ap, map, drop}
use Rattle.vx_rules.specs.Groups.{is_function}
use Rattle.vx_resolved.specs.Resolved.{kind, member}
use Rattle.vx_resolved.specs.Numbers.{ranks_from}
use Rattle.vx_resolved.proofs.Tables.{ranked_step, one_at_most}
use Rattle.vx_resolved.proofs.functions.function_ranks.Goals as goal

pub loop-m-preserved : goal.loop-m-preserved
loop-m-preserved c = record {
  few = one_at_most (is_function (kind c.m-item.result.kind)) c.loop-m.before c.functions_in-before.result c.loop-m.m-index c.functions_in-before.ensures c.loop-m.invariant.few;
  ranks =
      ap (λ xs. xs ++ ranks_from (c.loop-m.before + c.functions_in-before.result) (map member (drop (c.loop-m.m-index + 1) c.args.all.now))) c.in_ok-push.ensures.items
      ∙ ranked_step c.loop-m.ranks.items (ranks_from 0 (map member c.args.all.now)) c.loop-m.before c.functions_in-before.result c.loop-m.m-index c.args.all.now c.m-item.result c.loop-m-test.true c.m-item.is c.functions_in-before.ensures c.loop-m.invariant.ranks;
}
