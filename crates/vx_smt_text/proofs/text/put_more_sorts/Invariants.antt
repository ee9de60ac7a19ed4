use Rattle.std.proofs.Common.{◌≡◌, ◌++◌, drop, map}
use Rattle.vx_terms.specs.Views.{sort}
use Rattle.vx_smt_text.specs.Text.{more_sorts}
use Rattle.vx_smt_text.proofs.text.put_more_sorts.Given as goal

abbrev pub invariant-loop-a : goal.invariant-loop-a
invariant-loop-a l = l.text.items ++ more_sorts (map sort (drop l.a-index l.sorts)) ≡ l.fn.text.items ++ more_sorts (map sort l.sorts)
