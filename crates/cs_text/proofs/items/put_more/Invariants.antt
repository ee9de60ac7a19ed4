use Rattle.std.proofs.Common.{◌≡◌, ◌++◌, map, drop}
use Rattle.cs_text.specs.Text.{behind}
use Rattle.cs_text.proofs.items.put_more.Given as goal

abbrev pub invariant-loop-item : goal.invariant-loop-item
invariant-loop-item g l = l.text.items ++ behind (map g.T.Item.written (drop l.item-index l.items)) ≡ l.fn.text.items ++ behind (map g.T.Item.written l.items)
