use Rattle.std.proofs.Common.{◌<◌, ◌≤◌, List, length, subst}
use Rattle.std.specs.List.{All}
use Rattle.std.proofs.lemmas.List.{take_all}
use Rattle.cs_linear.specs.declared.rows.Entry.{Entry}
use Rattle.cs_sums.proofs.columns.are_known.Goals as goal

pub returns : goal.returns
returns c =
    let P : List Entry → Type 0 = All (λ e. e.column < c.args.width) in
    let n : length c.args.entries.now ≤ c.loop-entry.entry-index = c.loop-entry-test.false in
    λ t. subst P (take_all c.loop-entry.entry-index c.args.entries.now n) c.loop-entry.invariant
