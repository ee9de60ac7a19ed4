use Rattle.std.proofs.Common.{[], ◌∷◌}
use Rattle.std.proofs.lemmas.Result.{IfOk-weaker}
use Rattle.cs_linear.specs.declared.rows.Entry.{Entry}
use Rattle.cs_sums.specs.Parts.{AreParts, IsAlone}
use Rattle.cs_sums.proofs.Alone.{alone}
use Rattle.cs_sums.proofs.values.alone.Goals as goal

pub returns : goal.returns
returns c =
    let columns = c.args.columns.now.columns.items in
    let entry : Entry = record { column = c.args.column; factor = c.whole.result } in
    IfOk-weaker c.parts_of.result (λ parts. AreParts columns (entry ∷ []) parts.items) (λ parts. IsAlone columns c.args.column parts.items)
    (λ parts are. alone columns entry parts.items c.whole.ensures are) c.parts_of.ensures
