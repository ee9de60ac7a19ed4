use Rattle.std.proofs.Common.{[], ◌∙◌, ◌++◌, ap}
use Rattle.vx_settling.specs.Found.{found}
use Rattle.vx_settling.specs.Mentioned.{names_by_kind}
use Rattle.vx_settling.specs.Tables.{listed}
use Rattle.vx_resolved.specs.Resolved.{kind}
use Rattle.vx_settling.proofs.Additions.{all_found}
use Rattle.vx_settling.proofs.edges.row_of.Goals as goal

pub returns : goal.returns
returns c =
    let p = listed c.args.table.now in
    let names = names_by_kind (kind c.args.kind.now) in
    all_found p c.add_kind.new.row.items names (c.in_ok-add_kind.ensures [] ∙ ap (λ row. found p row (names ++ [])) c.new-row.ensures.items)
