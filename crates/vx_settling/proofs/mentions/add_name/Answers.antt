use Rattle.std.proofs.Common.{◌∙◌, sym, ap, string_bytes}
use Rattle.vx_settling.specs.Found.{found}
use Rattle.vx_settling.specs.Tables.{listed}
use Rattle.vx_settling.proofs.Additions.{found_with, found_without}
use Rattle.vx_settling.proofs.mentions.add_name.Goals as goal

pub returns-in-None : goal.returns-in-None
returns-in-None c = found_without (listed c.args.table.now) c.args.row.now.items (string_bytes c.args.name.now.value) (sym c.in-None.ensures)

pub returns-in_ok-push-in-Some : goal.returns-in_ok-push-in-Some
returns-in_ok-push-in-Some c = λ rest.
    ap (λ row. found (listed c.args.table.now) row rest) c.in_ok-push-in-Some.ensures.items
    ∙ found_with (listed c.args.table.now) c.args.row.now.items c.in-Some.member (string_bytes c.args.name.now.value) (sym c.in-Some.ensures) rest
