use Rattle.std.proofs.Common.{◌∙◌, ◌<◌, ◌^◌, sym, subst}
use Rattle.std.proofs.lemmas.List.{length-map}
use Rattle.vx_settling.specs.Mentioned.{AreMentions}
use Rattle.vx_settling.specs.Tables.{listed}
use Rattle.vx_settling.proofs.Told.{all_told, in_range}
use Rattle.vx_resolved.specs.Resolved.{member}
use Rattle.vx_settling.proofs.edges.edges_of.Goals as goal

pub of-requires-clause-few : goal.of-requires-clause-few
of-requires-clause-few c =
    let told = all_told (listed c.args.table.now) c.in_ok-rows.rows.items c.in_ok-rows.ensures in
    subst (λ n. n < 2 ^ 32) (sym (told.members ∙ length-map c.args.table.now.program.now.members.items member)) c.args.table.now.few

pub of-requires-clause-within : goal.of-requires-clause-within
of-requires-clause-within c =
    in_range (listed c.args.table.now) c.in_ok-rows.rows.items (all_told (listed c.args.table.now) c.in_ok-rows.rows.items c.in_ok-rows.ensures)

pub returns : goal.returns
returns c = subst (AreMentions (listed c.args.table.now)) (sym c.in_ok-edges.ensures) (all_told (listed c.args.table.now) c.in_ok-rows.rows.items c.in_ok-rows.ensures)
