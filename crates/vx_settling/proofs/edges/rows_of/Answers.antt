use Rattle.std.proofs.Common.{[], sym, ap, subst, map, length, arith, ◌≤◌, append-nil}
use Rattle.vx_settling.specs.Mentioned.{Tells}
use Rattle.vx_settling.specs.Tables.{listed}
use Rattle.vx_settling.proofs.Told.{past_all}
use Rattle.vx_resolved.specs.Resolved.{member}
use Rattle.vx_settling.proofs.edges.rows_of.Goals as goal

pub returns : goal.returns
returns c =
    let p = listed c.args.table.now in
    let all = c.args.table.now.program.now.members.items in
    let count = ap length c.deref-m-items.ensures.value in
    let past : length all ≤ c.loop-m.m-index = omega (arith, count, c.loop-m-test.false) in
    subst (λ rows. Tells p rows p) (append-nil c.loop-m.rows.items)
    (c.loop-m.invariant [] (subst (λ ms. Tells p [] (map member ms)) (sym (past_all all c.loop-m.m-index past)) tt))
