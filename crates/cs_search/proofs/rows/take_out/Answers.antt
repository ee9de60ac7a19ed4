use Rattle.std.proofs.Common.{arith, length, ap}
use Rattle.cs_search.proofs.Places.{row_there, row_read, taken_in}
use Rattle.cs_search.proofs.rows.take_out.Goals as goal

pub index_mut-requires : goal.index_mut-requires
index_mut-requires c = omega (arith, row_there c.args.rows.now.items c.args.at c.args.k c.requires, c.args.rows.now.ok.0)

pub leave_out-requires : goal.leave_out-requires
leave_out-requires c =
    let lt = row_there c.args.rows.now.items c.args.at c.args.k c.requires in
    let e = ap (λ x. length x) (row_read c.args.rows.now.items c.args.at c.index_mut.result.now lt c.index_mut.ensures.value) in
    omega (arith, e, c.requires)

pub returns : goal.returns
returns c =
    let lt = row_there c.args.rows.now.items c.args.at c.args.k c.requires in
    taken_in c.args.rows.now.items c.args.at c.args.k c.index_mut.result.now c.leave_out.new.list lt c.index_mut.ensures.value c.leave_out.ensures
