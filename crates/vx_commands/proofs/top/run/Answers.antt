use Rattle.std.proofs.Common.{inl, inr, refl}
use Rattle.vx_commands.proofs.Statuses.{promised}
use Rattle.vx_commands.proofs.top.run.Goals as goal

pub returns-in-Ok : goal.returns-in-Ok
returns-in-Ok g c = promised _ _ c.put.result c.answer.result c.answer.ensures (inr (c.in-Ok.output, c.in-Ok.ensures.due, c.put.ensures))

pub returns-in-Err : goal.returns-in-Err
returns-in-Err g c =
    promised _ _ c.without_memory.result c.answer.result c.answer.ensures (inl (record { status = c.without_memory.ensures.status; put = refl; none = c.without_memory.ensures.runs }))
