use Rattle.vx_amounts.proofs.Amounts.{Le, add-left, cancel-left}
use Rattle.vx_amounts.proofs.sums_keep_the_order.Goals as goal

pub returns-clause-keeps : goal.returns-clause-keeps
returns-clause-keeps c = λ a b c h. let le : Le a b = record { holds = h } in (add-left c le).holds

pub returns-clause-cancels : goal.returns-clause-cancels
returns-clause-cancels c = λ a b c h. (cancel-left {a = a} {b = b} c (record { holds = h })).holds
