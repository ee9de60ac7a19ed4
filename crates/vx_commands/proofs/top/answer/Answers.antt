use Rattle.std.proofs.Common.{refl, rules}
use Rattle.std.proofs.lemmas.Result.{IfOk-weaker}
use Rattle.vx_words.specs.Orders.{order_of}
use Rattle.vx_commands.proofs.Due.{usage_due}
use Rattle.vx_commands.proofs.Untouched.{at_rest, untouched, for_words}
use Rattle.vx_commands.proofs.top.answer.Goals as goal

pub returns-in-Ok : goal.returns-in-Ok
returns-in-Ok g c = for_words _ _ _ (order_of c.args.words.now) c.in-Ok.order c.in-Ok.ensures.meaning c.obey.ensures

pub returns-in-Err-Usage : goal.returns-in-Err-Usage
returns-in-Err-Usage g c =
    untouched _ (at_rest _ _) (order_of c.args.words.now) _ c.said.result refl
    (IfOk-weaker c.said.result _ _ (λ output h. usage_due (order_of c.args.words.now) _ _ output (search rules) (at_rest _ _) h) c.said.ensures)

pub returns-in-Err-Want : goal.returns-in-Err-Want
returns-in-Err-Want g c = untouched _ (at_rest _ _) _ _ _ refl (search rules)
