use Rattle.cs_commands.proofs.Alike.{understood_alike}
use Rattle.cs_commands.proofs.InOrder.{looked_up_in_order, understood_in_order}
use Rattle.cs_commands.proofs.laws.understood_in_any_order.Goals as goal

pub returns-clause-alike : goal.returns-clause-alike
returns-clause-alike c = understood_alike

pub returns-clause-looked_up : goal.returns-clause-looked_up
returns-clause-looked_up c = looked_up_in_order

pub returns-clause-turned : goal.returns-clause-turned
returns-clause-turned c = understood_in_order
