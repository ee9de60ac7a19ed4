use Rattle.std.proofs.Common.{refl, rules}
use Rattle.vx_commands.proofs.Untouched.{unasked}
use Rattle.vx_commands.proofs.generated.work.Goals as goal

pub returns-in_err-text : goal.returns-in_err-text
returns-in_err-text c = unasked _ _ _ _ _ refl (search rules)

pub returns-in_err-program : goal.returns-in_err-program
returns-in_err-program c = unasked _ _ _ _ _ refl (search rules)

pub returns-in_err-typed : goal.returns-in_err-typed
returns-in_err-typed c = unasked _ _ _ _ _ refl (search rules)
