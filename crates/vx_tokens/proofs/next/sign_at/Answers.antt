use Rattle.vx_tokens.proofs.Signs.{sign_long, sign_short}
use Rattle.vx_tokens.proofs.next.sign_at.Goals as goal

pub returns-in-Some : goal.returns-in-Some
returns-in-Some c = sign_long c.in-Some.sign c.args.bytes.now c.in-Some.ensures

pub returns-in-None : goal.returns-in-None
returns-in-None c = sign_short c.short_sign_at.result c.args.bytes.now c.in-None.ensures c.short_sign_at.ensures
