use Rattle.vx_tokens.specs.Text.{unmarked}
use Rattle.vx_tokens.proofs.Answer.{ok_scans, ok_only}
use Rattle.vx_tokens.proofs.lexed.lex.Goals as goal

pub returns-clause-scans : goal.returns-clause-scans
returns-clause-scans c = ok_scans c.unmarked.result.now (unmarked c.args.text.now) c.scanned.result c.unmarked.ensures.value c.scanned.ensures.scanned

pub returns-clause-only : goal.returns-clause-only
returns-clause-only c = ok_only c.unmarked.result.now (unmarked c.args.text.now) c.scanned.result c.unmarked.ensures.value c.scanned.ensures.scanned
