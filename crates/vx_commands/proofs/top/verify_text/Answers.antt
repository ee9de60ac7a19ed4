use Rattle.std.proofs.Common.{inl, subst, rules}
use Rattle.vx_report.specs.declared.status.Status.TheVariants.{Refused}
use Rattle.vx_commands.specs.Texts.{SaysRefused}
use Rattle.vx_commands.specs.Steps.{IsParsedFrom}
use Rattle.vx_commands.proofs.Due.{is_text}
use Rattle.vx_commands.proofs.Untouched.{at_rest, neither_asked}
use Rattle.vx_commands.proofs.top.verify_text.Goals as goal

pub returns-in_err-program : goal.returns-in_err-program
returns-in_err-program g c = neither_asked _ (at_rest _ _) _ _ _ _ (search rules)

pub returns-in-Refused : goal.returns-in-Refused
returns-in-Refused g c =
    let refused = subst (IsParsedFrom c.args.text.now) c.in-Refused.is c.in_ok-program.ensures in
    let line = c.line.ensures in
    let text = is_text (SaysRefused c.args.text.now) c.line.result Refused _ line.status line.bytes line.none (inl refused) in
    neither_asked _ (at_rest _ _) _ _ _ _ (inl (text, at_rest _ _))
