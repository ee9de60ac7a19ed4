use Rattle.std.proofs.Common.{inl, inr, ◌∙◌, subst, rules}
use Rattle.vx_ast.specs.Written.{written_program}
use Rattle.vx_report.specs.declared.status.Status.TheVariants.{Refused}
use Rattle.vx_commands.specs.Texts.{SaysRefused}
use Rattle.vx_commands.specs.Steps.{IsCheckedFrom}
use Rattle.vx_commands.proofs.Due.{is_text}
use Rattle.vx_commands.proofs.Untouched.{at_rest, neither_asked}
use Rattle.vx_commands.proofs.top.verify_program.Goals as goal

pub returns-in_err-typed : goal.returns-in_err-typed
returns-in_err-typed g c = neither_asked _ (at_rest _ _) _ _ _ _ (search rules)

pub returns-in-Refused : goal.returns-in-Refused
returns-in-Refused g c =
    let p = written_program c.args.program.now in
    let refused = subst (IsCheckedFrom p) c.in-Refused.is c.in_ok-typed.ensures in
    let line = c.line.ensures in
    let text = is_text (SaysRefused c.args.text.now) c.line.result Refused _ line.status line.bytes line.none (inr (p, c.requires.spelled, refused)) in
    neither_asked _ (at_rest _ _) _ _ _ _ (inl (text, at_rest _ _))
