use Rattle.std.proofs.Common.{inr, refl}
use Rattle.std.proofs.lemmas.Result.{IfOk-weaker}
use Rattle.vx_typing.specs.Typed.{written_of, resolved_of}
use Rattle.vx_commands.specs.Reports.{IsProgramOf}
use Rattle.vx_commands.proofs.Readable.{spelled_numerals}
use Rattle.vx_commands.proofs.top.verify_typed.Goals as goal

pub report_by-requires-clause-small : goal.report_by-requires-clause-small
report_by-requires-clause-small g c = spelled_numerals c.args.text.now (written_of c.args.typed.now) c.requires.spelled.spelled

pub returns : goal.returns
returns g c =
    let p = resolved_of c.args.typed.now in
    let is : IsProgramOf c.args.text.now p = record {
      written = written_of c.args.typed.now;
      spelled = c.requires.spelled.spelled;
      typed = c.typed.ensures;
      settled = refl;
      whole = c.typed_programs_are_whole.ensures;
    } in
    let own = c.report_by.ensures in
    record { answered = IfOk-weaker c.report_by.result _ _ (λ output h. inr (p, is, h)) own.answered; starts = own.starts; back = own.back }
