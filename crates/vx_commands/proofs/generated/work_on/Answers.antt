use Rattle.std.proofs.Common.{refl, subst, sym, rules}
use Rattle.std.proofs.lemmas.Result.{IfOk-weaker}
use Rattle.vx_parser.specs.Spelling.{Spells}
use Rattle.vx_typing.specs.Programs.{IsTyped}
use Rattle.vx_typing.specs.Typed.{written_of, resolved_of}
use Rattle.vx_gen.specs.Generated.{generated}
use Rattle.vx_commands.specs.declared.reports.Telling.TheVariants.{Totals}
use Rattle.vx_commands.specs.Outside.{change, companions}
use Rattle.vx_commands.specs.Reports.{IsCompanionReport, IsProgramOf}
use Rattle.vx_commands.specs.Steps.{Asks}
use Rattle.vx_commands.proofs.Readable.{spelled_numerals}
use Rattle.vx_commands.proofs.Untouched.{unasked}
use Rattle.vx_commands.proofs.generated.work_on.Goals as goal

pub returns : goal.returns
returns c =
    let n = c.args.methods in
    let p = resolved_of c.args.typed.now in
    let jobs = c.args.jobs in
    let shown = change companions c.args.builtin.now c.report_by_companion.new.builtin in
    let is : IsProgramOf (generated n) p = record {
      written = written_of c.args.typed.now;
      spelled = subst (λ w. Spells (generated n) w) (sym c.requires.program) (c.generated_is_typed.ensures.spelled n c.requires.few);
      typed = subst IsTyped (sym c.requires.program) (c.generated_is_typed.ensures.typed n c.requires.few);
      settled = refl;
      whole = c.typed_programs_are_whole.ensures;
    } in
    let own = subst (λ command. Asks command jobs (IsCompanionReport Totals p jobs command shown) shown c.report_by_companion.result) c.in_ok-solver.ensures c.report_by_companion.ensures in
    record { answered = IfOk-weaker c.report_by_companion.result _ _ (λ output h. (p, is, h)) own.answered; starts = own.starts; back = own.back }

pub returns-in_err-solver : goal.returns-in_err-solver
returns-in_err-solver c = unasked _ _ _ _ _ refl (search rules)

pub report_by_companion-requires-clause-small : goal.report_by_companion-requires-clause-small
report_by_companion-requires-clause-small c =
    let n = c.args.methods in
    spelled_numerals (generated n) (written_of c.args.typed.now) (subst (λ w. Spells (generated n) w) (sym c.requires.program) (c.generated_is_typed.ensures.spelled n c.requires.few))
