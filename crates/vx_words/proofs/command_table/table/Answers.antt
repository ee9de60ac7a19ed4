use Rattle.std.proofs.Common.{◌∙◌, ap, ap₂}
use Rattle.std.proofs.lemmas.Result.{IfOk-weaker}
use Rattle.clap.specs.Words.{with_subcommand}
use Rattle.vx_words.specs.Table.{file_shape, vsil_app}
use Rattle.std.specs.Prelude.{codes}
use Rattle.vx_words.proofs.command_table.table.Goals as goal

pub returns : goal.returns
unfolding vsil_app
returns c =
    let checks = c.in_ok-checks.ensures ∙ ap (λ app. with_subcommand app (file_shape (codes "check"))) c.in_ok-verifies.ensures in
    let prints = c.in_ok-prints.ensures ∙ ap (λ app. with_subcommand app (file_shape (codes "print"))) checks in
    let generates = c.in_ok-generates.ensures ∙ ap₂ with_subcommand prints c.in_ok-generate.ensures.0 in
    let works = c.in_ok-works.ensures ∙ ap₂ with_subcommand generates c.in_ok-work.ensures.0 in
    IfOk-weaker c.with-3.result _ _ (λ m h. h ∙ ap₂ with_subcommand works c.in_ok-run.ensures.0) c.with-3.ensures
