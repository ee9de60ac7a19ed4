use Rattle.std.proofs.Common.{◌≡◌, Some, refl, rules}
use Rattle.std.proofs.lemmas.Result.{IfOk-weaker}
use Rattle.vx_commands.specs.Outside.{change, texts}
use Rattle.vx_commands.specs.WholeRuns.{SaysRun}
use Rattle.vx_commands.proofs.Due.{text_loaded, none_loaded, too_long_loaded, run_never_unread, file_text, file_unread, file_too_long}
use Rattle.vx_commands.proofs.top.run_file.Goals as goal

pub returns-in-Text-clause-said : goal.returns-in-Text-clause-said
returns-in-Text-clause-said g c =
    let files = change (texts g.F.Files.holds g.F.Files.asked g.F.Files.faults) c.args.files.now c.load.new.files in
    let same : c.deref.result.now ≡ c.in-Text.text.items = search rules in
    let is = text_loaded _ (Some c.args.file.now) files _ (search rules) c.in_ok-text.ensures.text c.deref.result.now c.in-Text.text c.in-Text.is same in
    let says = SaysRun c.args.method.now c.args.seed in
    IfOk-weaker c.run_text.result _ _ (λ output h. file_text says (Some c.args.file.now) files output (run_never_unread c.args.method.now c.args.seed) c.deref.result.now is.0 is.1 h) c.run_text.ensures

pub returns-in-Unread-clause-said : goal.returns-in-Unread-clause-said
returns-in-Unread-clause-said g c =
    let files = change (texts g.F.Files.holds g.F.Files.asked g.F.Files.faults) c.args.files.now c.load.new.files in
    let failed = none_loaded _ (Some c.args.file.now) files _ (search rules) c.in_ok-text.ensures.text c.in-Unread.is in
    IfOk-weaker c.said.result _ _ (λ output h. file_unread (SaysRun c.args.method.now c.args.seed) (Some c.args.file.now) files output failed h) c.said.ensures

pub returns-in-TooLong-clause-said : goal.returns-in-TooLong-clause-said
returns-in-TooLong-clause-said g c =
    let files = change (texts g.F.Files.holds g.F.Files.asked g.F.Files.faults) c.args.files.now c.load.new.files in
    let long = too_long_loaded _ (Some c.args.file.now) files _ (search rules) c.in_ok-text.ensures.text c.in-TooLong.is in
    IfOk-weaker c.said-in-TooLong.result _ _ (λ output h. file_too_long (SaysRun c.args.method.now c.args.seed) (Some c.args.file.now) files output long h) c.said-in-TooLong.ensures
