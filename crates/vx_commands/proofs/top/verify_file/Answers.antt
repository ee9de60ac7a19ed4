use Rattle.std.proofs.Common.{◌≡◌, inl, rules}
use Rattle.std.proofs.lemmas.Result.{IfOk-weaker}
use Rattle.vx_commands.specs.Outside.{change, texts}
use Rattle.vx_commands.specs.Texts.{SaysRefused}
use Rattle.vx_commands.proofs.Due.{asks_named, text_loaded, none_loaded, too_long_loaded, file_unread, file_too_long, verified_due}
use Rattle.vx_commands.proofs.Untouched.{at_rest, obeyed_alone}
use Rattle.vx_commands.proofs.top.verify_file.Goals as goal

pub returns-in_err-text : goal.returns-in_err-text
returns-in_err-text g c =
    let files = change (texts g.F.Files.holds g.F.Files.asked g.F.Files.faults) c.args.files.now c.load.new.files in
    obeyed_alone _ (at_rest _ _) _ files _ (asks_named _ c.args.file.now files c.name_of.ensures c.load.ensures.asked) (search rules)

pub returns-in-Text : goal.returns-in-Text
returns-in-Text g c =
    let files = change (texts g.F.Files.holds g.F.Files.asked g.F.Files.faults) c.args.files.now c.load.new.files in
    let same : c.deref.result.now ≡ c.in-Text.text.items = search rules in
    let is = text_loaded _ c.args.file.now files _ c.name_of.ensures c.in_ok-text.ensures.text c.deref.result.now c.in-Text.text c.in-Text.is same in
    record {
      due = IfOk-weaker c.verify_text.result _ _ (λ output h. verified_due c.args.file.now c.args.solver.now c.args.jobs files _ output c.deref.result.now is.0 is.1 h) c.verify_text.ensures.answered;
      asked = asks_named _ c.args.file.now files c.name_of.ensures c.load.ensures.asked;
      starts = c.verify_text.ensures.starts;
      back = c.verify_text.ensures.back;
    }

pub returns-in-Unread : goal.returns-in-Unread
returns-in-Unread g c =
    let files = change (texts g.F.Files.holds g.F.Files.asked g.F.Files.faults) c.args.files.now c.load.new.files in
    let failed = none_loaded _ c.args.file.now files _ c.name_of.ensures c.in_ok-text.ensures.text c.in-Unread.is in
    obeyed_alone _ (at_rest _ _) _ files c.said.result (asks_named _ c.args.file.now files c.name_of.ensures c.load.ensures.asked)
    (IfOk-weaker c.said.result _ _ (λ output h. inl (file_unread SaysRefused c.args.file.now files output failed h, at_rest _ _)) c.said.ensures)

pub returns-in-TooLong : goal.returns-in-TooLong
returns-in-TooLong g c =
    let files = change (texts g.F.Files.holds g.F.Files.asked g.F.Files.faults) c.args.files.now c.load.new.files in
    let long = too_long_loaded _ c.args.file.now files _ c.name_of.ensures c.in_ok-text.ensures.text c.in-TooLong.is in
    obeyed_alone _ (at_rest _ _) _ files c.said-in-TooLong.result (asks_named _ c.args.file.now files c.name_of.ensures c.load.ensures.asked)
    (IfOk-weaker c.said-in-TooLong.result _ _ (λ output h. inl (file_too_long SaysRefused c.args.file.now files output long h, at_rest _ _)) c.said-in-TooLong.ensures)
