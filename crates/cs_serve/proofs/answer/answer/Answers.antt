use Rattle.std.proofs.Common.{rules, ◌≡◌, ◌++◌}
use Rattle.cs_session.specs.Texts.{reply_text}
use Rattle.cs_session.specs.Views.{state}
use Rattle.cs_serve.proofs.Steps.{goes_on}
use Rattle.cs_serve.proofs.answer.answer.Goals as goal

pub returns-in-Ok-extend_from_slice-clause-goes : goal.returns-in-Ok-extend_from_slice-clause-goes
returns-in-Ok-extend_from_slice-clause-goes c = λ before given taken talk total n ends at.
    let old = c.args.due.now.items in
    let new = c.extend_from_slice.new.self.items in
    let reply = c.in-Ok.reply in
    let items : new ≡ old ++ reply_text reply = search rules in
    rw c.is_last.ensures (goes_on before old new given taken talk total c.args.left.now (state c.args.session.now) (state c.command.new.self) n reply at ends c.in-Ok.ensures.replies items)
