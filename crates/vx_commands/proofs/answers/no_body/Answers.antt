use Rattle.std.proofs.Common.{◌∙◌, ◌++◌, ap, sym, append-nil}
use Rattle.std.specs.Prelude.{codes}
use Rattle.vx_commands.proofs.answers.no_body.Goals as goal

pub returns : goal.returns
returns c = c.in_ok-push_str.ensures.bytes ∙ ap (λ x. x ++ codes "\n") (c.in_ok-line.ensures ∙ sym (append-nil _))
