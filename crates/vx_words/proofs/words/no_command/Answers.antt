use Rattle.std.proofs.Common.{◌≡◌, ◌∙◌, refl, ap, None, [], ◌∷◌, ◌++◌}
use Rattle.clap.proofs.OnLiterals.{clap_on_literals}
use Rattle.vx_words.specs.Orders.{order_of}
use Rattle.vx_words.specs.Table.{vsil_app}
use Rattle.vx_words.proofs.words.no_command.Goals as goal

two_empty : order_of ([] ∷ [] ∷ []) ≡ None
unfolding vsil_app clap_on_literals
two_empty = refl

pub returns : goal.returns
returns c = ap order_of (c.in_ok-push-2.ensures.ok ∙ ap (λ words. words ++ [] ∷ []) (c.in_ok-push.ensures.ok ∙ ap (λ words. words ++ [] ∷ []) c.new-words.ensures)) ∙ two_empty
