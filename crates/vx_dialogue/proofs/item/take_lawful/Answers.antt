use Rattle.std.proofs.Common.{rules, ◌≡◌, false, take}
use Rattle.vx_smt_meaning.specs.Replies.{is_refusal}
use Rattle.vx_dialogue.specs.Items.{is_lawful, kept_of, IsUnlawful}
use Rattle.vx_dialogue.proofs.Faulted.{unlawful_here}
use Rattle.vx_dialogue.proofs.item.take_lawful.Goals as goal

pub returns-clause-none : goal.returns-clause-none
returns-clause-none c =
    let bytes = c.args.unread.now.items in
    let not_lawful : is_lawful c.args.wanted c.args.item ≡ false = search rules in
    let refusal : is_refusal c.args.item ≡ c.refuses.result = search rules in
    let told : IsUnlawful c.unlawful.result c.refuses.result (kept_of (take c.args.end bytes)) = search rules in
    unlawful_here c.unlawful.result _ bytes c.args.end _ _ c.requires.1 not_lawful refusal told
