use Rattle.std.proofs.Common.{◌≡◌, List, true, cond, ap, sym, ◌∙◌}
use Rattle.vx_resolved.specs.Settled.{settled}
use Rattle.vx_stack.specs.declared.frame.Side.{Side}
use Rattle.vx_rules.specs.Trees.{Tree}
use Rattle.vx_machine.specs.declared.machine.Phase.TheVariants as phase'
use Rattle.vx_machine.specs.Growth.{without_other, without_last}
use Rattle.vx_machine.specs.Runs.{given, member_tree, is_unsat}
use Rattle.vx_machine.proofs.Follow.{at_refuted, at_chosen, given_more}
use Rattle.vx_machine.proofs.machine.Machine.answer.Goals as goal

pub go_on-requires-clause-at : goal.go_on-requires-clause-at
go_on-requires-clause-at c =
    let p = settled c.args.program.now in
    let t : Tree = member_tree p c.args.self.now.member.0 in
    let sides : List Side = c.args.self.now.conts.sides.items in
    let new : List Side = c.choose.new.conts.sides.items in
    let n : new ≡ cond (is_unsat c.args.reply) (without_other sides) (without_last sides) = c.in_ok-choose.ensures ∙ ap (λ b. cond b (without_other sides) (without_last sides)) c.is_refuted-refuted.ensures in
    given_more p t phase'.Ready new c.args.self.now.replies.items c.push.new.self.items c.args.reply c.in_ok-push.ensures.items
    (at_chosen p t (given c.args.self.now) sides c.args.query c.args.reply new c.if-query.true n c.requires.at)

pub go_on-requires-2-clause-at : goal.go_on-requires-2-clause-at
go_on-requires-2-clause-at c =
    let p = settled c.args.program.now in
    let t : Tree = member_tree p c.args.self.now.member.0 in
    let sides : List Side = c.args.self.now.conts.sides.items in
    let u : is_unsat c.args.reply ≡ true = sym c.is_refuted-refuted.ensures ∙ c.if-not-refuted.false in
    given_more p t phase'.Ready sides c.args.self.now.replies.items c.push-2.new.self.items c.args.reply c.in_ok-push-2.ensures.items
    (at_refuted p t (given c.args.self.now) sides c.args.query c.args.reply c.if-query.false u c.requires.at)
