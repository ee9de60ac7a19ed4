use Rattle.std.proofs.Common.{List, refl}
use Rattle.vx_resolved.specs.Settled.{settled}
use Rattle.vx_stack.specs.declared.frame.Side.{Side}
use Rattle.vx_rules.specs.Trees.{Tree}
use Rattle.vx_machine.specs.declared.machine.Phase.{Phase}
use Rattle.vx_machine.specs.declared.machine.Phase.TheVariants as phase'
use Rattle.vx_machine.specs.Runs.{given, member_tree}
use Rattle.vx_machine.proofs.Follow.{at_failed, given_more, ending_now, answered_now}
use Rattle.vx_machine.proofs.machine.Machine.fail.Goals as goal

pub returns-clause-follows : goal.returns-clause-follows
returns-clause-follows c e =
    let p = settled c.args.program.now in
    let t : Tree = member_tree p c.args.self.now.member.0 in
    let sides : List Side = c.args.self.now.conts.sides.items in
    let phase : Phase = phase'.Failed c.args.query.place c.args.query.code c.args.reply in (
      given_more p t phase sides c.args.self.now.replies.items c.push.new.self.items c.args.reply c.in_ok-push.ensures.items
          (at_failed p t (given c.args.self.now) sides c.args.query c.args.reply c.requires.probe c.requires.kind c.requires.at),
      tt,
      tt,
    )

pub returns-clause-told : goal.returns-clause-told
returns-clause-told c =
    let p = settled c.args.program.now in
    let t : Tree = member_tree p c.args.self.now.member.0 in
    let sides : List Side = c.args.self.now.conts.sides.items in
    let phase : Phase = phase'.Failed c.args.query.place c.args.query.code c.args.reply in
    ending_now p t c.push.new.self.items phase sides
    (given_more p t phase sides c.args.self.now.replies.items c.push.new.self.items c.args.reply c.in_ok-push.ensures.items
    (at_failed p t (given c.args.self.now) sides c.args.query c.args.reply c.requires.probe c.requires.kind c.requires.at))

pub returns-clause-answered : goal.returns-clause-answered
returns-clause-answered c =
    let p = settled c.args.program.now in
    let t : Tree = member_tree p c.args.self.now.member.0 in
    let sides : List Side = c.args.self.now.conts.sides.items in
    let phase : Phase = phase'.Failed c.args.query.place c.args.query.code c.args.reply in
    answered_now p t c.push.new.self.items phase sides
    (given_more p t phase sides c.args.self.now.replies.items c.push.new.self.items c.args.reply c.in_ok-push.ensures.items
    (at_failed p t (given c.args.self.now) sides c.args.query c.args.reply c.requires.probe c.requires.kind c.requires.at)) refl
