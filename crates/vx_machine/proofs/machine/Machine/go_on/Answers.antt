use Rattle.std.proofs.Common.{◌≡◌, length, List, refl, ap, ◌∙◌, arith}
use Rattle.vx_resolved.specs.Settled.{settled}
use Rattle.vx_stack.specs.declared.frame.Side.{Side}
use Rattle.vx_smt_meaning.specs.declared.reply.Reply.{Reply}
use Rattle.vx_rules.specs.Trees.{Tree, Open}
use Rattle.vx_stack.specs.Stack.{query}
use Rattle.vx_machine.specs.declared.machine.Phase.TheVariants as phase'
use Rattle.vx_machine.specs.Runs.{given, member_tree}
use Rattle.vx_machine.proofs.Follow.{at_end, at_question, at_limit, ending_now, answered_now, waiting_ends}
use Rattle.vx_machine.proofs.machine.Machine.go_on.Goals as goal

pub returns-in-None-clause-told : goal.returns-in-None-clause-told
returns-in-None-clause-told c =
    let p = settled c.args.program.now in
    let t : Tree = member_tree p c.args.self.now.member.0 in
    let g : List Reply = given c.args.self.now in
    let new : List Side = c.run.new.conts.sides.items in
    ending_now p t g phase'.Passed new (at_end p t g _ new c.requires.at (rw c.in-None.is at c.in_ok-run.ensures.runs))

pub returns-in-None-clause-answered : goal.returns-in-None-clause-answered
returns-in-None-clause-answered c =
    let p = settled c.args.program.now in
    let t : Tree = member_tree p c.args.self.now.member.0 in
    let g : List Reply = given c.args.self.now in
    let new : List Side = c.run.new.conts.sides.items in
    answered_now p t g phase'.Passed new (at_end p t g _ new c.requires.at (rw c.in-None.is at c.in_ok-run.ensures.runs)) refl

pub returns-then-len-self-clause-told : goal.returns-then-len-self-clause-told
returns-then-len-self-clause-told c =
    let p = settled c.args.program.now in
    let t : Tree = member_tree p c.args.self.now.member.0 in
    let g : List Reply = given c.args.self.now in
    let new : List Side = c.run.new.conts.sides.items in
    let f = c.in-Some.found in
    let q = f.query in
    let e : c.args.self.now.limit ≡ length c.args.self.now.replies.items = omega (arith, c.requires.within, c.len.ensures, c.args.self.now.replies.ok.0, c.if-len-self.true) in (
      e,
      e,
      (
        query q,
        ending_now p t g (phase'.Limited q) new (at_limit p t g _ new f c.requires.at (rw c.in-Some.is at c.in_ok-run.ensures.runs)) ∙ ap (λ w. w.ending) (waiting_ends p q.probe (query q) new),
      ),
    )

pub returns-then-len-self-clause-answered : goal.returns-then-len-self-clause-answered
returns-then-len-self-clause-answered c =
    let p = settled c.args.program.now in
    let t : Tree = member_tree p c.args.self.now.member.0 in
    let g : List Reply = given c.args.self.now in
    let new : List Side = c.run.new.conts.sides.items in
    let f = c.in-Some.found in
    let q = f.query in
    answered_now p t g (phase'.Limited q) new (at_limit p t g _ new f c.requires.at (rw c.in-Some.is at c.in_ok-run.ensures.runs)) (ap (λ w. w.answered) (waiting_ends p q.probe (query q) new))

pub returns-in_ok-kept-in-Some-clause-told : goal.returns-in_ok-kept-in-Some-clause-told
returns-in_ok-kept-in-Some-clause-told c =
    let p = settled c.args.program.now in
    let t : Tree = member_tree p c.args.self.now.member.0 in
    let g : List Reply = given c.args.self.now in
    let new : List Side = c.run.new.conts.sides.items in
    let k = c.in_ok-kept-in-Some.kept in (
      ending_now p t g (phase'.Asked k) new (at_question p t g _ new c.in-Some.found k c.requires.at (rw c.in-Some.is at c.in_ok-run.ensures.runs) c.in_ok-kept-in-Some.ensures)
          ∙ ap (λ w. w.ending) (waiting_ends p k.probe (query k) new) ∙ ap Open c.in_ok-kept-in-Some.ensures,
      omega (arith, c.len.ensures, c.args.self.now.replies.ok.0, c.if-len-self.false),
    )

pub returns-in_ok-kept-in-Some-clause-answered : goal.returns-in_ok-kept-in-Some-clause-answered
returns-in_ok-kept-in-Some-clause-answered c =
    let p = settled c.args.program.now in
    let t : Tree = member_tree p c.args.self.now.member.0 in
    let g : List Reply = given c.args.self.now in
    let new : List Side = c.run.new.conts.sides.items in
    let k = c.in_ok-kept-in-Some.kept in
    answered_now p t g (phase'.Asked k) new (at_question p t g _ new c.in-Some.found k c.requires.at (rw c.in-Some.is at c.in_ok-run.ensures.runs) c.in_ok-kept-in-Some.ensures)
    (ap (λ w. w.answered) (waiting_ends p k.probe (query k) new))
