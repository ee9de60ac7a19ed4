use Rattle.std.proofs.Common.{◌≡◌, true, false, length, List, refl, sym, ap, ◌∙◌}
use Rattle.std.proofs.lemmas.Result.{IfOk-weaker}
use Rattle.vx_resolved.specs.Settled.{settled}
use Rattle.vx_stack.specs.declared.frame.Side.{Side}
use Rattle.vx_rules.specs.Trees.{Tree}
use Rattle.vx_stack.specs.Stack.{query}
use Rattle.vx_machine.specs.declared.machine.Phase.{Phase}
use Rattle.vx_machine.specs.declared.machine.Phase.TheVariants as phase'
use Rattle.vx_machine.specs.Growth.{AsksOnTop, Stays}
use Rattle.vx_machine.specs.Runs.{given, member_tree}
use Rattle.vx_machine.proofs.Follow.{follows_at, within_at, ending_now, answered_now, waiting_ends}
use Rattle.vx_machine.proofs.machine.Machine.next.Goals as goal

pub returns-in-Limited-clause-told : goal.returns-in-Limited-clause-told
returns-in-Limited-clause-told c =
    let p = settled c.args.program.now in
    let t : Tree = member_tree p c.args.self.now.member.0 in
    let sides : List Side = c.args.self.now.conts.sides.items in
    let q = c.in-Limited.query in
    let phase : Phase = phase'.Limited q in
    let e : length c.args.self.now.replies.items ≡ c.args.self.now.limit = within_at p c.args.self.now phase (sym c.in-Limited.ensures.value) refl c.requires.follows in (
      sym e,
      sym e,
      (
        query q,
        ending_now p t (given c.args.self.now) phase sides (follows_at p c.args.self.now phase (sym c.in-Limited.ensures.value) refl c.requires.follows) ∙ ap (λ w. w.ending) (waiting_ends p q.probe (query q) sides),
      ),
    )

pub returns-in-Limited-clause-answered : goal.returns-in-Limited-clause-answered
returns-in-Limited-clause-answered c =
    let p = settled c.args.program.now in
    let t : Tree = member_tree p c.args.self.now.member.0 in
    let sides : List Side = c.args.self.now.conts.sides.items in
    let q = c.in-Limited.query in
    let phase : Phase = phase'.Limited q in
    answered_now p t (given c.args.self.now) phase sides (follows_at p c.args.self.now phase (sym c.in-Limited.ensures.value) refl c.requires.follows) (ap (λ w. w.answered) (waiting_ends p q.probe (query q) sides))

pub returns-in-Passed-clause-told : goal.returns-in-Passed-clause-told
returns-in-Passed-clause-told c =
    let p = settled c.args.program.now in
    let t : Tree = member_tree p c.args.self.now.member.0 in
    ending_now p t (given c.args.self.now) phase'.Passed c.args.self.now.conts.sides.items (follows_at p c.args.self.now phase'.Passed (sym c.in-Passed.ensures.value) refl c.requires.follows)

pub returns-in-Passed-clause-answered : goal.returns-in-Passed-clause-answered
returns-in-Passed-clause-answered c =
    let p = settled c.args.program.now in
    let t : Tree = member_tree p c.args.self.now.member.0 in
    answered_now p t (given c.args.self.now) phase'.Passed c.args.self.now.conts.sides.items (follows_at p c.args.self.now phase'.Passed (sym c.in-Passed.ensures.value) refl c.requires.follows) refl

pub returns-in-Failed-clause-told : goal.returns-in-Failed-clause-told
returns-in-Failed-clause-told c =
    let p = settled c.args.program.now in
    let t : Tree = member_tree p c.args.self.now.member.0 in
    let phase : Phase = phase'.Failed c.in-Failed.place c.in-Failed.code c.in-Failed.reply in
    ending_now p t (given c.args.self.now) phase c.args.self.now.conts.sides.items (follows_at p c.args.self.now phase (sym c.in-Failed.ensures.value) refl c.requires.follows)

pub returns-in-Failed-clause-answered : goal.returns-in-Failed-clause-answered
returns-in-Failed-clause-answered c =
    let p = settled c.args.program.now in
    let t : Tree = member_tree p c.args.self.now.member.0 in
    let phase : Phase = phase'.Failed c.in-Failed.place c.in-Failed.code c.in-Failed.reply in
    answered_now p t (given c.args.self.now) phase c.args.self.now.conts.sides.items (follows_at p c.args.self.now phase (sym c.in-Failed.ensures.value) refl c.requires.follows) refl

pub returns-in-Ready-clause-stays : goal.returns-in-Ready-clause-stays
returns-in-Ready-clause-stays c =
    let p = settled c.args.program.now in
    IfOk-weaker c.go_on.result (λ ask. c.go_on.new.self.stays ≡ true → (false ≡ true) × AsksOnTop p c.args.self.now.conts.sides.items ask) (λ ask. c.go_on.new.self.stays ≡ true → Stays c.args.self.now.phase ask)
    (λ ask h e. let n : false ≡ true = (h e).0 in cc) c.go_on.ensures.stays
