use Rattle.std.proofs.Common.{◌≡◌, ◌++◌, ◌∷◌, [], true, length, subst, sym}
use Rattle.vx_resolved.specs.Settled.{settled}
use Rattle.vx_rules.specs.Trees.{walk}
use Rattle.vx_machine.specs.Growth.{IsOpen, Stays}
use Rattle.vx_machine.specs.Runs.{Shows, Told, given, member_tree}
use Rattle.vx_pool.specs.declared.next.Next.TheVariants as step
use Rattle.vx_verifier.specs.declared.members.Stage.TheVariants as stage'
use Rattle.vx_verifier.specs.Members.{GoesTo, run_of}
use Rattle.vx_verifier.proofs.Working.{goes_to_question, goes_to_end}
use Rattle.vx_verifier.proofs.members.Members.go_on.Goals as goal

pub returns-in-Check-clause-goes : goal.returns-in-Check-clause-goes
returns-in-Check-clause-goes g c =
    let p = settled c.args.program.now in
    let m = c.args.machine in
    let m' = c.next.new.self in
    goes_to_question p m m' c.requires.member c.args.self.now.lane c.args.self.now.runs.items c.args.self.now.replies.items c.args.reply c.in-Check.query c.requires.awaited c.requires.runs c.requires.spelled
    (record {
      follows = c.in_ok-query.ensures.follows;
      told = subst (λ a. Told a (walk (member_tree p m'.member.0) (given m')) m'.limit (length m'.replies.items)) c.in-Check.is c.in_ok-query.ensures.told;
      answered = c.in_ok-query.ensures.answered;
      replies = c.in_ok-query.ensures.replies;
      member = c.in_ok-query.ensures.member;
      limit = c.in_ok-query.ensures.limit;
      shows = subst (Shows m'.phase m'.limit) c.in-Check.is c.in_ok-query.ensures.shows;
      stays = subst (λ a. m'.stays ≡ true → Stays m.phase a) c.in-Check.is c.in_ok-query.ensures.stays;
      opened = subst (IsOpen m'.phase) c.in-Check.is c.in_ok-query.ensures.open;
    })

pub returns-in_ok-put-in-Done-clause-goes : goal.returns-in_ok-put-in-Done-clause-goes
returns-in_ok-put-in-Done-clause-goes g c =
    let p = settled c.args.program.now in
    let m = c.args.machine in
    let m' = c.next.new.self in
    let lane = c.args.self.now.lane in
    let runs = c.args.self.now.runs.items in
    let replies = c.args.self.now.replies.items in
    let v = c.verdict_of.result in
    let goes = goes_to_end p m m' c.requires.member lane runs replies c.args.reply c.in-Done.outcome v c.verdict_of.ensures c.requires.awaited c.requires.runs
    (record {
      follows = c.in_ok-query.ensures.follows;
      told = subst (λ a. Told a (walk (member_tree p m'.member.0) (given m')) m'.limit (length m'.replies.items)) c.in-Done.is c.in_ok-query.ensures.told;
      answered = c.in_ok-query.ensures.answered;
      replies = c.in_ok-query.ensures.replies;
      member = c.in_ok-query.ensures.member;
      limit = c.in_ok-query.ensures.limit;
      shows = subst (Shows m'.phase m'.limit) c.in-Done.is c.in_ok-query.ensures.shows;
      stays = subst (λ a. m'.stays ≡ true → Stays m.phase a) c.in-Done.is c.in_ok-query.ensures.stays;
      opened = subst (IsOpen m'.phase) c.in-Done.is c.in_ok-query.ensures.open;
    }) in
    subst (λ rs. GoesTo p lane runs replies m c.args.reply rs c.put.new.self.replies.items stage'.Between step.Left) (sym c.in_ok-put-in-Done.ensures.run)
    (subst (λ rs. GoesTo p lane runs replies m c.args.reply (runs ++ run_of lane (length replies) m' v ∷ []) rs stage'.Between step.Left) (sym c.in_ok-put-in-Done.ensures.replies) goes)
