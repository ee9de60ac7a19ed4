use Rattle.std.proofs.Common.{◌≡◌, ◌∙◌, ap}
use Rattle.vx_resolved.specs.Settled.{settled}
use Rattle.vx_verifier.proofs.Beginnings.{member_first}
use Rattle.vx_verifier.proofs.Begun.{begun_some}
use Rattle.vx_verifier.proofs.members.Members.begin.Goals as goal

pub go_on-requires-clause-member : goal.go_on-requires-clause-member
go_on-requires-clause-member g c = member_first (settled c.args.program.now) c.in-Some.number c.in_ok-machine.machine c.in-Some.ensures.member.0 (record {
  follows = c.in_ok-machine.ensures.follows;
  member = ap (λ x. x.0) c.in_ok-machine.ensures.member ∙ c.in-Ok.ensures.1;
  limit = c.in_ok-machine.ensures.limit;
  replies = c.in_ok-machine.ensures.replies;
  ready = c.in_ok-machine.ensures.ready;
})

pub returns-clause-begun : goal.returns-clause-begun
returns-clause-begun g c =
    let old = c.args.self.now in
    let dealt = c.deal.new.self in
    let new = c.go_on.new.self in
    begun_some (settled c.args.program.now) old.jobs old.lane old.next old.skip old.runs.items old.replies.items dealt.lane dealt.next dealt.skip dealt.runs.items dealt.replies.items
    c.in-Some.number c.in_ok-machine.machine new.next new.skip new.runs.items new.replies.items new.stage c.go_on.result
    (record {
      behind = c.in-Some.ensures.dealt;
      own = c.deal.ensures.lane.0;
      runs_are = ap (λ x. x.items) c.deal.ensures.runs.0;
      replies_are = ap (λ x. x.items) c.deal.ensures.runs.1;
    })
    (record {
      follows = c.in_ok-machine.ensures.follows;
      member = ap (λ x. x.0) c.in_ok-machine.ensures.member ∙ c.in-Ok.ensures.1;
      limit = c.in_ok-machine.ensures.limit;
      replies = c.in_ok-machine.ensures.replies;
      ready = c.in_ok-machine.ensures.ready;
    })
    c.in-Some.ensures.member.1 c.in-Some.ensures.member.2 c.go_on.ensures.lane.2 c.go_on.ensures.lane.3 c.go_on.ensures.goes
