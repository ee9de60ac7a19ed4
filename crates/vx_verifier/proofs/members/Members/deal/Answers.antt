use Rattle.std.proofs.Common.{◌≡◌, ◌-◌, ◌+◌, ◌≤◌, ◌∙◌, ◌∷◌, ap, sym, drop, arith}
use Rattle.vx_resolved.specs.Settled.{settled}
use Rattle.vx_verifier.specs.Lines.{lines_from}
use Rattle.vx_verifier.specs.Members.{every}
use Rattle.vx_verifier.proofs.Lines.{deals_one, passes_none, passes_one}
use Rattle.vx_verifier.proofs.members.Members.deal.Goals as goal

pub members-preserved-then-not-has_line : goal.members-preserved-then-not-has_line
members-preserved-then-not-has_line g c =
    let p = settled c.args.program.now in
    let self = c.members.self in
    let less : c.args.self.now.next ≤ self.next + 1 = let before = c.members.invariant.next in omega arith in
    record {
      lane = c.members.invariant.lane;
      jobs = c.members.invariant.jobs;
      runs = c.members.invariant.runs;
      replies = c.members.invariant.replies;
      stage = c.members.invariant.stage;
      some = c.members.invariant.some;
      next = less;
      dealt = c.members.invariant.dealt ∙ passes_none p c.args.self.now.jobs self.skip self.next _ c.member.ensures (sym c.has_line.ensures ∙ c.if-not-has_line.true);
    }

pub returns-then-self-eq0-clause-dealt : goal.returns-then-self-eq0-clause-dealt
returns-then-self-eq0-clause-dealt g c =
    let p = settled c.args.program.now in
    let self = c.members.self in
    c.members.invariant.dealt
    ∙ (deals_one p c.args.self.now.jobs self.skip self.next _ c.member.ensures (sym c.has_line.ensures ∙ c.if-not-has_line.false) c.if-self-eq0.true
    ∙ ap (λ k. self.next ∷ every c.args.self.now.jobs (k - 1) (lines_from (self.next + 1) (drop (self.next + 1) p))) (sym c.members.invariant.jobs))

pub members-preserved : goal.members-preserved
members-preserved g c =
    let p = settled c.args.program.now in
    let self = c.members.self in
    let less : c.args.self.now.next ≤ self.next + 1 = let before = c.members.invariant.next in omega arith in
    record {
      lane = c.members.invariant.lane;
      jobs = c.members.invariant.jobs;
      runs = c.members.invariant.runs;
      replies = c.members.invariant.replies;
      stage = c.members.invariant.stage;
      some = c.members.invariant.some;
      next = less;
      dealt = c.members.invariant.dealt ∙ passes_one p c.args.self.now.jobs self.skip self.next _ c.member.ensures (sym c.has_line.ensures ∙ c.if-not-has_line.false) c.if-self-eq0.false;
    }
