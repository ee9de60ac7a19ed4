use Rattle.std.proofs.Common.{◌≡◌, ◌-◌, ◌≤◌, drop, length}
use Rattle.vx_resolved.specs.Settled.{settled}
use Rattle.vx_verifier.specs.Lines.{lines_from}
use Rattle.vx_verifier.specs.Members.{every}
use Rattle.vx_verifier.proofs.members.Members.deal.Given as goal

abbrev pub invariant-members : goal.invariant-members
invariant-members g l =
    let p = settled l.program in
    record {
      lane : l.self.lane ≡ l.fn.self.lane;
      jobs : l.self.jobs ≡ l.fn.self.jobs;
      runs : l.self.runs ≡ l.fn.self.runs;
      replies : l.self.replies ≡ l.fn.self.replies;
      stage : l.self.stage ≡ l.fn.self.stage;
      some : 1 ≤ l.self.jobs;
      next : l.fn.self.next ≤ l.self.next;
      dealt : every l.fn.self.jobs l.fn.self.skip (lines_from l.fn.self.next (drop l.fn.self.next p)) ≡ every l.fn.self.jobs l.self.skip (lines_from l.self.next (drop l.self.next p));
    }

abbrev pub decreases-members : goal.decreases-members
decreases-members g l = length (settled l.program) - l.self.next
