use Rattle.cs_certificate.specs.Certificate.{Pick}
use Rattle.cs_derivation.specs.View.{reached}
use Rattle.cs_ground.proofs.Collected.{is_pick, both_steps}
use Rattle.cs_ground.proofs.clauses.add_picks.Goals as goal

pub returns : goal.returns
returns c = λ stack h.
    both_steps (Pick c.args.t 0) (Pick c.args.t 1) stack (reached c.args.derivation.now) (reached c.pick.new.self) (reached c.pick-2.new.self) c.in_ok-pick.field-0 c.in_ok-pick-2.field-0 (is_pick c.args.t 0) (is_pick c.args.t 1) h (c.in_ok-pick.ensures stack) (c.in_ok-pick-2.ensures stack)
