use Rattle.std.proofs.Common.{◌∙◌}
use Rattle.vx_resolved.specs.Settled.{settled}
use Rattle.vx_rules.specs.States.{path_terms}
use Rattle.vx_states.specs.SymStates.{state}
use Rattle.vx_grows_stack.proofs.Frames.{sides_grow}
use Rattle.vx_machine.proofs.Walks.{popped, popped_fewer}
use Rattle.vx_machine.proofs.run.run.Goals as goal

pub returns-in-Asks-clause-runs : goal.returns-in-Asks-clause-runs
returns-in-Asks-clause-runs c =
    let t = rw c.in-Asks.is at c.in_ok-turn.ensures in
    λ rs. c.loop-side.invariant.0 rs ∙ popped (settled c.args.program.now) _ _ _ c.in-Some.ensures.items rs ∙ t.walks rs

pub returns-in-Asks-clause-stays : goal.returns-in-Asks-clause-stays
returns-in-Asks-clause-stays c =
    let t = rw c.in-Asks.is at c.in_ok-turn.ensures in
    let side = c.in-Some.side in (
      λ stays base h. (t.adds base (c.loop-side.invariant.1 stays base h c.pop.new.self.items side c.in-Some.ensures.items)).0,
      (t.adds (path_terms (state side.state).path) (sides_grow (settled c.args.program.now) side)).1,
    )

pub loop-side-smaller-in-Over : goal.loop-side-smaller-in-Over
loop-side-smaller-in-Over c =
    let t = rw c.in-Over.is at c.in_ok-turn.ensures in
    popped_fewer (settled c.args.program.now) _ _ c.turn.new.conts.sides.items _ c.in-Some.ensures.items t.walks.1

pub loop-side-smaller : goal.loop-side-smaller
loop-side-smaller c =
    let t = rw c.in-On.is at c.in_ok-turn.ensures in
    popped_fewer (settled c.args.program.now) _ _ c.turn.new.conts.sides.items _ c.in-Some.ensures.items t.walks.1

pub loop-side-preserved-in-Over : goal.loop-side-preserved-in-Over
loop-side-preserved-in-Over c =
    let t = rw c.in-Over.is at c.in_ok-turn.ensures in
    (λ rs. c.loop-side.invariant.0 rs ∙ popped (settled c.args.program.now) _ _ _ c.in-Some.ensures.items rs ∙ t.walks.0 rs, λ stays. cc)

pub loop-side-preserved : goal.loop-side-preserved
loop-side-preserved c =
    let t = rw c.in-On.is at c.in_ok-turn.ensures in (
      λ rs. c.loop-side.invariant.0 rs ∙ popped (settled c.args.program.now) _ _ _ c.in-Some.ensures.items rs ∙ t.walks.0 rs,
      λ stays base h. t.adds base (c.loop-side.invariant.1 stays base h c.pop.new.self.items c.in-Some.side c.in-Some.ensures.items),
    )
