use Rattle.std.proofs.Common.{refl}
use Rattle.vx_resolved.specs.Settled.{settled}
use Rattle.vx_stack.proofs.Steps.{stepped_as}
use Rattle.vx_produce.proofs.step.Goals as goal

pub returns-in_ok-hole-in-Pure : goal.returns-in_ok-hole-in-Pure
returns-in_ok-hole-in-Pure c =
    stepped_as (settled c.args.program.now) _ _ _ _ _
    (rw (c.in-Pure.is, c.in_ok-hole-in-Pure.ensures (settled c.args.program.now), c.deref.ensures) refl) c.eval.ensures

pub returns-in_ok-hole-in-Points : goal.returns-in_ok-hole-in-Points
returns-in_ok-hole-in-Points c =
    stepped_as (settled c.args.program.now) _ _ _ _ _
    (rw (c.in-Points.is, c.in_ok-hole-in-Points.ensures (settled c.args.program.now)) refl) c.eval-in-Points.ensures

pub returns-in_ok-row-in-Instance : goal.returns-in_ok-row-in-Instance
returns-in_ok-row-in-Instance c =
    stepped_as (settled c.args.program.now) _ _ _ _ _
    (rw (c.in-Instance.is, c.in_ok-row-in-Instance.ensures (settled c.args.program.now)) refl) c.evals.ensures

pub returns-in-Both : goal.returns-in-Both
returns-in-Both c =
    stepped_as (settled c.args.program.now) _ _ _ _ _
    (rw (c.in-Both.is, c.deref-in-Both.ensures) refl) c.step_both.ensures

pub returns-in_ok-hole-in-Implied : goal.returns-in_ok-hole-in-Implied
returns-in_ok-hole-in-Implied c =
    stepped_as (settled c.args.program.now) _ _ _ _ _
    (rw (c.in-Implied.is, c.in_ok-hole-in-Implied.ensures (settled c.args.program.now)) refl) c.eval-in-Implied.ensures

pub returns-in_ok-hole-in-Chosen : goal.returns-in_ok-hole-in-Chosen
returns-in_ok-hole-in-Chosen c =
    stepped_as (settled c.args.program.now) _ _ _ _ _
    (rw (c.in-Chosen.is, c.in_ok-hole-in-Chosen.ensures (settled c.args.program.now)) refl) c.eval-in-Chosen.ensures
