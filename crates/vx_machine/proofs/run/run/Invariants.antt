use Rattle.std.proofs.Common.{◌≡◌, true, List}
use Rattle.vx_resolved.specs.Settled.{settled}
use Rattle.vx_smt_meaning.specs.declared.reply.Reply.{Reply}
use Rattle.vx_terms.specs.Terms.{Term}
use Rattle.vx_machine.specs.Growth.{TopGrows}
use Rattle.vx_machine.specs.Runs.{remaining, steps_remaining}
use Rattle.vx_machine.proofs.run.run.Given as goal

abbrev pub invariant-loop-side : goal.invariant-loop-side
invariant-loop-side l =
    ((rs : List Reply) → remaining (settled l.program) l.initial.conts.sides.items rs ≡ remaining (settled l.program) l.conts.sides.items rs)
    × (l.stays ≡ true → (base : List Term) → TopGrows (settled l.program) base l.initial.conts.sides.items → TopGrows (settled l.program) base l.conts.sides.items)

abbrev pub decreases-loop-side : goal.decreases-loop-side
decreases-loop-side l = steps_remaining (settled l.program) l.conts.sides.items
