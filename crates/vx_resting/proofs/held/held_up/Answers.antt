use Rattle.std.proofs.Common.{◌∙◌, sym}
use Rattle.vx_resolved.specs.Settled.{settled}
use Rattle.vx_resting.proofs.Firsts.{first_where_all_passed}
use Rattle.vx_resting.proofs.held.held_up.Goals as goal

pub returns-then-have_passed-clause-first : goal.returns-then-have_passed-clause-first
returns-then-have_passed-clause-first c =
    first_where_all_passed (settled c.args.program.now) c.args.runs.now c.in_ok-held.held.items (sym c.have_passed.ensures ∙ c.if-have_passed.true) c.in_ok-held.ensures.none
