use Rattle.std.proofs.Common.{◌≡◌, [], sym, subst, append-nil}
use Rattle.vx_typing.specs.Typed.{resolved_of}
use Rattle.vx_verifier.specs.Dealt.{Starts, runs_in}
use Rattle.vx_verifier.specs.Going.{later_same}
use Rattle.vx_verifier.specs.Headline.{IsWhole, members_of, some_ask}
use Rattle.vx_verifier.specs.Outsets.{Outset, hub}
use Rattle.vx_verifier.proofs.Headlines.{back_first, none_rose, starts_by}
use Rattle.vx_verifier.proofs.verifying.verify.Goals as goal

pub returns-in_err-program-clause-starts : goal.returns-in_err-program-clause-starts
returns-in_err-program-clause-starts g c =
    let w = g.W.Spawner in
    let o : Outset = record { program = resolved_of c.args.typed.now; jobs = c.args.jobs; command = c.args.command.now; first = hub w.starts w.owed w.ended w.faults w.steady c.args.spawner.now } in
    starts_by o o.first (later_same o o.first) (back_first o)

pub returns-in_err-program-clause-later : goal.returns-in_err-program-clause-later
returns-in_err-program-clause-later g c = record { more = []; is = sym (append-nil (g.W.Spawner.ended c.args.spawner.now)) }

pub returns-in_err-program-clause-steady : goal.returns-in_err-program-clause-steady
returns-in_err-program-clause-steady g c = λ steady room.
    let w = g.W.Spawner in
    let o : Outset = record { program = resolved_of c.args.typed.now; jobs = c.args.jobs; command = c.args.command.now; first = hub w.starts w.owed w.ended w.faults w.steady c.args.spawner.now } in
    none_rose o o.first (later_same o o.first) (back_first o) c.requires.jobs.0 steady room

pub verify_members-requires-clause-whole : goal.verify_members-requires-clause-whole
verify_members-requires-clause-whole g c = subst IsWhole (sym c.in_ok-program.ensures) c.typed_programs_are_whole.ensures

pub returns-clause-started : goal.returns-clause-started
returns-clause-started g c =
    let w = g.W.Spawner in
    subst (λ p. Starts c.args.jobs c.args.command.now (w.starts c.args.spawner.now) (w.starts c.verify_members.new.spawner) (λ lane started. started ≡ some_ask p (members_of (runs_in lane c.in_ok-runs.runs.items))))
    c.in_ok-program.ensures c.in_ok-runs.ensures.started
