use Rattle.std.proofs.Common.{[], map, ap, ◌∙◌, sym, append-nil}
use Rattle.std.proofs.lemmas.Result.{IfOk-weaker}
use Rattle.vx_smt_meaning.specs.Views.{declared_symbol}
use Rattle.vx_resolved.specs.Settled.{settled}
use Rattle.vx_verifier.specs.Going.{later_same}
use Rattle.vx_verifier.specs.Outsets.{Outset, hub}
use Rattle.vx_verifier.proofs.Executing.{if_ok_both}
use Rattle.vx_verifier.proofs.Headlines.{back_first, handed_back, headline, named_lines, none_rests, none_rose, started_by, starts_by}
use Rattle.vx_verifier.proofs.Rested.{named_rest}
use Rattle.vx_verifier.proofs.Spelled.{typed_spelled, typed_fine}
use Rattle.vx_verifier.proofs.verifying.verify_members.Goals as goal

pub returns-in_err-functions-clause-starts : goal.returns-in_err-functions-clause-starts
returns-in_err-functions-clause-starts g c =
    let w = g.W.Spawner in
    let o : Outset = record { program = settled c.args.program.now; jobs = c.args.jobs; command = c.args.command.now; first = hub w.starts w.owed w.ended w.faults w.steady c.args.spawner.now } in
    starts_by o o.first (later_same o o.first) (back_first o)

pub returns-in_err-functions-clause-later : goal.returns-in_err-functions-clause-later
returns-in_err-functions-clause-later g c = record { more = []; is = sym (append-nil (g.W.Spawner.ended c.args.spawner.now)) }

pub returns-in_err-functions-clause-steady : goal.returns-in_err-functions-clause-steady
returns-in_err-functions-clause-steady g c = λ steady room.
    let w = g.W.Spawner in
    let o : Outset = record { program = settled c.args.program.now; jobs = c.args.jobs; command = c.args.command.now; first = hub w.starts w.owed w.ended w.faults w.steady c.args.spawner.now } in
    none_rose o o.first (later_same o o.first) (back_first o) c.requires.jobs.0 steady room

pub execute_all-requires-clause-functions : goal.execute_all-requires-clause-functions
execute_all-requires-clause-functions g c = ap (λ ds. map declared_symbol ds) c.deref.ensures.value ∙ c.in_ok-functions.ensures

pub execute_all-requires-clause-spelled : goal.execute_all-requires-clause-spelled
execute_all-requires-clause-spelled g c = typed_spelled (settled c.args.program.now) c.requires.whole.typed

-- where it ends without runs
pub returns-in_err-own-clause-starts : goal.returns-in_err-own-clause-starts
returns-in_err-own-clause-starts g c =
    let w = g.W.Spawner in
    let shown = hub w.starts w.owed w.ended w.faults w.steady in
    let o : Outset = record { program = settled c.args.program.now; jobs = c.args.jobs; command = c.args.command.now; first = shown c.args.spawner.now } in
    starts_by o (shown c.execute_all.new.spawner) c.execute_all.ensures.later c.execute_all.ensures.back

pub returns-in_err-own-clause-handed_back : goal.returns-in_err-own-clause-handed_back
returns-in_err-own-clause-handed_back g c =
    let w = g.W.Spawner in
    let shown = hub w.starts w.owed w.ended w.faults w.steady in
    let o : Outset = record { program = settled c.args.program.now; jobs = c.args.jobs; command = c.args.command.now; first = shown c.args.spawner.now } in
    handed_back o (shown c.execute_all.new.spawner) c.execute_all.ensures.later c.execute_all.ensures.back

pub returns-in_err-own-clause-faults : goal.returns-in_err-own-clause-faults
returns-in_err-own-clause-faults g c = c.execute_all.ensures.later.faults

pub returns-in_err-own-clause-later : goal.returns-in_err-own-clause-later
returns-in_err-own-clause-later g c = record { more = c.execute_all.ensures.later.links; is = c.execute_all.ensures.later.ended }

pub returns-in_err-own-clause-steady : goal.returns-in_err-own-clause-steady
returns-in_err-own-clause-steady g c = λ steady room.
    let w = g.W.Spawner in
    let shown = hub w.starts w.owed w.ended w.faults w.steady in
    let o : Outset = record { program = settled c.args.program.now; jobs = c.args.jobs; command = c.args.command.now; first = shown c.args.spawner.now } in
    none_rose o (shown c.execute_all.new.spawner) c.execute_all.ensures.later c.execute_all.ensures.back c.requires.jobs.0 steady room

pub rest-requires-clause-named : goal.rest-requires-clause-named
rest-requires-clause-named g c = named_lines (settled c.args.program.now) c.in_ok-own.own.items c.in_ok-own.ensures.over.members

pub rest-requires-clause-alone : goal.rest-requires-clause-alone
rest-requires-clause-alone g c =
    let w = g.W.Spawner in
    let shown = hub w.starts w.owed w.ended w.faults w.steady in
    let o : Outset = record { program = settled c.args.program.now; jobs = c.args.jobs; command = c.args.command.now; first = shown c.args.spawner.now } in
    none_rests o (shown c.execute_all.new.spawner) c.in_ok-own.own.items c.requires.jobs.0 c.in_ok-own.ensures.over

-- where the runs rest
pub returns-clause-named : goal.returns-clause-named
returns-clause-named g c =
    let p = settled c.args.program.now in
    let own = c.in_ok-own.own.items in
    IfOk-weaker c.rest.result _ _ (λ rested later. named_rest p own rested.items later (named_lines p own c.in_ok-own.ensures.over.members)) c.rest.ensures.later

pub returns-clause-headline : goal.returns-clause-headline
returns-clause-headline g c =
    let w = g.W.Spawner in
    let shown = hub w.starts w.owed w.ended w.faults w.steady in
    let p = settled c.args.program.now in
    let o : Outset = record { program = p; jobs = c.args.jobs; command = c.args.command.now; first = shown c.args.spawner.now } in
    if_ok_both c.rest.result _ _ _ (λ runs later rested.
    headline c.members_are_sound.ensures c.failures_are_real.ensures c.no_whole_run_fails.ensures o (shown c.execute_all.new.spawner) c.execute_all.ensures.later c.requires.jobs.0 c.requires.whole
    (typed_fine p c.requires.whole.typed) c.in_ok-own.own.items runs.items later rested c.in_ok-own.ensures.over) c.rest.ensures.later c.rest.ensures.rested

pub returns-clause-starts : goal.returns-clause-starts
returns-clause-starts g c =
    let w = g.W.Spawner in
    let shown = hub w.starts w.owed w.ended w.faults w.steady in
    let o : Outset = record { program = settled c.args.program.now; jobs = c.args.jobs; command = c.args.command.now; first = shown c.args.spawner.now } in
    starts_by o (shown c.execute_all.new.spawner) c.execute_all.ensures.later c.execute_all.ensures.back

pub returns-clause-started : goal.returns-clause-started
returns-clause-started g c =
    let w = g.W.Spawner in
    let shown = hub w.starts w.owed w.ended w.faults w.steady in
    let o : Outset = record { program = settled c.args.program.now; jobs = c.args.jobs; command = c.args.command.now; first = shown c.args.spawner.now } in
    IfOk-weaker c.rest.result _ _
    (λ runs rest. started_by o (shown c.execute_all.new.spawner) c.execute_all.ensures.later c.execute_all.ensures.back c.in_ok-own.own.items runs.items rest c.in_ok-own.ensures.over) c.rest.ensures.later

pub returns-clause-handed_back : goal.returns-clause-handed_back
returns-clause-handed_back g c =
    let w = g.W.Spawner in
    let shown = hub w.starts w.owed w.ended w.faults w.steady in
    let o : Outset = record { program = settled c.args.program.now; jobs = c.args.jobs; command = c.args.command.now; first = shown c.args.spawner.now } in
    handed_back o (shown c.execute_all.new.spawner) c.execute_all.ensures.later c.execute_all.ensures.back

pub returns-clause-faults : goal.returns-clause-faults
returns-clause-faults g c = c.execute_all.ensures.later.faults

pub returns-clause-later : goal.returns-clause-later
returns-clause-later g c = record { more = c.execute_all.ensures.later.links; is = c.execute_all.ensures.later.ended }

pub returns-clause-steady : goal.returns-clause-steady
returns-clause-steady g c = λ steady room.
    let w = g.W.Spawner in
    let shown = hub w.starts w.owed w.ended w.faults w.steady in
    let o : Outset = record { program = settled c.args.program.now; jobs = c.args.jobs; command = c.args.command.now; first = shown c.args.spawner.now } in
    none_rose o (shown c.execute_all.new.spawner) c.execute_all.ensures.later c.execute_all.ensures.back c.requires.jobs.0 steady room
