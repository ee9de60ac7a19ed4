use Rattle.std.proofs.Common.{◌≡◌, ◌<◌, ◌++◌, length, map, take, drop, reverse, ap, ◌∙◌, sym, subst}
use Rattle.std.proofs.lemmas.Result.{IfOk-weaker}
use Rattle.std.specs.declared.vec.Vec.{Vec}
use Rattle.std.specs.declared.alloc.Global.{Global}
use Rattle.vx_smt_meaning.specs.Views.{declared_symbol}
use Rattle.vx_report.specs.declared.run.MemberRun.{MemberRun}
use Rattle.vx_resolved.specs.Settled.{settled}
use Rattle.vx_verifier.specs.Going.{later_on, later_same}
use Rattle.vx_verifier.specs.Outsets.{Hub, Outset, hub}
use Rattle.vx_verifier.specs.Steady.{AsksSpelled}
use Rattle.vx_verifier.specs.Verifying.{AreBack, AreFresh, AreHeldOver, AreNumbered, AreToldOver}
use Rattle.vx_verifier.proofs.Executing.{are_over, length_same, not_spent}
use Rattle.vx_verifier.proofs.Fresh.{fresh_numbered, held_lines, lent, numbered_apart, numbered_lines, numbered_on, readied}
use Rattle.vx_verifier.proofs.Headlines.{back_first}
use Rattle.vx_verifier.proofs.verifying.execute_all.Goals as goal

pub returns-in_err-lanes-clause-back : goal.returns-in_err-lanes-clause-back
returns-in_err-lanes-clause-back g c = subst (λ (h : Hub). AreBack g.K.Begun.outset h) (ap (λ (x : Outset). x.first) c.requires.outset) (back_first g.K.Begun.outset)

pub returns-in_err-lanes-clause-later : goal.returns-in_err-lanes-clause-later
returns-in_err-lanes-clause-later g c =
    let w = g.W.Spawner in
    later_same g.K.Begun.outset (hub w.starts w.owed w.ended w.faults w.steady c.args.spawner.now)

pub run-done-requires-clause-apart : goal.run-done-requires-clause-apart
run-done-requires-clause-apart g c =
    let fs = map declared_symbol c.args.functions.now in
    let lanes = c.deref_mut.result.now in
    let fresh = subst (λ ls. AreFresh c.args.jobs c.args.command.now fs ls) (sym c.deref_mut.ensures.value) c.in_ok-lanes.ensures.fresh in
    numbered_apart lanes (fresh_numbered c.args.jobs c.args.command.now fs lanes fresh)

pub run-done-requires-clause-free : goal.run-done-requires-clause-free
run-done-requires-clause-free g c = λ i l at.
    let w = g.W.Spawner in
    let k = g.W.Link.Link in
    let o = g.K.Begun.outset in
    let shown = hub w.starts w.owed w.ended w.faults w.steady in
    let fs = map declared_symbol c.args.functions.now in
    let lanes = c.deref_mut.result.now in
    let fresh = subst (λ ls. AreFresh c.args.jobs c.args.command.now fs ls) (sym c.deref_mut.ensures.value) c.in_ok-lanes.ensures.fresh in
    let program = sym (ap (λ (x : Outset). x.program) c.requires.outset) in
    let s = readied k.dialogue k.steady k.faults o (shown c.args.spawner.now) (settled c.args.program.now) c.args.jobs c.args.command.now fs c.requires.outset c.requires.functions c.requires.jobs lanes fresh
    (ap length c.deref_mut.ensures.value ∙ c.in_ok-lanes.ensures.each) i l at in
    record { fits = (program, s.jobs, subst AsksSpelled program c.requires.spelled, λ fine. s.working); same = s.same; held = s.held; none = s.none; told = s.told }

pub end_all-requires-clause-held : goal.end_all-requires-clause-held
end_all-requires-clause-held g c =
    let w = g.W.Spawner in
    let k = g.W.Link.Link in
    let o = g.K.Begun.outset in
    let shown = hub w.starts w.owed w.ended w.faults w.steady in
    let first = c.in_ok-lanes.lanes in
    let ran = c.run-done.new.lanes in
    let taken = c.take_runs-piles.new.lanes in
    let behind = drop (length ran) first.items in
    let is = lent first.len c.deref_mut.result.now ran behind c.deref_mut-2.result.now taken (drop (length taken) (take first.len (ran ++ behind))) c.run-done.ensures.numbers c.deref_mut.ensures.len c.deref_mut-2.ensures.value
    c.take_runs-piles.ensures.lines in
    subst (λ ls. AreHeldOver k.steady k.faults o (shown c.run-done.new.hub) ls) (sym is.last_is)
    (held_lines k.steady k.faults o (shown c.run-done.new.hub) taken ran is.lines c.run-done.ensures.held)

pub end_all-requires-clause-numbered : goal.end_all-requires-clause-numbered
end_all-requires-clause-numbered g c =
    let fs = map declared_symbol c.args.functions.now in
    let lanes = c.deref_mut.result.now in
    let fresh = subst (λ ls. AreFresh c.args.jobs c.args.command.now fs ls) (sym c.deref_mut.ensures.value) c.in_ok-lanes.ensures.fresh in
    let first = c.in_ok-lanes.lanes in
    let ran = c.run-done.new.lanes in
    let taken = c.take_runs-piles.new.lanes in
    let behind = drop (length ran) first.items in
    let is = lent first.len c.deref_mut.result.now ran behind c.deref_mut-2.result.now taken (drop (length taken) (take first.len (ran ++ behind))) c.run-done.ensures.numbers c.deref_mut.ensures.len c.deref_mut-2.ensures.value
    c.take_runs-piles.ensures.lines in
    let numbered = numbered_on ran lanes c.run-done.ensures.numbers (fresh_numbered c.args.jobs c.args.command.now fs lanes fresh) in
    subst (λ ls. AreNumbered ls) (sym is.last_is) (numbered_lines taken ran is.lines numbered)

pub returns-in_err-done-clause-back : goal.returns-in_err-done-clause-back
returns-in_err-done-clause-back g c = λ lane below.
    let first = c.in_ok-lanes.lanes in
    let ran = c.run-done.new.lanes in
    let taken = c.take_runs-piles.new.lanes in
    let behind = drop (length ran) first.items in
    let is = lent first.len c.deref_mut.result.now ran behind c.deref_mut-2.result.now taken (drop (length taken) (take first.len (ran ++ behind))) c.run-done.ensures.numbers c.deref_mut.ensures.len c.deref_mut-2.ensures.value
    c.take_runs-piles.ensures.lines in
    let many : first.len ≡ g.K.Begun.outset.jobs = first.ok.0 ∙ (c.in_ok-lanes.ensures.each ∙ sym (ap (λ (x : Outset). x.jobs) c.requires.outset)) in
    c.end_all.ensures.back lane (subst (λ n. lane < n) (sym (ap length is.last_is ∙ (is.taken_count ∙ many))) below)

pub returns-in_err-done-clause-later : goal.returns-in_err-done-clause-later
returns-in_err-done-clause-later g c =
    let w = g.W.Spawner in
    let shown = hub w.starts w.owed w.ended w.faults w.steady in
    later_on g.K.Begun.outset (shown c.args.spawner.now) (shown c.run-done.new.hub) (shown c.end_all.new.spawner) c.run-done.ensures.later c.end_all.ensures.later

pub returns-in_err-piles-clause-back : goal.returns-in_err-piles-clause-back
returns-in_err-piles-clause-back g c = λ lane below.
    let first = c.in_ok-lanes.lanes in
    let ran = c.run-done.new.lanes in
    let taken = c.take_runs-piles.new.lanes in
    let behind = drop (length ran) first.items in
    let is = lent first.len c.deref_mut.result.now ran behind c.deref_mut-2.result.now taken (drop (length taken) (take first.len (ran ++ behind))) c.run-done.ensures.numbers c.deref_mut.ensures.len c.deref_mut-2.ensures.value
    c.take_runs-piles.ensures.lines in
    let many : first.len ≡ g.K.Begun.outset.jobs = first.ok.0 ∙ (c.in_ok-lanes.ensures.each ∙ sym (ap (λ (x : Outset). x.jobs) c.requires.outset)) in
    c.end_all.ensures.back lane (subst (λ n. lane < n) (sym (ap length is.last_is ∙ (is.taken_count ∙ many))) below)

pub returns-in_err-piles-clause-later : goal.returns-in_err-piles-clause-later
returns-in_err-piles-clause-later g c =
    let w = g.W.Spawner in
    let shown = hub w.starts w.owed w.ended w.faults w.steady in
    later_on g.K.Begun.outset (shown c.args.spawner.now) (shown c.run-done.new.hub) (shown c.end_all.new.spawner) c.run-done.ensures.later c.end_all.ensures.later

pub deal_out-requires : goal.deal_out-requires
deal_out-requires g c =
    let first = c.in_ok-lanes.lanes in
    let ran = c.run-done.new.lanes in
    let taken = c.take_runs-piles.new.lanes in
    let behind = drop (length ran) first.items in
    let is = lent first.len c.deref_mut.result.now ran behind c.deref_mut-2.result.now taken (drop (length taken) (take first.len (ran ++ behind))) c.run-done.ensures.numbers c.deref_mut.ensures.len c.deref_mut-2.ensures.value
    c.take_runs-piles.ensures.lines in
    let piles = c.in_ok-piles.piles.items in
    let count : length piles ≡ length c.deref_mut-2.result.now = length_same (λ (p : Vec MemberRun Global). reverse p.items) (λ l. l.0.runs.items) piles c.deref_mut-2.result.now c.in_ok-piles.ensures.taken in
    let many : length c.deref_mut-3.result.now ≡ c.args.jobs =
    ap length c.deref_mut-3.ensures.value ∙ (count ∙ (ap length is.again_is ∙ (is.count ∙ (first.ok.0 ∙ c.in_ok-lanes.ensures.each)))) in
    subst (λ n. 0 < n) (sym many) c.requires.jobs

pub returns-clause-over : goal.returns-clause-over
returns-clause-over g c =
    let w = g.W.Spawner in
    let k = g.W.Link.Link in
    let o = g.K.Begun.outset in
    let shown = hub w.starts w.owed w.ended w.faults w.steady in
    let fs = map declared_symbol c.args.functions.now in
    let lanes = c.deref_mut.result.now in
    let fresh = subst (λ ls. AreFresh c.args.jobs c.args.command.now fs ls) (sym c.deref_mut.ensures.value) c.in_ok-lanes.ensures.fresh in
    let first = c.in_ok-lanes.lanes in
    let ran = c.run-done.new.lanes in
    let taken = c.take_runs-piles.new.lanes in
    let behind = drop (length ran) first.items in
    let is = lent first.len c.deref_mut.result.now ran behind c.deref_mut-2.result.now taken (drop (length taken) (take first.len (ran ++ behind))) c.run-done.ensures.numbers c.deref_mut.ensures.len c.deref_mut-2.ensures.value
    c.take_runs-piles.ensures.lines in
    let numbered = numbered_on ran lanes c.run-done.ensures.numbers (fresh_numbered c.args.jobs c.args.command.now fs lanes fresh) in
    let old = c.deref_mut-3.result.now in
    let many : length ran ≡ o.jobs = is.count ∙ (first.ok.0 ∙ (c.in_ok-lanes.ensures.each ∙ sym (ap (λ (x : Outset). x.jobs) c.requires.outset))) in
    let told = subst (λ ls. AreToldOver k.dialogue o (shown c.run-done.new.hub) (shown c.end_all.new.spawner) ls) is.last_is c.end_all.ensures.told in
    let piles_are : map (λ (p : Vec MemberRun Global). reverse p.items) old ≡ map (λ l. l.0.runs.items) ran =
    ap (map (λ (p : Vec MemberRun Global). reverse p.items)) c.deref_mut-3.ensures.value ∙ (c.in_ok-piles.ensures.taken ∙ ap (map (λ l. l.0.runs.items)) is.again_is) in
    IfOk-weaker c.deal_out.result _ _ (λ runs deal. are_over k.dialogue o (shown c.run-done.new.hub) (shown c.end_all.new.spawner) ran taken old runs.items (λ i l at.
    let d = c.in_ok-done.ensures.done i l at in
    record { jobs = d.free.fits.1; working = d.free.fits.3 (not_spent l.0.stage d.done); ended = d.done; same = d.free.same; told = d.free.told })
    numbered many is.lines told piles_are deal) c.deal_out.ensures

pub returns-clause-back : goal.returns-clause-back
returns-clause-back g c = λ lane below.
    let first = c.in_ok-lanes.lanes in
    let ran = c.run-done.new.lanes in
    let taken = c.take_runs-piles.new.lanes in
    let behind = drop (length ran) first.items in
    let is = lent first.len c.deref_mut.result.now ran behind c.deref_mut-2.result.now taken (drop (length taken) (take first.len (ran ++ behind))) c.run-done.ensures.numbers c.deref_mut.ensures.len c.deref_mut-2.ensures.value
    c.take_runs-piles.ensures.lines in
    let many : first.len ≡ g.K.Begun.outset.jobs = first.ok.0 ∙ (c.in_ok-lanes.ensures.each ∙ sym (ap (λ (x : Outset). x.jobs) c.requires.outset)) in
    c.end_all.ensures.back lane (subst (λ n. lane < n) (sym (ap length is.last_is ∙ (is.taken_count ∙ many))) below)

pub returns-clause-later : goal.returns-clause-later
returns-clause-later g c =
    let w = g.W.Spawner in
    let shown = hub w.starts w.owed w.ended w.faults w.steady in
    later_on g.K.Begun.outset (shown c.args.spawner.now) (shown c.run-done.new.hub) (shown c.end_all.new.spawner) c.run-done.ensures.later c.end_all.ensures.later
