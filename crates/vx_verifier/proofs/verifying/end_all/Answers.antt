use Rattle.std.proofs.Common.{◌≡◌, length, sym, ◌∙◌, arith}
use Rattle.vx_verifier.specs.Outsets.{hub}
use Rattle.vx_verifier.proofs.Ending.{ends_first, ends_held, ends_on}
use Rattle.vx_verifier.proofs.verifying.end_all.Goals as goal

pub lanes-init : goal.lanes-init
lanes-init g c =
    let w = g.W.Spawner in
    let k = g.W.Link.Link in
    let old = hub w.starts w.owed w.ended w.faults w.steady c.args.spawner.now in
    ends_first k.dialogue k.steady k.faults g.K.Begun.outset old c.args.lanes.items c.requires.held c.requires.numbered c.requires.steady

pub end-requires : goal.end-requires
end-requires g c =
    let w = g.W.Spawner in
    let k = g.W.Link.Link in
    let shown = hub w.starts w.owed w.ended w.faults w.steady in
    ends_held k.dialogue k.steady k.faults g.K.Begun.outset (shown c.args.spawner.now) (shown c.lanes.spawner) c.args.lanes.items c.lanes.lanes.items c.pop.new.self.items (c.in-Some._members, c.in-Some.line)
    c.lanes.invariant c.in-Some.ensures.items

pub lanes-preserved : goal.lanes-preserved
lanes-preserved g c =
    let w = g.W.Spawner in
    let k = g.W.Link.Link in
    let shown = hub w.starts w.owed w.ended w.faults w.steady in
    ends_on k.dialogue k.steady k.faults g.K.Begun.outset (shown c.args.spawner.now) (shown c.lanes.spawner) (shown c.end.new.spawner) c.args.lanes.items c.lanes.lanes.items c.pop.new.self.items (c.in-Some._members, c.in-Some.line)
    c.lanes.invariant c.in-Some.ensures.items c.end.ensures.back c.end.ensures.told c.end.ensures.moved

pub returns-clause-back : goal.returns-clause-back
returns-clause-back g c = λ i near.
    let none : length c.lanes.lanes.items ≡ 0 = sym c.lanes.lanes.ok.0 ∙ c.in_default.ensures.cases.0 in
    c.lanes.invariant.back i (omega (arith, none)) near

pub returns-clause-told : goal.returns-clause-told
returns-clause-told g c = λ i l at events tells.
    let none : length c.lanes.lanes.items ≡ 0 = sym c.lanes.lanes.ok.0 ∙ c.in_default.ensures.cases.0 in
    c.lanes.invariant.told i l (omega (arith, none)) at events tells
