use Rattle.cs_search.proofs.Learns.{trail_over}
use Rattle.cs_search.proofs.Rewinds.{queued_back, rewound_over}
use Rattle.cs_search.proofs.search.back_to.Goals as goal

pub returns-clause-queued : goal.returns-clause-queued
returns-clause-queued c =
    let s = c.args.search.now in
    let n = c.take_back.new.made in
    queued_back s.clauses.items s.made.values.items n.values.items s.made.trail.items n.trail.items c.args.cut s.queue c.rewind.new.queue c.requires.sound.sound.sound (trail_over s.clauses.items _ _ _ c.deref-3.ensures.value c.take_back.ensures.sound)
    c.take_back.ensures.trail c.requires.room (rewound_over s.made.trail.items _ c.args.cut s.queue c.rewind.new.queue c.deref.ensures.value c.rewind.ensures) c.requires.sound.queued
