use Rattle.std.proofs.Common.{None, length}
use Rattle.std.proofs.lemmas.Option.{slice_get_within}
use Rattle.cs_certificate.specs.declared.literal.Literal.{Literal}
use Rattle.cs_search.specs.declared.Value.TheVariants.{Unset}
use Rattle.cs_search.specs.declared.Entry.{Entry}
use Rattle.cs_search.proofs.Passes.{fewer}
use Rattle.cs_search.proofs.Rounds.{decided_search, unset_unassigned, all_satisfied, set_over, get_over}
use Rattle.cs_search.proofs.Rewinds.{queued_decided}
use Rattle.cs_search.proofs.search.decide.Goals as goal

pub returns-in_ok-assign-in-Some-clause-sound : goal.returns-in_ok-assign-in-Some-clause-sound
returns-in_ok-assign-in-Some-clause-sound c =
    let s = c.args.search.now in
    let n = c.assign.new.made in
    let l : Literal = record { positive = c.sign.result; number = c.in-Some.atom } in
    let e : Entry = record { literal = l; reason = None } in
    let at = get_over s.made.values.items _ c.in-Some.atom c.deref.ensures.value c.in-Some.ensures.some in
    let ok = c.in_ok-assign-in-Some.ensures in
    let sound = decided_search s.clauses.items s.made.values.items n.values.items s.made.trail.items n.trail.items l c.requires.sound.sound c.requires.closed (unset_unassigned s.made.values.items l at) (slice_get_within s.made.values.items c.in-Some.atom Unset at) ok.values ok.trail in
    record {
      sound = sound;
      queued = queued_decided s.clauses.items s.made.values.items n.values.items s.made.trail.items n.trail.items e s.queue c.requires.sound.sound.sound sound.sound ok.trail c.requires.walked c.requires.sound.queued;
    }

pub returns-in_ok-assign-in-Some-clause-decided : goal.returns-in_ok-assign-in-Some-clause-decided
returns-in_ok-assign-in-Some-clause-decided c t =
    let s = c.args.search.now in
    let l : Literal = record { positive = c.sign.result; number = c.in-Some.atom } in
    let at = get_over s.made.values.items _ c.in-Some.atom c.deref.ensures.value c.in-Some.ensures.some in
    fewer s.made.values.items _ l (length s.made.trail.items) (slice_get_within s.made.values.items c.in-Some.atom Unset at) (unset_unassigned s.made.values.items l at) c.in_ok-assign-in-Some.ensures.values

pub returns-in-None-clause-satisfied : goal.returns-in-None-clause-satisfied
returns-in-None-clause-satisfied c t =
    let s = c.args.search.now in
    all_satisfied s.clauses.items s.made.values.items s.made.trail.items c.requires.sound.sound c.requires.closed (set_over s.made.values.items _ c.deref.ensures.value c.in-None.ensures.none)
