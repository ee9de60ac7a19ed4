use Rattle.std.proofs.Common.{◌≡◌, ◌∙◌, ◌++◌, length, map, take, drop, ap, subst, sym}
use Rattle.std.proofs.lemmas.List.{take_at}
use Rattle.vx_resolved.specs.Settled.{settled}
use Rattle.vx_report.specs.Reports.{RestWithin}
use Rattle.vx_resting.specs.Held.{AreFirst, rested}
use Rattle.vx_resting.specs.Resting.{AreLater, AreRested}
use Rattle.vx_resting.proofs.Later.{are_later, are_rested, rest_within}
use Rattle.vx_resting.proofs.resting.rest.Goals as goal

pub returns : goal.returns
returns c =
    let p = settled c.args.program.now in
    let held = c.in_ok-held.held.items in
    let runs = c.args.runs.items in
    let new = c.rest_runs.new.runs in
    let first = subst (λ rs. AreFirst p rs held) c.deref.ensures.value c.in_ok-held.ensures.first in
    let written : new ≡ map (rested held) runs = c.rest_runs.ensures ∙ ap (λ h. map (rested h) c.deref_mut.result.now) c.deref-2.ensures.value ∙ ap (map (rested held)) c.deref_mut.ensures.value in
    let made : map (rested held) runs ≡ take c.args.runs.len (new ++ drop (length new) runs) = sym (take_at new (drop (length new) runs) c.args.runs.len (c.rest_runs.auto.runs ∙ c.deref_mut.ensures.len) ∙ written) in
    record {
      later = subst (AreLater runs) made (are_later held runs);
      rested = subst (AreRested p) made (are_rested p held runs first c.requires.named c.requires.alone);
      within = subst (RestWithin p) made (rest_within p held runs first c.requires.named c.requires.alone);
    }
