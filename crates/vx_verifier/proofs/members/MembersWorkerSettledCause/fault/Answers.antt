use Rattle.std.proofs.Common.{◌≡◌, ◌-◌, ◌∙◌, ap, sym, subst, length}
use Rattle.vx_verifier.specs.Members.{is_spent, runs_events}
use Rattle.vx_verifier.proofs.Between.{amid, fewer_lost, fits_lost, lost_by, never_spent, told_lost}
use Rattle.vx_verifier.proofs.members.MembersWorkerSettledCause.fault.Goals as goal

pub returns-clause-fits : goal.returns-clause-fits
returns-clause-fits g c =
    let p = g.K.Begun.outset.program in
    let old = c.args.self.now in
    let new = c.put.new.self in
    let m = c.in-Asked.machine in
    let is = sym c.replace.ensures.value ∙ c.in-Asked.is in
    let w = amid p old.jobs old.lane old.next old.skip old.runs.items old.replies.items old.stage c.requires.fits.3 m is in
    let lost = lost_by p old.jobs old.lane old.next old.skip old.runs.items old.replies.items m c.args.cause new.runs.items new.replies.items w c.in_ok-put-in-Asked.ensures.run c.in_ok-put-in-Asked.ensures.replies in
    let lane = c.put.ensures.lane in (
      c.requires.fits.0,
      lane.1 ∙ c.requires.fits.1,
      c.requires.fits.2,
      λ fine.
          fits_lost p old.jobs old.lane old.next old.skip old.runs.items old.replies.items old.stage c.requires.fits.3 m c.args.cause new.jobs new.lane new.next new.skip new.runs.items new.replies.items is
          lane.1 lane.0 lane.2 lane.3 lost,
    )

pub returns-clause-told : goal.returns-clause-told
returns-clause-told g c =
    let p = g.K.Begun.outset.program in
    let old = c.args.self.now in
    let new = c.put.new.self in
    let m = c.in-Asked.machine in
    let is = sym c.replace.ensures.value ∙ c.in-Asked.is in
    let w = amid p old.jobs old.lane old.next old.skip old.runs.items old.replies.items old.stage c.requires.fits.3 m is in
    let lost = lost_by p old.jobs old.lane old.next old.skip old.runs.items old.replies.items m c.args.cause new.runs.items new.replies.items w c.in_ok-put-in-Asked.ensures.run c.in_ok-put-in-Asked.ensures.replies in
    lost.told ∙ sym (told_lost p (runs_events p old.runs.items old.replies.items) old.stage c.args.cause m is)

pub returns-clause-fewer : goal.returns-clause-fewer
returns-clause-fewer g c =
    let p = g.K.Begun.outset.program in
    let old = c.args.self.now in
    let new = c.put.new.self in
    let m = c.in-Asked.machine in
    let is = sym c.replace.ensures.value ∙ c.in-Asked.is in
    let w = amid p old.jobs old.lane old.next old.skip old.runs.items old.replies.items old.stage c.requires.fits.3 m is in
    let lost = lost_by p old.jobs old.lane old.next old.skip old.runs.items old.replies.items m c.args.cause new.runs.items new.replies.items w c.in_ok-put-in-Asked.ensures.run c.in_ok-put-in-Asked.ensures.replies in
    fewer_lost (length p - old.next) (length p - new.next) old.stage m is (ap (λ k. length p - k) c.put.ensures.lane.2) (lost.fewer (length p - old.next))

pub returns-in_err-put-in-Asked-clause-fits : goal.returns-in_err-put-in-Asked-clause-fits
returns-in_err-put-in-Asked-clause-fits g c = (
  c.requires.fits.0,
  c.put.ensures.lane.1 ∙ c.requires.fits.1,
  c.requires.fits.2,
  λ fine. never_spent c.put.new.self.stage _ c.replace.ensures.after c.put.ensures.stage fine,
)
