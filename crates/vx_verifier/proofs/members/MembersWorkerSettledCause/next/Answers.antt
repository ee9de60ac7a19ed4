use Rattle.std.proofs.Common.{◌≡◌, ◌-◌, ◌∙◌, IfOk, ap, sym, subst, length}
use Rattle.std.proofs.lemmas.Result.{IfOk-weaker}
use Rattle.vx_ast.specs.Syntax.{Program}
use Rattle.vx_verifier.specs.Members.{AreRuns, Begins, GoesTo, IsMember}
use Rattle.vx_verifier.specs.Steady.{AsksSpelled}
use Rattle.vx_verifier.proofs.Between.{amid, awaited_of, between, fewer_begun, fewer_gone, fits_begun, fits_gone, spent_after, tells_begun, tells_gone}
use Rattle.vx_verifier.proofs.members.MembersWorkerSettledCause.next.Goals as goal

pub begin-requires-clause-jobs : goal.begin-requires-clause-jobs
begin-requires-clause-jobs g c =
    let old = c.args.self.now in
    (between g.K.Begun.outset.program old.jobs old.lane old.next old.skip old.runs.items old.replies.items old.stage c.requires.fits.3 (sym c.replace.ensures.value ∙ c.in-Between.is)).some

pub begin-requires-clause-runs : goal.begin-requires-clause-runs
begin-requires-clause-runs g c =
    let old = c.args.self.now in
    subst (λ (p : Program). AreRuns p old.lane 0 old.runs.items old.replies.items) (sym c.requires.fits.0)
    (between g.K.Begun.outset.program old.jobs old.lane old.next old.skip old.runs.items old.replies.items old.stage c.requires.fits.3 (sym c.replace.ensures.value ∙ c.in-Between.is)).runs_are

pub begin-requires-clause-spelled : goal.begin-requires-clause-spelled
begin-requires-clause-spelled g c = subst AsksSpelled (sym c.requires.fits.0) c.requires.fits.2

pub returns-in-Between-clause-fits : goal.returns-in-Between-clause-fits
returns-in-Between-clause-fits g c =
    let p = g.K.Begun.outset.program in
    let old = c.args.self.now in
    let new = c.begin.new.self in
    let begun = subst (λ (q : Program). IfOk c.begin.result (Begins q old.jobs old.lane old.next old.skip old.runs.items old.replies.items new.next new.skip new.runs.items new.replies.items new.stage))
    c.requires.fits.0 c.begin.ensures.begun in (
      c.requires.fits.0,
      c.begin.ensures.lane.1 ∙ c.requires.fits.1,
      c.requires.fits.2,
      fits_begun p old.jobs old.lane old.next old.skip old.runs.items old.replies.items old.stage c.requires.fits.3 new.jobs new.lane new.next new.skip new.runs.items new.replies.items new.stage c.begin.result
          (sym c.replace.ensures.value ∙ c.in-Between.is) c.begin.ensures.lane.1 c.begin.ensures.lane.0 begun (spent_after c.begin.result new.stage _ c.replace.ensures.after c.begin.ensures.spent),
    )

pub returns-in-Between-clause-told : goal.returns-in-Between-clause-told
returns-in-Between-clause-told g c =
    let p = g.K.Begun.outset.program in
    let old = c.args.self.now in
    let new = c.begin.new.self in
    let begun = subst (λ (q : Program). IfOk c.begin.result (Begins q old.jobs old.lane old.next old.skip old.runs.items old.replies.items new.next new.skip new.runs.items new.replies.items new.stage))
    c.requires.fits.0 c.begin.ensures.begun in
    tells_begun p old.lane old.runs.items old.replies.items old.stage c.args.reply new.runs.items new.replies.items new.stage old.jobs old.next old.skip new.next new.skip c.begin.result
    (sym c.replace.ensures.value ∙ c.in-Between.is) begun

pub returns-in-Between-clause-open : goal.returns-in-Between-clause-open
returns-in-Between-clause-open g c = IfOk-weaker c.begin.result _ _ (λ what b. b.asks) c.begin.ensures.begun

pub returns-in-Between-clause-postable : goal.returns-in-Between-clause-postable
returns-in-Between-clause-postable g c = IfOk-weaker c.begin.result _ _ (λ what b. b.postable) c.begin.ensures.begun

pub returns-in-Between-clause-goes_on : goal.returns-in-Between-clause-goes_on
returns-in-Between-clause-goes_on g c =
    let old = c.args.self.now in
    let new = c.begin.new.self in
    let begun = subst (λ (q : Program). IfOk c.begin.result (Begins q old.jobs old.lane old.next old.skip old.runs.items old.replies.items new.next new.skip new.runs.items new.replies.items new.stage))
    c.requires.fits.0 c.begin.ensures.begun in
    IfOk-weaker c.begin.result _ _ (λ what b. b.goes_on) begun

pub returns-in-Between-clause-end : goal.returns-in-Between-clause-end
returns-in-Between-clause-end g c = IfOk-weaker c.begin.result _ _ (λ what b. b.end) c.begin.ensures.begun

pub returns-in-Between-clause-fewer : goal.returns-in-Between-clause-fewer
returns-in-Between-clause-fewer g c =
    let p = g.K.Begun.outset.program in
    let old = c.args.self.now in
    let new = c.begin.new.self in
    let begun = subst (λ (q : Program). IfOk c.begin.result (Begins q old.jobs old.lane old.next old.skip old.runs.items old.replies.items new.next new.skip new.runs.items new.replies.items new.stage))
    c.requires.fits.0 c.begin.ensures.begun in
    IfOk-weaker c.begin.result _ _
    (λ what b. fewer_begun old.stage c.args.reply c.requires.awaited (length p - old.next) (length p - new.next) new.stage (sym c.replace.ensures.value ∙ c.in-Between.is) b.fewer) begun

pub go_on-requires-clause-awaited : goal.go_on-requires-clause-awaited
go_on-requires-clause-awaited g c = awaited_of c.args.self.now.stage c.args.reply c.requires.awaited c.in-Asked.machine (sym c.replace.ensures.value ∙ c.in-Asked.is)

pub go_on-requires-clause-member : goal.go_on-requires-clause-member
go_on-requires-clause-member g c =
    let old = c.args.self.now in
    subst (λ (p : Program). IsMember p c.in-Asked.machine) (sym c.requires.fits.0)
    (amid g.K.Begun.outset.program old.jobs old.lane old.next old.skip old.runs.items old.replies.items old.stage c.requires.fits.3 c.in-Asked.machine (sym c.replace.ensures.value ∙ c.in-Asked.is)).at.0

pub go_on-requires-clause-runs : goal.go_on-requires-clause-runs
go_on-requires-clause-runs g c =
    let old = c.args.self.now in
    subst (λ (p : Program). AreRuns p old.lane 0 old.runs.items old.replies.items) (sym c.requires.fits.0)
    (amid g.K.Begun.outset.program old.jobs old.lane old.next old.skip old.runs.items old.replies.items old.stage c.requires.fits.3 c.in-Asked.machine (sym c.replace.ensures.value ∙ c.in-Asked.is)).runs_are

pub go_on-requires-clause-spelled : goal.go_on-requires-clause-spelled
go_on-requires-clause-spelled g c = subst AsksSpelled (sym c.requires.fits.0) c.requires.fits.2

pub returns-in-Asked-clause-fits : goal.returns-in-Asked-clause-fits
returns-in-Asked-clause-fits g c =
    let p = g.K.Begun.outset.program in
    let old = c.args.self.now in
    let new = c.go_on.new.self in
    let m = c.in-Asked.machine in
    let lane = c.go_on.ensures.lane in
    let goes = subst (λ (q : Program). IfOk c.go_on.result (GoesTo q old.lane old.runs.items old.replies.items m c.args.reply new.runs.items new.replies.items new.stage)) c.requires.fits.0 c.go_on.ensures.goes in (
      c.requires.fits.0,
      lane.1 ∙ c.requires.fits.1,
      c.requires.fits.2,
      fits_gone p old.jobs old.lane old.next old.skip old.runs.items old.replies.items old.stage c.requires.fits.3 m c.args.reply new.jobs new.lane new.next new.skip new.runs.items new.replies.items new.stage c.go_on.result
          (sym c.replace.ensures.value ∙ c.in-Asked.is) lane.1 lane.0 lane.2 lane.3 goes (spent_after c.go_on.result new.stage _ c.replace.ensures.after c.go_on.ensures.spent),
    )

pub returns-in-Asked-clause-told : goal.returns-in-Asked-clause-told
returns-in-Asked-clause-told g c =
    let p = g.K.Begun.outset.program in
    let old = c.args.self.now in
    let new = c.go_on.new.self in
    let m = c.in-Asked.machine in
    let goes = subst (λ (q : Program). IfOk c.go_on.result (GoesTo q old.lane old.runs.items old.replies.items m c.args.reply new.runs.items new.replies.items new.stage)) c.requires.fits.0 c.go_on.ensures.goes in
    tells_gone p old.lane old.runs.items old.replies.items old.stage c.args.reply new.runs.items new.replies.items new.stage m c.go_on.result (sym c.replace.ensures.value ∙ c.in-Asked.is) goes

pub returns-in-Asked-clause-open : goal.returns-in-Asked-clause-open
returns-in-Asked-clause-open g c = IfOk-weaker c.go_on.result _ _ (λ what one. one.asks) c.go_on.ensures.goes

pub returns-in-Asked-clause-postable : goal.returns-in-Asked-clause-postable
returns-in-Asked-clause-postable g c = IfOk-weaker c.go_on.result _ _ (λ what one. one.postable) c.go_on.ensures.goes

pub returns-in-Asked-clause-goes_on : goal.returns-in-Asked-clause-goes_on
returns-in-Asked-clause-goes_on g c =
    let old = c.args.self.now in
    let new = c.go_on.new.self in
    let m = c.in-Asked.machine in
    let goes = subst (λ (q : Program). IfOk c.go_on.result (GoesTo q old.lane old.runs.items old.replies.items m c.args.reply new.runs.items new.replies.items new.stage)) c.requires.fits.0 c.go_on.ensures.goes in
    IfOk-weaker c.go_on.result _ _ (λ what one. one.goes_on) goes

pub returns-in-Asked-clause-end : goal.returns-in-Asked-clause-end
returns-in-Asked-clause-end g c = IfOk-weaker c.go_on.result _ _ (λ what one. one.on.1 ∙ sym one.on.0) c.go_on.ensures.goes

pub returns-in-Asked-clause-fewer : goal.returns-in-Asked-clause-fewer
returns-in-Asked-clause-fewer g c =
    let p = g.K.Begun.outset.program in
    let old = c.args.self.now in
    let new = c.go_on.new.self in
    let m = c.in-Asked.machine in
    let is = sym c.replace.ensures.value ∙ c.in-Asked.is in
    let awaited = (amid p old.jobs old.lane old.next old.skip old.runs.items old.replies.items old.stage c.requires.fits.3 m is).at.1 in
    let goes = subst (λ (q : Program). IfOk c.go_on.result (GoesTo q old.lane old.runs.items old.replies.items m c.args.reply new.runs.items new.replies.items new.stage)) c.requires.fits.0 c.go_on.ensures.goes in
    IfOk-weaker c.go_on.result _ _
    (λ what one. fewer_gone old.stage c.args.reply c.requires.awaited (length p - old.next) (length p - new.next) new.stage m is awaited (ap (λ k. length p - k) c.go_on.ensures.lane.2)
    (one.fewer (length p - old.next))) goes
