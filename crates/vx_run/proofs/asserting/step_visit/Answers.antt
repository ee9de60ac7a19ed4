use Rattle.std.proofs.Common.{sym, ap}
use Rattle.vx_resolved.specs.Settled.{settled}
use Rattle.vx_run.specs.Configs.{Setting}
use Rattle.vx_run.specs.ConfigViews.{config_of}
use Rattle.vx_run.specs.Supplies.{supply}
use Rattle.vx_run.specs.Frames.{rest, before}
use Rattle.vx_run.specs.Visits.{act}
use Rattle.vx_run.specs.declared.visit.Visit.{Visit}
use Rattle.vx_run.proofs.Steps.{follows_as, follows_on}
use Rattle.vx_run.proofs.asserting.step_visit.Goals as goal

pub returns-in-Whole : goal.returns-in-Whole
returns-in-Whole c =
    let t : Setting = record { program = settled c.args.program.now; steps = c.args.steps } in
    let l = supply c.args.from.now in
    let k = rest t c.args.frames.now.items in
    follows_as _ _ _ _ (c.visit_whole.ensures t l) (ap (λ (f : Visit). before (act t f) k (config_of c.args.of.now) l) (sym c.in-Whole.is))

pub returns-in-All : goal.returns-in-All
returns-in-All c =
    let t : Setting = record { program = settled c.args.program.now; steps = c.args.steps } in
    let l = supply c.args.from.now in
    let k = rest t c.args.frames.now.items in
    follows_as _ _ _ _ (c.visit_all.ensures t l) (ap (λ (f : Visit). before (act t f) k (config_of c.args.of.now) l) (sym c.in-All.is))

pub returns-in-Ask : goal.returns-in-Ask
returns-in-Ask c =
    let t : Setting = record { program = settled c.args.program.now; steps = c.args.steps } in
    let l = supply c.args.from.now in
    let k = rest t c.args.frames.now.items in
    follows_as _ _ _ _ (follows_on _ _ _ _ k (c.ask_newest.ensures t l)) (ap (λ (f : Visit). before (act t f) k (config_of c.args.of.now) l) (sym c.in-Ask.is))

pub returns-in-Imply : goal.returns-in-Imply
returns-in-Imply c =
    let t : Setting = record { program = settled c.args.program.now; steps = c.args.steps } in
    let l = supply c.args.from.now in
    let k = rest t c.args.frames.now.items in
    follows_as _ _ _ _ (c.imply_newest.ensures t l) (ap (λ (f : Visit). before (act t f) k (config_of c.args.of.now) l) (sym c.in-Imply.is))

pub returns-in-Choose : goal.returns-in-Choose
returns-in-Choose c =
    let t : Setting = record { program = settled c.args.program.now; steps = c.args.steps } in
    let l = supply c.args.from.now in
    let k = rest t c.args.frames.now.items in
    follows_as _ _ _ _ (c.choose_newest.ensures t l) (ap (λ (f : Visit). before (act t f) k (config_of c.args.of.now) l) (sym c.in-Choose.is))

pub returns-in-Points : goal.returns-in-Points
returns-in-Points c =
    let t : Setting = record { program = settled c.args.program.now; steps = c.args.steps } in
    let l = supply c.args.from.now in
    let k = rest t c.args.frames.now.items in
    follows_as _ _ _ _ (c.point_newest.ensures) (ap (λ (f : Visit). before (act t f) k (config_of c.args.of.now) l) (sym c.in-Points.is))

pub returns-in-Folded : goal.returns-in-Folded
returns-in-Folded c =
    let t : Setting = record { program = settled c.args.program.now; steps = c.args.steps } in
    let l = supply c.args.from.now in
    let k = rest t c.args.frames.now.items in
    follows_as _ _ _ _ (c.fold_newest.ensures) (ap (λ (f : Visit). before (act t f) k (config_of c.args.of.now) l) (sym c.in-Folded.is))

pub returns-in-Fill : goal.returns-in-Fill
returns-in-Fill c =
    let t : Setting = record { program = settled c.args.program.now; steps = c.args.steps } in
    let l = supply c.args.from.now in
    let k = rest t c.args.frames.now.items in
    follows_as _ _ _ _ (c.fill_instance.ensures c.args.steps) (ap (λ (f : Visit). before (act t f) k (config_of c.args.of.now) l) (sym c.in-Fill.is))

pub returns-in-Given : goal.returns-in-Given
returns-in-Given c =
    let t : Setting = record { program = settled c.args.program.now; steps = c.args.steps } in
    let l = supply c.args.from.now in
    let k = rest t c.args.frames.now.items in
    follows_as _ _ _ _ (follows_on _ _ _ _ k (c.go_on_in.ensures l)) (ap (λ (f : Visit). before (act t f) k (config_of c.args.of.now) l) (sym c.in-Given.is))
