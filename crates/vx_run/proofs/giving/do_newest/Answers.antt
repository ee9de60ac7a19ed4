use Rattle.std.proofs.Common.{sym, ap}
use Rattle.vx_frac.specs.Fraction.{fraction}
use Rattle.vx_resolved.specs.Settled.{settled}
use Rattle.vx_run.specs.Configs.{Setting}
use Rattle.vx_run.specs.ConfigViews.{config_of}
use Rattle.vx_run.specs.Supplies.{supply}
use Rattle.vx_run.specs.Frames.{rest, before}
use Rattle.vx_run.specs.Held.{resource}
use Rattle.vx_run.specs.Visits.{doing}
use Rattle.vx_run.specs.declared.visit.Manner.{Manner}
use Rattle.vx_run.proofs.Steps.{follows_as, follows_on}
use Rattle.vx_run.proofs.giving.do_newest.Goals as goal

pub returns-in-Take : goal.returns-in-Take
returns-in-Take c =
    let t : Setting = record { program = settled c.args.program.now; steps = c.args.steps } in
    let l = supply c.args.from.now in
    let g = rest t c.args.frames.now.items in
    follows_as _ _ _ _ (follows_on _ _ _ _ g (c.take_newest.ensures t l)) (ap (λ (m : Manner). before (doing t c.args.k m c.args.at (resource c.args.r, fraction c.args.a)) g (config_of c.args.of.now) l) (sym c.in-Take.is))

pub returns-in-Add : goal.returns-in-Add
returns-in-Add c =
    let t : Setting = record { program = settled c.args.program.now; steps = c.args.steps } in
    let l = supply c.args.from.now in
    let g = rest t c.args.frames.now.items in
    follows_as _ _ _ _ (follows_on _ _ _ _ g (c.add_newest.ensures t l)) (ap (λ (m : Manner). before (doing t c.args.k m c.args.at (resource c.args.r, fraction c.args.a)) g (config_of c.args.of.now) l) (sym c.in-Add.is))

pub returns-in-GiveAgain : goal.returns-in-GiveAgain
returns-in-GiveAgain c =
    let t : Setting = record { program = settled c.args.program.now; steps = c.args.steps } in
    let l = supply c.args.from.now in
    let g = rest t c.args.frames.now.items in
    follows_as _ _ _ _ (follows_on _ _ _ _ g (c.give_again_newest.ensures l)) (ap (λ (m : Manner). before (doing t c.args.k m c.args.at (resource c.args.r, fraction c.args.a)) g (config_of c.args.of.now) l) (sym c.in-GiveAgain.is))

pub returns-in-Give : goal.returns-in-Give
returns-in-Give c =
    let t : Setting = record { program = settled c.args.program.now; steps = c.args.steps } in
    let l = supply c.args.from.now in
    let g = rest t c.args.frames.now.items in
    follows_as _ _ _ _ (c.give_newest.ensures) (ap (λ (m : Manner). before (doing t c.args.k m c.args.at (resource c.args.r, fraction c.args.a)) g (config_of c.args.of.now) l) (sym c.in-Give.is))

pub returns-in-Fill : goal.returns-in-Fill
returns-in-Fill c =
    let t : Setting = record { program = settled c.args.program.now; steps = c.args.steps } in
    let l = supply c.args.from.now in
    let g = rest t c.args.frames.now.items in
    follows_as _ _ _ _ (c.fill_newest.ensures c.args.steps) (ap (λ (m : Manner). before (doing t c.args.k m c.args.at (resource c.args.r, fraction c.args.a)) g (config_of c.args.of.now) l) (sym c.in-Fill.is))
