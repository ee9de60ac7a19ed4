use Rattle.std.proofs.Common.{sym, ap}
use Rattle.vx_resolved.specs.Settled.{settled}
use Rattle.vx_run.specs.Configs.{Setting}
use Rattle.vx_run.specs.ConfigViews.{config_of}
use Rattle.vx_run.specs.Supplies.{supply}
use Rattle.vx_run.specs.Frames.{rest, before}
use Rattle.vx_run.specs.Pending.{act}
use Rattle.vx_run.specs.declared.pending.Pending.{Pending}
use Rattle.vx_run.proofs.Steps.{follows_as, follows_on}
use Rattle.vx_run.proofs.stepping.step_pending.Goals as goal

pub returns-in-Evaluate : goal.returns-in-Evaluate
returns-in-Evaluate c = λ steps.
    let t : Setting = record { program = settled c.args.program.now; steps = steps } in
    let l = supply c.args.supply.now in
    let k = rest t c.args.frames.now.items in
    follows_as _ _ _ _ (c.begin.ensures t l) (ap (λ (f : Pending). before (act t f) k (config_of c.args.of.now) l) (sym c.in-Evaluate.is))

pub returns-in-EvaluateAll : goal.returns-in-EvaluateAll
returns-in-EvaluateAll c = λ steps.
    let t : Setting = record { program = settled c.args.program.now; steps = steps } in
    let l = supply c.args.supply.now in
    let k = rest t c.args.frames.now.items in
    follows_as _ _ _ _ (c.begin_all.ensures t l) (ap (λ (f : Pending). before (act t f) k (config_of c.args.of.now) l) (sym c.in-EvaluateAll.is))

pub returns-in-Connect : goal.returns-in-Connect
returns-in-Connect c = λ steps.
    let t : Setting = record { program = settled c.args.program.now; steps = steps } in
    let l = supply c.args.supply.now in
    let k = rest t c.args.frames.now.items in
    follows_as _ _ _ _ (c.connect_newest.ensures t l) (ap (λ (f : Pending). before (act t f) k (config_of c.args.of.now) l) (sym c.in-Connect.is))

pub returns-in-Choose : goal.returns-in-Choose
returns-in-Choose c = λ steps.
    let t : Setting = record { program = settled c.args.program.now; steps = steps } in
    let l = supply c.args.supply.now in
    let k = rest t c.args.frames.now.items in
    follows_as _ _ _ _ (c.choose_newest.ensures t l) (ap (λ (f : Pending). before (act t f) k (config_of c.args.of.now) l) (sym c.in-Choose.is))

pub returns-in-Unfold : goal.returns-in-Unfold
returns-in-Unfold c = λ steps.
    let t : Setting = record { program = settled c.args.program.now; steps = steps } in
    let l = supply c.args.supply.now in
    let k = rest t c.args.frames.now.items in
    follows_as _ _ _ _ (c.unfold_newest.ensures t l) (ap (λ (f : Pending). before (act t f) k (config_of c.args.of.now) l) (sym c.in-Unfold.is))

pub returns-in-Collect : goal.returns-in-Collect
returns-in-Collect c = λ steps.
    let t : Setting = record { program = settled c.args.program.now; steps = steps } in
    let l = supply c.args.supply.now in
    let k = rest t c.args.frames.now.items in
    follows_as _ _ _ _ (follows_on _ _ _ _ k (c.collect.ensures l)) (ap (λ (f : Pending). before (act t f) k (config_of c.args.of.now) l) (sym c.in-Collect.is))

pub returns-in-Negate : goal.returns-in-Negate
returns-in-Negate c = λ steps.
    let t : Setting = record { program = settled c.args.program.now; steps = steps } in
    let l = supply c.args.supply.now in
    let k = rest t c.args.frames.now.items in
    follows_as _ _ _ _ (follows_on _ _ _ _ k (c.negate_newest.ensures l)) (ap (λ (f : Pending). before (act t f) k (config_of c.args.of.now) l) (sym c.in-Negate.is))

pub returns-in-Operate : goal.returns-in-Operate
returns-in-Operate c = λ steps.
    let t : Setting = record { program = settled c.args.program.now; steps = steps } in
    let l = supply c.args.supply.now in
    let k = rest t c.args.frames.now.items in
    follows_as _ _ _ _ (follows_on _ _ _ _ k (c.operate_newest.ensures l)) (ap (λ (f : Pending). before (act t f) k (config_of c.args.of.now) l) (sym c.in-Operate.is))

pub returns-in-Divide : goal.returns-in-Divide
returns-in-Divide c = λ steps.
    let t : Setting = record { program = settled c.args.program.now; steps = steps } in
    let l = supply c.args.supply.now in
    let k = rest t c.args.frames.now.items in
    follows_as _ _ _ _ (follows_on _ _ _ _ k (c.divide_newest.ensures l)) (ap (λ (f : Pending). before (act t f) k (config_of c.args.of.now) l) (sym c.in-Divide.is))

pub returns-in-Read : goal.returns-in-Read
returns-in-Read c = λ steps.
    let t : Setting = record { program = settled c.args.program.now; steps = steps } in
    let l = supply c.args.supply.now in
    let k = rest t c.args.frames.now.items in
    follows_as _ _ _ _ (follows_on _ _ _ _ k (c.read_newest.ensures steps l)) (ap (λ (f : Pending). before (act t f) k (config_of c.args.of.now) l) (sym c.in-Read.is))

pub returns-in-Apply : goal.returns-in-Apply
returns-in-Apply c = λ steps.
    let t : Setting = record { program = settled c.args.program.now; steps = steps } in
    let l = supply c.args.supply.now in
    let k = rest t c.args.frames.now.items in
    follows_as _ _ _ _ (c.apply_newest.ensures steps) (ap (λ (f : Pending). before (act t f) k (config_of c.args.of.now) l) (sym c.in-Apply.is))

pub returns-in-Open : goal.returns-in-Open
returns-in-Open c = λ steps.
    let t : Setting = record { program = settled c.args.program.now; steps = steps } in
    let l = supply c.args.supply.now in
    let k = rest t c.args.frames.now.items in
    follows_as _ _ _ _ (c.open_newest.ensures steps l) (ap (λ (f : Pending). before (act t f) k (config_of c.args.of.now) l) (sym c.in-Open.is))
