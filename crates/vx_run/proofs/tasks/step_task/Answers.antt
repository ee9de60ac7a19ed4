use Rattle.std.proofs.Common.{sym, ◌∙◌, ap}
use Rattle.std.specs.Prelude.{string_bytes}
use Rattle.vx_frac.specs.Fraction.{fraction}
use Rattle.vx_resolved.specs.Settled.{settled}
use Rattle.vx_run.specs.Going.{continued}
use Rattle.vx_run.specs.Configs.{Setting}
use Rattle.vx_run.specs.ConfigViews.{config_of}
use Rattle.vx_run.specs.Frames.{Come, rest, before}
use Rattle.vx_run.specs.Supplies.{supply}
use Rattle.vx_run.specs.Tasks.{act, assigned, wrote, assumed, held_again}
use Rattle.vx_run.specs.declared.task.Task.{Task}
use Rattle.vx_run.proofs.Steps.{follows_on, follows_as}
use Rattle.vx_run.proofs.tasks.step_task.Goals as goal

pub returns-in-Leave : goal.returns-in-Leave
returns-in-Leave c = λ steps.
    let t : Setting = record { program = settled c.args.program.now; steps = steps } in
    let k = rest t c.args.frames.now.items in
    let d = config_of c.args.of.now in
    let l = supply c.args.supply.now in
    let done : Task → Come = λ f. before (act t f) k d l in
    ap (λ (m : Come). continued m k) (c.step_leave.ensures l) ∙ ap done (sym c.in-Leave.is)

pub returns-in-Assign : goal.returns-in-Assign
returns-in-Assign c = λ steps.
    let t : Setting = record { program = settled c.args.program.now; steps = steps } in
    let k = rest t c.args.frames.now.items in
    let d = config_of c.args.of.now in
    let l = supply c.args.supply.now in
    let done : Task → Come = λ f. before (act t f) k d l in
    follows_as _ _ _ _ (follows_on c.step_assign.result (config_of c.step_assign.new.of) l (assigned (string_bytes c.in-Assign.x.now.value) d l) k (c.step_assign.ensures l)) (ap done (sym c.in-Assign.is))

pub returns-in-Write : goal.returns-in-Write
returns-in-Write c = λ steps.
    let t : Setting = record { program = settled c.args.program.now; steps = steps } in
    let k = rest t c.args.frames.now.items in
    let d = config_of c.args.of.now in
    let l = supply c.args.supply.now in
    let done : Task → Come = λ f. before (act t f) k d l in
    follows_as _ _ _ _ (follows_on c.step_write.result (config_of c.step_write.new.of) l (wrote c.in-Write.at (string_bytes c.in-Write.field.now.value) d l) k (c.step_write.ensures l)) (ap done (sym c.in-Write.is))

pub returns-in-Assume : goal.returns-in-Assume
returns-in-Assume c = λ steps.
    let t : Setting = record { program = settled c.args.program.now; steps = steps } in
    let k = rest t c.args.frames.now.items in
    let d = config_of c.args.of.now in
    let l = supply c.args.supply.now in
    let done : Task → Come = λ f. before (act t f) k d l in
    follows_as _ _ _ _ (follows_on c.step_assume.result (config_of c.step_assume.new.of) l (assumed c.in-Assume.at d l) k (c.step_assume.ensures l)) (ap done (sym c.in-Assume.is))

pub returns-in-Folded : goal.returns-in-Folded
returns-in-Folded c = λ steps.
    let t : Setting = record { program = settled c.args.program.now; steps = steps } in
    let k = rest t c.args.frames.now.items in
    let d = config_of c.args.of.now in
    let l = supply c.args.supply.now in
    let done : Task → Come = λ f. before (act t f) k d l in
    follows_as _ _ _ _ (follows_on c.step_folded.result (config_of c.step_folded.new.of) l (held_again c.in-Folded.at (string_bytes c.in-Folded.i.now.value) (fraction c.in-Folded.q) d l) k (c.step_folded.ensures l)) (ap done (sym c.in-Folded.is))

pub returns-in-Body : goal.returns-in-Body
returns-in-Body c = λ steps.
    let t : Setting = record { program = settled c.args.program.now; steps = steps } in
    let k = rest t c.args.frames.now.items in
    let d = config_of c.args.of.now in
    let l = supply c.args.supply.now in
    let done : Task → Come = λ f. before (act t f) k d l in
    follows_as _ _ _ _ (c.step_body.ensures steps) (ap done (sym c.in-Body.is))

pub returns-in-Branch : goal.returns-in-Branch
returns-in-Branch c = λ steps.
    let t : Setting = record { program = settled c.args.program.now; steps = steps } in
    let k = rest t c.args.frames.now.items in
    let d = config_of c.args.of.now in
    let l = supply c.args.supply.now in
    let done : Task → Come = λ f. before (act t f) k d l in
    follows_as _ _ _ _ (c.step_branch.ensures t l) (ap done (sym c.in-Branch.is))

pub returns-in-Again : goal.returns-in-Again
returns-in-Again c = λ steps.
    let t : Setting = record { program = settled c.args.program.now; steps = steps } in
    let k = rest t c.args.frames.now.items in
    let d = config_of c.args.of.now in
    let l = supply c.args.supply.now in
    let done : Task → Come = λ f. before (act t f) k d l in
    follows_as _ _ _ _ (c.step_again.ensures t d) (ap done (sym c.in-Again.is))

pub returns-in-Round : goal.returns-in-Round
returns-in-Round c = λ steps.
    let t : Setting = record { program = settled c.args.program.now; steps = steps } in
    let k = rest t c.args.frames.now.items in
    let d = config_of c.args.of.now in
    let l = supply c.args.supply.now in
    let done : Task → Come = λ f. before (act t f) k d l in
    follows_as _ _ _ _ (c.step_round.ensures t l) (ap done (sym c.in-Round.is))

pub returns-in-Call : goal.returns-in-Call
returns-in-Call c = λ steps.
    let t : Setting = record { program = settled c.args.program.now; steps = steps } in
    let k = rest t c.args.frames.now.items in
    let d = config_of c.args.of.now in
    let l = supply c.args.supply.now in
    let done : Task → Come = λ f. before (act t f) k d l in
    follows_as _ _ _ _ (c.step_call.ensures steps l) (ap done (sym c.in-Call.is))

pub returns-in-Enter : goal.returns-in-Enter
returns-in-Enter c = λ steps.
    let t : Setting = record { program = settled c.args.program.now; steps = steps } in
    let k = rest t c.args.frames.now.items in
    let d = config_of c.args.of.now in
    let l = supply c.args.supply.now in
    let done : Task → Come = λ f. before (act t f) k d l in
    follows_as _ _ _ _ (c.step_enter.ensures t) (ap done (sym c.in-Enter.is))

pub returns-in-Return : goal.returns-in-Return
returns-in-Return c = λ steps.
    let t : Setting = record { program = settled c.args.program.now; steps = steps } in
    let k = rest t c.args.frames.now.items in
    let d = config_of c.args.of.now in
    let l = supply c.args.supply.now in
    let done : Task → Come = λ f. before (act t f) k d l in
    follows_as _ _ _ _ (c.step_return.ensures t l) (ap done (sym c.in-Return.is))

pub returns-in-ToFold : goal.returns-in-ToFold
returns-in-ToFold c = λ steps.
    let t : Setting = record { program = settled c.args.program.now; steps = steps } in
    let k = rest t c.args.frames.now.items in
    let d = config_of c.args.of.now in
    let l = supply c.args.supply.now in
    let done : Task → Come = λ f. before (act t f) k d l in
    follows_as _ _ _ _ (c.step_to_fold.ensures t l) (ap done (sym c.in-ToFold.is))

pub returns-in-ToUnfold : goal.returns-in-ToUnfold
returns-in-ToUnfold c = λ steps.
    let t : Setting = record { program = settled c.args.program.now; steps = steps } in
    let k = rest t c.args.frames.now.items in
    let d = config_of c.args.of.now in
    let l = supply c.args.supply.now in
    let done : Task → Come = λ f. before (act t f) k d l in
    follows_as _ _ _ _ (c.step_to_unfold.ensures t l) (ap done (sym c.in-ToUnfold.is))

pub returns-in-Fold : goal.returns-in-Fold
returns-in-Fold c = λ steps.
    let t : Setting = record { program = settled c.args.program.now; steps = steps } in
    let k = rest t c.args.frames.now.items in
    let d = config_of c.args.of.now in
    let l = supply c.args.supply.now in
    let done : Task → Come = λ f. before (act t f) k d l in
    follows_as _ _ _ _ (c.step_fold.ensures steps l) (ap done (sym c.in-Fold.is))

pub returns-in-Unfold : goal.returns-in-Unfold
returns-in-Unfold c = λ steps.
    let t : Setting = record { program = settled c.args.program.now; steps = steps } in
    let k = rest t c.args.frames.now.items in
    let d = config_of c.args.of.now in
    let l = supply c.args.supply.now in
    let done : Task → Come = λ f. before (act t f) k d l in
    follows_as _ _ _ _ (c.step_unfold.ensures steps l) (ap done (sym c.in-Unfold.is))
