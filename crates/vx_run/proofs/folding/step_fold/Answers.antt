use Rattle.std.proofs.Common.{ℕ, List, map, sym, ◌∙◌, ap}
use Rattle.std.specs.Prelude.{string_bytes}
use Rattle.vx_frac.specs.Fraction.{fraction}
use Rattle.vx_meaning.specs.Values.{Value}
use Rattle.vx_meaning.specs.States.{bind}
use Rattle.vx_resolved.specs.Resolved.{assertion, declaration, predicate, optional_assertion}
use Rattle.vx_resolved.specs.Settled.{settled}
use Rattle.vx_resolved.specs.declared.Assertion as assertion'
use Rattle.vx_resolved.specs.declared.Declaration as declaration'
use Rattle.vx_resolved.specs.declared.Predicate as predicate'
use Rattle.vx_run.specs.Going.{Going, ◌>>=◌}
use Rattle.vx_run.specs.Configs.{Setting, Config, around}
use Rattle.vx_run.specs.ConfigViews.{config_of}
use Rattle.vx_run.specs.Frames.{rest, before}
use Rattle.vx_run.specs.Tasks as tasks
use Rattle.vx_run.specs.Tasks.{put}
use Rattle.vx_run.specs.Views.{value}
use Rattle.vx_run.proofs.CallForms.{fold_with, fold_without, fold_bodyless}
use Rattle.vx_run.proofs.folding.step_fold.Goals as goal

pub returns-in-None-predicate_named : goal.returns-in-None-predicate_named
returns-in-None-predicate_named c = λ steps l.
    let t : Setting = record { program = settled c.args.program.now; steps = steps } in
    let k = rest t c.args.frames.now.items in
    let d = config_of c.take_list.new.of in
    let i = string_bytes c.args.i.now.value in
    let on : List Value → Config → Going ℕ Config = λ vs e. put e (tasks.fold_it t c.args.level (around e.callers) c.args.at e.state (record { predicate = i; arguments = vs }, fraction c.args.q)) in
    fold_without t c.args.level c.args.at i (map value c.in-Some.vs.items) (fraction c.args.q) d k l (sym c.in-None-predicate_named.ensures)
    ∙ ap (λ (m : Going ℕ Config). (m >>= k) l) (sym (c.in-Some.ensures.some on))

pub returns-in-None-body : goal.returns-in-None-body
returns-in-None-body c = λ steps l.
    let t : Setting = record { program = settled c.args.program.now; steps = steps } in
    let k = rest t c.args.frames.now.items in
    let d = config_of c.take_list.new.of in
    let i = string_bytes c.args.i.now.value in
    let on : List Value → Config → Going ℕ Config = λ vs e. put e (tasks.fold_it t c.args.level (around e.callers) c.args.at e.state (record { predicate = i; arguments = vs }, fraction c.args.q)) in
    fold_bodyless t c.args.level c.args.at i (map value c.in-Some.vs.items) (fraction c.args.q) (predicate c.in-Some-predicate_named.d.now.value) d k l
    (sym c.in-Some-predicate_named.ensures) (ap (λ (b : predicate'.Predicate). optional_assertion b.body) (sym c.deref.ensures) ∙ ap optional_assertion c.in-None-body.is)
    ∙ ap (λ (m : Going ℕ Config). (m >>= k) l) (sym (c.in-Some.ensures.some on))

pub returns-in_ok-fold_body-in-Some-body : goal.returns-in_ok-fold_body-in-Some-body
returns-in_ok-fold_body-in-Some-body c = λ steps l.
    let t : Setting = record { program = settled c.args.program.now; steps = steps } in
    let k = rest t c.args.frames.now.items in
    let d = config_of c.take_list.new.of in
    let n = c.args.level in
    let i = string_bytes c.args.i.now.value in
    let q = fraction c.args.q in
    let vs = map value c.in-Some.vs.items in
    let p = predicate c.in-Some-predicate_named.d.now.value in
    let on : List Value → Config → Going ℕ Config = λ us e. put e (tasks.fold_it t n (around e.callers) c.args.at e.state (record { predicate = i; arguments = us }, q)) in
    c.in_ok-fold_body-in-Some-body.ensures t l
    ∙ ap (λ (ds : List declaration'.Declaration). before (tasks.fold_body t n c.args.at i q (bind (map declaration ds) vs) (assertion c.deref-in-Some-body-3.result.now) vs) k d l)
    (c.deref-in-Some-body-2.ensures.value ∙ ap (λ (b : predicate'.Predicate). b.parameters.items) c.deref-in-Some-body.ensures)
    ∙ ap (λ (e : assertion'.Assertion). before (tasks.fold_body t n c.args.at i q (bind p.parameters vs) (assertion e) vs) k d l) c.deref-in-Some-body-3.ensures
    ∙ ap (λ (m : Going ℕ Config). (m >>= k) l) (sym (fold_with t n c.args.at i vs q p (assertion c.in-Some-body.body.value) d (sym c.in-Some-predicate_named.ensures) (ap (λ (b : predicate'.Predicate). optional_assertion b.body) (sym c.deref.ensures) ∙ ap optional_assertion c.in-Some-body.is)))
    ∙ ap (λ (m : Going ℕ Config). (m >>= k) l) (sym (c.in-Some.ensures.some on))
