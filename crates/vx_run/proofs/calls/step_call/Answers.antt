use Rattle.std.proofs.Common.{ℕ, List, map, Option, sym, ◌∙◌, ap}
use Rattle.std.specs.Prelude.{string_bytes}
use Rattle.vx_ast.specs.Syntax.{Method, method_named}
use Rattle.vx_meaning.specs.Values.{Value}
use Rattle.vx_resolved.specs.Resolved.{method, names_of}
use Rattle.vx_resolved.specs.Settled.{settled}
use Rattle.vx_resolved.specs.declared.Method.{Method as Method'}
use Rattle.vx_run.specs.Going.{Going, ◌>>=◌, expect, Failed}
use Rattle.vx_run.specs.Configs.{Setting, Config}
use Rattle.vx_run.specs.ConfigViews.{config_of}
use Rattle.vx_run.specs.Frames.{rest, before}
use Rattle.vx_run.specs.Tasks.{called_by}
use Rattle.vx_run.specs.Views.{value}
use Rattle.vx_run.proofs.calls.step_call.Goals as goal

pub returns-in-None-method_named : goal.returns-in-None-method_named
returns-in-None-method_named c = λ steps l.
    let t : Setting = record { program = settled c.args.program.now; steps = steps } in
    let k = rest t c.args.frames.now.items in
    let d = config_of c.take_list.new.of in
    let name = string_bytes c.args.name.now.value in
    let go = λ (f : Method) (vs : List Value) (e : Config). called_by t c.args.level c.args.at (names_of c.args.targets.now) f vs e in
    let on : List Value → Config → Going ℕ Config = λ vs e. expect (method_named t.program name) (Failed c.args.at) >>= λ f. go f vs e in
    ap (λ (o : Option Method). ((expect o (Failed c.args.at) >>= λ f. go f (map value c.in-Some.vs.items) d) >>= k) l) c.in-None-method_named.ensures
    ∙ ap (λ (m : Going ℕ Config). (m >>= k) l) (sym (c.in-Some.ensures.some on))

pub returns-in_ok-set_out-in-Some-method_named : goal.returns-in_ok-set_out-in-Some-method_named
returns-in_ok-set_out-in-Some-method_named c = λ steps l.
    let t : Setting = record { program = settled c.args.program.now; steps = steps } in
    let k = rest t c.args.frames.now.items in
    let d = config_of c.take_list.new.of in
    let name = string_bytes c.args.name.now.value in
    let vs = map value c.in-Some.vs.items in
    let go = λ (f : Method) (us : List Value) (e : Config). called_by t c.args.level c.args.at (names_of c.args.targets.now) f us e in
    let on : List Value → Config → Going ℕ Config = λ us e. expect (method_named t.program name) (Failed c.args.at) >>= λ f. go f us e in
    c.in_ok-set_out-in-Some-method_named.ensures t l
    ∙ ap (λ (m : Method'). before (go (method m) vs) k d l) c.deref.ensures
    ∙ ap (λ (o : Option Method). ((expect o (Failed c.args.at) >>= λ f. go f vs d) >>= k) l) c.in-Some-method_named.ensures
    ∙ ap (λ (m : Going ℕ Config). (m >>= k) l) (sym (c.in-Some.ensures.some on))
