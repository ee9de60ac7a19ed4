use Rattle.std.proofs.Common.{ℕ, List, map, Option, option_map, sym, ◌∙◌, ap, ap₂}
use Rattle.std.specs.declared.alloc.Global.{Global}
use Rattle.std.specs.declared.vec.Vec.{Vec}
use Rattle.vx_meaning.specs.Values.{Value}
use Rattle.vx_resolved.specs.Resolved.{method, names_of, declaration}
use Rattle.vx_resolved.specs.declared.Declaration as declared
use Rattle.vx_run.specs.Going.{Going, ◌>>=◌, expect, Failed}
use Rattle.vx_run.specs.Configs.{Config, Caller}
use Rattle.vx_run.specs.ConfigViews.{config_of, caller_of}
use Rattle.vx_run.specs.Frames.{rest}
use Rattle.vx_run.specs.Tasks.{with_caller, answering}
use Rattle.vx_run.specs.Stores.{store}
use Rattle.vx_run.specs.Views.{value}
use Rattle.vx_run.specs.declared.store.Variable.{Variable}
use Rattle.vx_run.specs.declared.values.Value.{Value as Value'}
use Rattle.vx_run.specs.Whole.{values_of}
use Rattle.vx_run.proofs.calls.step_return.Goals as goal

pub returns : goal.returns
returns c = λ t l.
    let k = rest t c.args.frames.now.items in
    let m = method c.args.site.method.now in
    let at = c.args.site.place in
    let go : List Value → Caller → List Value → Config → Going ℕ Config = λ vs w us e. answering t c.args.site.level at w (names_of c.args.site.targets.now) m vs us e in
    let second : List Value → Caller → Config → Going ℕ Config = λ vs w e. expect (values_of m.returns e.state.store) (Failed at) >>= λ us. go vs w us e in
    let first : List Value → Config → Going ℕ Config = λ vs d. with_caller d (second vs) in
    let vs = map value c.in-Some.vs.items in
    let w = caller_of c.in-Some-take_caller.caller in
    let d = config_of c.take_caller.new.of in
    let us = map value c.in-Some-found.us.items in
    c.in_ok-answer-in-Some-found.ensures t l
    ∙ ap₂ (λ (xs ys : List Value'). (go (map value xs) w (map value ys) d >>= k) l) c.deref-in-Some-found.ensures.value c.deref-in-Some-found-2.ensures.value
    ∙ ap (λ (o : Option (List Value)). ((expect o (Failed at) >>= λ ys. go vs w ys d) >>= k) l)
    (ap (option_map (λ (ys : Vec Value' Global). map value ys.items)) (sym c.in-Some-found.is)
    ∙ c.in_ok-found-in-Some-take_caller.ensures
    ∙ ap₂ (λ (ds : List declared.Declaration) (xs : List Variable). values_of (map declaration ds) (store xs)) c.deref.ensures.value c.deref-in-Some-take_caller.ensures.value)
    ∙ ap (λ (o : Going ℕ Config). (o >>= k) l) (sym (c.in-Some.ensures.some first ∙ c.in-Some-take_caller.ensures.some (second vs)))
