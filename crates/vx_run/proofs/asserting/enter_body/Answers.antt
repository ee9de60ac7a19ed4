use Rattle.std.proofs.Common.{ℕ, List, map, Option, Some, ◌∷◌, ◌++◌, refl, sym, ◌∙◌, ap, ap₂}
use Rattle.std.specs.declared.alloc.Global.{Global}
use Rattle.std.specs.declared.vec.Vec.{Vec}
use Rattle.vx_ast.specs.Syntax.{Assertion}
use Rattle.vx_frac.specs.Fraction.{fraction}
use Rattle.vx_meaning.specs.Flatten.{bare}
use Rattle.vx_meaning.specs.States.{Store, Holdings, with_store, bind}
use Rattle.vx_resolved.specs.Resolved.{predicate, assertion, optional_assertion, declaration}
use Rattle.vx_resolved.specs.declared.Declaration as declared
use Rattle.vx_run.specs.Views.{value}
use Rattle.vx_run.specs.declared.store.Variable.{Variable}
use Rattle.vx_run.specs.declared.values.Value.{Value as Value'}
use Rattle.vx_run.specs.Draws.{by_draws}
use Rattle.vx_run.specs.Given.{fill, fill_body}
use Rattle.vx_run.specs.Going.{Going, gives}
use Rattle.vx_run.specs.Configs.{Config, in_state, put_filling, with_taking, with_takings}
use Rattle.vx_run.specs.ConfigViews.{config_of}
use Rattle.vx_run.specs.Frames.{rest, before}
use Rattle.vx_run.specs.Held as held
use Rattle.vx_run.specs.Pending.{deeper_by}
use Rattle.vx_run.specs.Stores.{store as store_of}
use Rattle.vx_run.specs.Visits.{filling, visit_by, visiting, filling_body}
use Rattle.vx_resolved.specs.declared.Assertion.{Assertion as Assertion'}
use Rattle.vx_run.specs.declared.visit.Manner.TheVariants as manner
use Rattle.vx_run.specs.Widths.{within_128_bits}
use Rattle.vx_run.proofs.GivenNow.{filled_then}
use Rattle.vx_run.proofs.asserting.enter_body.Goals as goal

pub returns-in_ok-make_bare-in-None : goal.returns-in_ok-make_bare-in-None
returns-in_ok-make_bare-in-None c = λ t l ht.
    let g = rest t c.args.frames.now.items in
    let k = c.args.k in
    let q = fraction c.args.q in
    let d = predicate c.args.d.now in
    let i = held.instance c.args.i.now in
    let old = config_of c.args.of.now in
    let inside = fill t.program by_draws within_128_bits (deeper_by t k.level) c.args.depth c.args.at in
    let by = λ (o : Option Assertion) (x : Config). with_taking x (λ h e. put_filling k.blame e (fill_body t.program by_draws within_128_bits (deeper_by t k.level) inside q d i o (record { heap = e.state.heap; totals = h }))) in
    ap (λ (x : Config). g x l) c.in_ok-make_bare-in-None.ensures
    ∙ ap (λ (hs : List Holdings). g (in_state (bare old.state.store old.state.heap) (with_takings hs old)) l) ht.2
    ∙ ap (λ (o : Option Assertion). before (by o) g (with_takings (ht.0 ∷ ht.1) old) l) (sym (ap optional_assertion c.in-None.is))
    ∙ ap (λ (hs : List Holdings). before (filling_body t k c.args.depth c.args.at d i q) g (with_takings hs old) l) (sym ht.2)

pub returns-in_ok-put_off-in-Some-2 : goal.returns-in_ok-put_off-in-Some-2
returns-in_ok-put_off-in-Some-2 c = λ t l ht.
    let g = rest t c.args.frames.now.items in
    let k = c.args.k in
    let q = fraction c.args.q in
    let n = c.args.depth in
    let at = c.args.at in
    let d = predicate c.args.d.now in
    let i = held.instance c.args.i.now in
    let old = config_of c.args.of.now in
    let x = bind d.parameters i.arguments in
    let inside = fill t.program by_draws within_128_bits (deeper_by t k.level) n at in
    let by = λ (o : Option Assertion) (x : Config). with_taking x (λ h e. put_filling k.blame e (fill_body t.program by_draws within_128_bits (deeper_by t k.level) inside q d i o (record { heap = e.state.heap; totals = h }))) in
    let whole = visiting t k (manner.Fill c.args.q n at) (assertion c.deref-in-Some-3.result.now) in
    let back = λ (y : Store) (e : Config). (let m : Going ℕ Config = gives (in_state (with_store y e.state) e) in m) in
    let inner = λ (hs : List Holdings). in_state (with_store x old.state) (with_takings hs old) in
    ap (λ (f : Config → Going ℕ Config). f (config_of c.swap_store-outer.new.of) l) (c.in_ok-put_off-in-Some-2.ensures t ∙ ap (before whole) (c.in_ok-put_off-in-Some.ensures t))
    ∙ ap (λ (z : Config). before whole (before (back (store_of c.swap_store-outer.result.items)) g) z l)
    (c.swap_store-outer.ensures.after ∙ ap (λ (s : Store). in_state (with_store s old.state) old) (c.in_ok-bind-in-Some.ensures
    ∙ ap (λ (xs : List Variable). store_of xs ++ bind (map declaration c.deref.result.now) (map value c.deref-in-Some-2.result.now)) c.new-store.ensures.items
    ∙ ap₂ (λ (ds : List declared.Declaration) (us : List Value'). bind (map declaration ds) (map value us)) c.deref.ensures.value
    (c.deref-in-Some-2.ensures.value ∙ ap (λ (us : Vec Value' Global). us.items) c.deref-in-Some.ensures)))
    ∙ ap (λ (y : Store). before whole (before (back y) g) (in_state (with_store x old.state) old) l) c.swap_store-outer.ensures.before
    ∙ ap (λ (hs : List Holdings). before whole (before (back old.state.store) g) (inner hs) l) ht.2
    ∙ filled_then k.blame (visit_by t k (filling t k q n at x) (assertion c.deref-in-Some-3.result.now) (record { heap = old.state.heap; totals = ht.0 })) l
    (λ w. with_takings (w.totals ∷ ht.1) (in_state (bare x w.heap) old)) (back old.state.store)
    (λ w. gives (with_takings (w.totals ∷ ht.1) (in_state (bare old.state.store w.heap) old))) g (λ w. refl)
    ∙ ap (λ (a : Assertion'). before (by (Some (assertion a))) g (with_takings (ht.0 ∷ ht.1) old) l) c.deref-in-Some-3.ensures
    ∙ ap (λ (o : Option Assertion). before (by o) g (with_takings (ht.0 ∷ ht.1) old) l) (sym (ap optional_assertion c.in-Some.is))
    ∙ ap (λ (hs : List Holdings). before (filling_body t k n at d i q) g (with_takings hs old) l) (sym ht.2)
