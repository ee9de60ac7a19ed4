use Rattle.std.proofs.Common.{Bool, ◌&&◌, List, map, reverse, sym, ◌∙◌, ap}
use Rattle.std.specs.List.{list_all}
use Rattle.vx_meaning.specs.States.{Holdings}
use Rattle.vx_meaning.specs.Consistent as consistent
use Rattle.vx_resolved.specs.Settled.{settled}
use Rattle.vx_run.specs.Configs.{around}
use Rattle.vx_run.specs.ConfigViews.{state_of, caller_of}
use Rattle.vx_run.specs.Flattening.{found}
use Rattle.vx_run.specs.Flats.{all_written}
use Rattle.vx_run.specs.Given as given
use Rattle.vx_run.specs.Given.{bounded, grounded}
use Rattle.vx_run.specs.declared.flattening.Found.{Found}
use Rattle.vx_run.proofs.Bounded.{all_bounded}
use Rattle.vx_run.proofs.possible.is_possible.Goals as goal

pub returns-then-not-are_bounded : goal.returns-then-not-are_bounded
returns-then-not-are_bounded c =
    let p = settled c.args.program.now in
    let n = c.args.steps in
    let s = state_of c.args.state.now in
    let a = around (reverse (map caller_of c.args.callers.now)) in
    let held = given.held_by_all a s in
    let all = given.all_held p n a s in
    let total = c.in_ok-total.ensures ∙ c.in_ok-all.ensures
    ∙ ap (λ (fs : List Found). all_written (consistent.spread p n s.heap (found fs))) c.deref.ensures.value ∙ ap (λ (x : Holdings). all_written (consistent.spread p n s.heap x)) c.in_ok-found.ensures in
    let is = c.are_bounded.ensures ∙ ap (λ (x : Holdings). list_all (λ e. bounded x e.0) x) total ∙ all_bounded all all in
    ap (λ (b : Bool). b && list_all (λ e. grounded p n s.heap held e.0) held) (sym c.if-not-are_bounded.true ∙ is)

pub returns : goal.returns
returns c =
    let p = settled c.args.program.now in
    let n = c.args.steps in
    let s = state_of c.args.state.now in
    let a = around (reverse (map caller_of c.args.callers.now)) in
    let held = given.held_by_all a s in
    let all = given.all_held p n a s in
    let total = c.in_ok-total.ensures ∙ c.in_ok-all.ensures
    ∙ ap (λ (fs : List Found). all_written (consistent.spread p n s.heap (found fs))) c.deref.ensures.value ∙ ap (λ (x : Holdings). all_written (consistent.spread p n s.heap x)) c.in_ok-found.ensures in
    let is = c.are_bounded.ensures ∙ ap (λ (x : Holdings). list_all (λ e. bounded x e.0) x) total ∙ all_bounded all all in
    c.in_ok-ends.ensures
    ∙ ap (λ (x : Holdings). list_all (λ e. grounded p n s.heap x e.0) x) (c.in_ok-held.ensures ∙ c.in_ok-found.ensures)
    ∙ ap (λ (b : Bool). b && list_all (λ e. grounded p n s.heap held e.0) held) (sym c.if-not-are_bounded.false ∙ is)
