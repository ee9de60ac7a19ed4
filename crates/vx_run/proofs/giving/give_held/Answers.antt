use Rattle.std.proofs.Common.{ℕ, Bool, List, map, reverse, Result, ◌∷◌, refl, sym, ◌∙◌, ap, ap₂, subst}
use Rattle.vx_frac.specs.Fraction.{fraction}
use Rattle.vx_meaning.specs.States.{State, Heap, Holdings, At, Folded, with_heap, with_holdings}
use Rattle.vx_resolved.specs.Settled.{settled}
use Rattle.vx_run.specs.Draws.{by_draws}
use Rattle.vx_run.specs.Given as given
use Rattle.vx_run.specs.Given.{Filling, fill_location, fill}
use Rattle.vx_run.specs.Going.{Going, Outcome, Supply, ◌>>=◌, continued, gives, when}
use Rattle.vx_run.specs.Configs.{Setting, Config, around, in_state, with_takings, with_taking, put_state}
use Rattle.vx_run.specs.ConfigViews.{config_of, caller_of}
use Rattle.vx_run.specs.Frames.{Come, rest, before}
use Rattle.vx_run.specs.Fillings.{filling}
use Rattle.vx_run.specs.Held as held
use Rattle.vx_run.specs.Holding.{holdings, Ends}
use Rattle.vx_run.specs.Pending.{deeper_by}
use Rattle.vx_run.specs.Supplies.{supply}
use Rattle.vx_run.specs.Visits as visits
use Rattle.vx_run.specs.Visits.{holding_now, possible_or_stop}
use Rattle.vx_run.specs.Blame.{within}
use Rattle.vx_run.specs.declared.context.Within.{Within}
use Rattle.vx_meaning.specs.Flatten.{bare}
use Rattle.vx_run.specs.Widths.{within_128_bits, written_all}
use Rattle.vx_run.specs.declared.resource.Resource.{Resource}
use Rattle.vx_run.specs.declared.state.Caller.{Caller}
use Rattle.vx_run.specs.declared.visit.Visit.TheVariants as visit
use Rattle.vx_run.proofs.Steps.{follows_as, follows_on}
use Rattle.vx_run.proofs.Permitted.{ends_follow, ends_on, tells_from_ends, blamed_then}
use Rattle.vx_run.proofs.GivenNow.{chosen_for_it, then_possible, holding_in, holding_then, filled_then}
use Rattle.vx_run.proofs.giving.give_held.Goals as goal

pub returns-in-Ok : goal.returns-in-Ok
returns-in-Ok c =
    let t : Setting = record { program = settled c.args.program.now; steps = c.args.steps } in
    let k = c.args.k in
    let at = c.args.at in
    let b = fraction c.args.b in
    let h = holdings c.args.after in
    let s = supply c.args.from.now in
    let old = config_of c.args.of.now in
    let g = rest t c.args.frames.now.items in
    let j = supply c.fill_location.new.from in
    let l = held.location c.in-At.l in
    let w = filling c.in-Ok.w in
    let totals = c.in_ok-totals.ensures
    ∙ ap (λ (cs : List Caller). written_all within_128_bits (given.all_held t.program t.steps (around (reverse (map caller_of cs))) old.state)) c.deref.ensures.value in
    let there = sym (c.in-Ok.ensures
    ∙ ap₂ (λ (x : Heap) (y : Holdings). fill_location t.program by_draws within_128_bits at l b (record { heap = x; totals = y }) s) (ap held.heap c.in_ok-heap-in-At.ensures.cases) totals) in
    follows_as _ _ _ _ (follows_on _ _ _ _ g (c.stop_unless_possible.ensures j))
    (ap (λ (x : Config). continued (put_state k.blame x (possible_or_stop t at x x.state) j) g) (c.put_holdings.ensures ∙ ap (λ (x : Config). in_state (with_holdings h x.state) x) c.put_heap.ensures)
    ∙ ap (λ (n : Come). continued n g) (holding_then t k at (At l) b h old c.stops-inner.result c.stops-inner.ensures w s j there)
    ∙ ap (λ (r : Resource). before (holding_now t k at (held.resource r) b h) g old s) (sym c.in-At.is))

pub returns-in-Err : goal.returns-in-Err
returns-in-Err c =
    let t : Setting = record { program = settled c.args.program.now; steps = c.args.steps } in
    let k = c.args.k in
    let at = c.args.at in
    let b = fraction c.args.b in
    let h = holdings c.args.after in
    let s = supply c.args.from.now in
    let old = config_of c.args.of.now in
    let g = rest t c.args.frames.now.items in
    let j = supply c.fill_location.new.from in
    let l = held.location c.in-At.l in
    let totals = c.in_ok-totals.ensures
    ∙ ap (λ (cs : List Caller). written_all within_128_bits (given.all_held t.program t.steps (around (reverse (map caller_of cs))) old.state)) c.deref.ensures.value in
    let same = ap₂ (λ (x : Heap) (y : Holdings). fill_location t.program by_draws within_128_bits at l b (record { heap = x; totals = y }) s) (ap held.heap c.in_ok-heap-in-At.ensures.cases) totals in
    let ends = subst (λ (n : Result (Filling × Supply ℕ) Outcome). Ends c.in-Err.halt n) same (tells_from_ends filling c.in-Err.halt j _ c.in-Err.ensures) in
    ends_follow c.blamed.result _ _
    (subst (λ (n : Come). Ends c.blamed.result n)
    (ap (λ (m : Going ℕ Config). (m >>= g) s) (sym (holding_in t k at (At l) b h old c.stops-inner.result c.stops-inner.ensures)) ∙ ap (λ (r : Resource). before (holding_now t k at (held.resource r) b h) g old s) (sym c.in-At.is))
    (ends_on c.blamed.result _ g (blamed_then c.in-Err.halt c.blamed.result c.stops-inner.result c.blamed.ensures (chosen_for_it t k at (At l) b h old) (then_possible t k at (At l) b h old) s ends)))

-- nothing is newly held
pub returns-then-not-is_above_none : goal.returns-then-not-is_above_none
returns-then-not-is_above_none c =
    let t : Setting = record { program = settled c.args.program.now; steps = c.args.steps } in
    let k = c.args.k in
    let at = c.args.at in
    let b = fraction c.args.b in
    let h = holdings c.args.after in
    let s = supply c.args.from.now in
    let old = config_of c.args.of.now in
    let g = rest t c.args.frames.now.items in
    let i = held.instance c.in-Folded.i in
    let u : Filling = record { heap = old.state.heap; totals = written_all within_128_bits (given.all_held t.program t.steps (around old.callers) old.state) } in
    let there = ap (λ (y : Bool). when y (fill t.program by_draws within_128_bits (deeper_by t k.level) k.level at i b u) (gives u) s) (sym c.is_above_none.ensures ∙ c.if-not-is_above_none.true) in
    follows_as _ _ _ _ (follows_on _ _ _ _ g (c.stop_unless_possible-then-not-is_above_none.ensures s))
    (ap (λ (x : Config). continued (put_state k.blame x (possible_or_stop t at x x.state) s) g) c.put_holdings-then-not-is_above_none.ensures
    ∙ ap (λ (n : Come). continued n g) (holding_then t k at (Folded i) b h old c.stops-inner.result c.stops-inner.ensures u s s there)
    ∙ ap (λ (r : Resource). before (holding_now t k at (held.resource r) b h) g old s) (sym c.in-Folded.is))

-- the state is kept, and values are chosen for what is inside
pub returns-in_ok-put_off-in-Folded-2 : goal.returns-in_ok-put_off-in-Folded-2
returns-in_ok-put_off-in-Folded-2 c =
    let t : Setting = record { program = settled c.args.program.now; steps = c.args.steps } in
    let k = c.args.k in
    let at = c.args.at in
    let b = fraction c.args.b in
    let h = holdings c.args.after in
    let s = supply c.args.from.now in
    let old = config_of c.args.of.now in
    let g = rest t c.args.frames.now.items in
    let i = held.instance c.in-Folded.i in
    let level : Within = record { level = k.level; blame = c.stops-inner.result } in
    let all = written_all within_128_bits (given.all_held t.program t.steps (around old.callers) old.state) in
    let totals = c.in_ok-totals.ensures
    ∙ ap (λ (cs : List Caller). written_all within_128_bits (given.all_held t.program t.steps (around (reverse (map caller_of cs))) old.state)) c.deref.ensures.value in
    let next = visits.act t (visit.Fill level k.level at c.in-Folded.i c.args.b) in
    let last = λ (z : State) (d : Config). with_taking d (λ x e. put_state k.blame e (possible_or_stop t at e (with_heap e.state.heap z))) in
    let chosen = λ (y : Bool). when y (fill t.program by_draws within_128_bits (deeper_by t k.level) k.level at i b (record { heap = old.state.heap; totals = all })) (gives record { heap = old.state.heap; totals = all }) in
    ap (λ (f : Config → Going ℕ Config). f (config_of c.put_taking.new.of) s) (c.in_ok-put_off-in-Folded-2.ensures t ∙ ap (before next) (c.in_ok-put_off-in-Folded.ensures t))
    ∙ ap (λ (z : State). before next (before (last z) g) (config_of c.put_taking.new.of) s) c.in_ok-state-in-Folded.ensures
    ∙ ap (λ (x : Config). before next (before (last (with_holdings h old.state)) g) x s) (c.in_ok-put_taking-in-Folded.ensures ∙ ap (λ (x : Holdings). with_takings (x ∷ old.takings) old) totals)
    ∙ filled_then c.stops-inner.result (fill t.program by_draws within_128_bits (deeper_by t k.level) k.level at i b (record { heap = old.state.heap; totals = all })) s
    (λ w. with_takings (w.totals ∷ old.takings) (in_state (bare old.state.store w.heap) old)) (last (with_holdings h old.state)) (then_possible t k at (Folded i) b h old) g (λ w. refl)
    ∙ ap (λ (y : Bool). ((within c.stops-inner.result (chosen y) >>= then_possible t k at (Folded i) b h old) >>= g) s) (sym c.if-not-is_above_none.false ∙ c.is_above_none.ensures)
    ∙ ap (λ (m : Going ℕ Config). (m >>= g) s) (sym (holding_in t k at (Folded i) b h old c.stops-inner.result c.stops-inner.ensures))
    ∙ ap (λ (r : Resource). before (holding_now t k at (held.resource r) b h) g old s) (sym c.in-Folded.is)
