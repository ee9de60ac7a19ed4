use Rattle.std.proofs.Common.{◌≤◌, List, length, map, ◌++◌, sym, ◌∙◌, ap, arith}
use Rattle.std.proofs.lemmas.List.{drop_all}
use Rattle.vx_meaning.specs.States.{Holdings}
use Rattle.vx_run.specs.ConfigViews.{caller_of}
use Rattle.vx_run.specs.Flattening.{found}
use Rattle.vx_run.specs.Held.{entries}
use Rattle.vx_run.specs.Holding.{holdings}
use Rattle.vx_run.specs.declared.entries.Entries.{Entries}
use Rattle.vx_run.specs.declared.state.Caller.{Caller}
use Rattle.vx_run.proofs.Spread.{lefts, around_lefts, append_nil}
use Rattle.vx_run.proofs.possible.held_by_all.Goals as goal

pub returns : goal.returns
returns c =
    let ws = c.args.callers.now in
    let so_far = found c.loop-caller.all.items in
    let past : length ws ≤ c.loop-caller.caller-index = (let h = c.loop-caller-test.false in omega (h, arith)) in
    c.in_ok-add_entries-2.ensures
    ∙ ap (λ (e : Entries). so_far ++ entries e) c.deref-2.ensures
    ∙ ap (λ (l : Holdings). l ++ holdings c.args.state.now.holdings)
    (sym (append_nil so_far) ∙ ap (λ (us : List Caller). so_far ++ lefts (map caller_of us)) (sym (drop_all c.loop-caller.caller-index ws past))
    ∙ c.loop-caller.invariant ∙ sym (around_lefts (map caller_of ws)))
