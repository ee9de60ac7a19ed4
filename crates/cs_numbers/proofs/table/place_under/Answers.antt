use Rattle.std.proofs.Common.{map, get_or, sym, ◌∙◌, ap}
use Rattle.std.proofs.lemmas.List.{drop_all}
use Rattle.vx_terms.specs.Terms.{same}
use Rattle.vx_terms.specs.Views.{term}
use Rattle.cs_index.specs.Found.{found, passes_at}
use Rattle.cs_index.specs.Under.{under}
use Rattle.cs_index.proofs.Indexed.{found_here}
use Rattle.cs_numbers.specs.Listed.{terms_in}
use Rattle.cs_numbers.proofs.Looked.{looked_up}
use Rattle.cs_numbers.proofs.table.place_under.Goals as goal

pub loop-number-init : goal.loop-number-init
loop-number-init c =
    ap (found (same (term c.args.t.now)) (terms_in c.args.all.now)) (c.under-number-items.ensures ∙ ap (under c.args.all.now.index) c.requires)
    ∙ looked_up (terms_in c.args.all.now) c.args.all.now.index (term c.args.t.now) c.args.all.now.indexed

pub returns-then-is_at : goal.returns-then-is_at
returns-then-is_at c =
    sym (found_here (same (term c.args.t.now)) (terms_in c.args.all.now) c.under-number-items.result.now c.loop-number.number-index c.loop-number-test.true
    (ap (λ ts. passes_at (same (term c.args.t.now)) (map (λ x. term x.value) ts) (get_or c.under-number-items.result.now c.loop-number.number-index 0)) (sym c.deref.ensures.value) ∙ sym c.is_at.ensures ∙ c.if-is_at.true))
    ∙ c.loop-number.invariant

pub returns : goal.returns
returns c =
    sym (ap (found (same (term c.args.t.now)) (terms_in c.args.all.now)) (drop_all _ c.under-number-items.result.now c.loop-number-test.false))
    ∙ c.loop-number.invariant
