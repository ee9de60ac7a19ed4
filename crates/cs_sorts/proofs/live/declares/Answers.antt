use Rattle.std.proofs.Common.{is_some, map, sym, ◌∙◌, ap}
use Rattle.std.proofs.lemmas.List.{drop_all}
use Rattle.vx_terms.specs.Terms.{sort_of}
use Rattle.vx_terms.specs.Views.{terms, sort, symbol}
use Rattle.cs_certificate.specs.Terms.{items}
use Rattle.cs_index.specs.Found.{found}
use Rattle.cs_index.proofs.Indexed.{found_here}
use Rattle.cs_reader.specs.Live.{declared_in, under}
use Rattle.cs_sorts.specs.Sorting.{is_declaration}
use Rattle.cs_sorts.proofs.Declared.{looked_up, declared_first}
use Rattle.cs_sorts.proofs.live.declares.Goals as goal

pub loop-at-init : goal.loop-at-init
loop-at-init c =
    ap (found (is_declaration (symbol c.args.f.now) (map sort_of (items (terms c.args.parts.now))) (sort c.args.gives.now)) (declared_in c.args.symbols.now))
    (c.under-at-items.ensures ∙ ap (under c.args.symbols.now) c.symbol_key.ensures)
    ∙ looked_up c.args.symbols.now (symbol c.args.f.now) (map sort_of (items (terms c.args.parts.now))) (sort c.args.gives.now)

pub returns-then-branch : goal.returns-then-branch
returns-then-branch c =
    ap is_some (sym (sym c.loop-at.invariant
    ∙ found_here (is_declaration (symbol c.args.f.now) (map sort_of (items (terms c.args.parts.now))) (sort c.args.gives.now)) (declared_in c.args.symbols.now) c.under-at-items.result.now c.loop-at.at-index c.loop-at-test.true
    (sym c.in_ok-is_at.ensures ∙ c.if-branch.true)))
    ∙ declared_first (declared_in c.args.symbols.now) (symbol c.args.f.now) (map sort_of (items (terms c.args.parts.now))) (sort c.args.gives.now)

pub returns : goal.returns
returns c =
    ap is_some (sym (sym c.loop-at.invariant
    ∙ ap (found (is_declaration (symbol c.args.f.now) (map sort_of (items (terms c.args.parts.now))) (sort c.args.gives.now)) (declared_in c.args.symbols.now)) (drop_all _ c.under-at-items.result.now c.loop-at-test.false)))
    ∙ declared_first (declared_in c.args.symbols.now) (symbol c.args.f.now) (map sort_of (items (terms c.args.parts.now))) (sort c.args.gives.now)
