use Rattle.std.proofs.Common.{sym, ◌∙◌, ap}
use Rattle.std.proofs.lemmas.List.{drop_all}
use Rattle.vx_terms.specs.Sorts.{same_symbol}
use Rattle.vx_terms.specs.Views.{symbol}
use Rattle.cs_index.specs.Found.{found}
use Rattle.cs_index.proofs.Indexed.{found_here}
use Rattle.cs_reader.specs.Live.{declared_in, under}
use Rattle.cs_commands.proofs.Places.{looked_up}
use Rattle.cs_commands.proofs.live.place_of.Goals as goal

pub loop-at-init : goal.loop-at-init
loop-at-init c =
    ap (found (λ d. same_symbol (symbol c.args.f.now) d.symbol) (declared_in c.args.symbols.now))
    (c.under-at-items.ensures ∙ ap (under c.args.symbols.now) c.symbol_key.ensures)
    ∙ looked_up c.args.symbols.now (symbol c.args.f.now)

pub returns-then-is_at : goal.returns-then-is_at
returns-then-is_at c =
    sym (found_here (λ d. same_symbol (symbol c.args.f.now) d.symbol) (declared_in c.args.symbols.now) c.under-at-items.result.now c.loop-at.at-index c.loop-at-test.true (sym c.is_at.ensures ∙ c.if-is_at.true))
    ∙ c.loop-at.invariant

pub returns : goal.returns
returns c =
    sym (ap (found (λ d. same_symbol (symbol c.args.f.now) d.symbol) (declared_in c.args.symbols.now)) (drop_all _ c.under-at-items.result.now c.loop-at-test.false))
    ∙ c.loop-at.invariant
