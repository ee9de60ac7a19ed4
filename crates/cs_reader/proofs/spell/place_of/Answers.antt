use Rattle.std.proofs.Common.{sym, ◌∙◌, ap}
use Rattle.std.proofs.lemmas.List.{drop_all}
use Rattle.cs_index.specs.Found.{found}
use Rattle.cs_index.proofs.Indexed.{found_here}
use Rattle.cs_reader.specs.Live.{declared_in, under}
use Rattle.cs_reader.specs.Spelling.{spelled_by}
use Rattle.cs_reader.proofs.Among.{looked_up}
use Rattle.cs_reader.proofs.spell.place_of.Goals as goal

pub loop-at-init : goal.loop-at-init
loop-at-init c =
    ap (found (spelled_by c.args.text.now) (declared_in c.args.symbols.now)) (c.under-at-items.ensures ∙ ap (under c.args.symbols.now) c.word_key.ensures)
    ∙ looked_up c.args.symbols.now c.args.text.now

pub returns-then-is_at : goal.returns-then-is_at
returns-then-is_at c =
    sym (found_here (spelled_by c.args.text.now) (declared_in c.args.symbols.now) c.under-at-items.result.now c.loop-at.at-index c.loop-at-test.true (sym c.is_at.ensures ∙ c.if-is_at.true))
    ∙ c.loop-at.invariant

pub returns : goal.returns
returns c =
    sym (ap (found (spelled_by c.args.text.now) (declared_in c.args.symbols.now)) (drop_all _ c.under-at-items.result.now c.loop-at-test.false))
    ∙ c.loop-at.invariant
