use Rattle.cs_session.proofs.Lists.{gone_more, none_gone}
use Rattle.cs_session.proofs.levels.cut_symbols.Goals as goal

pub loop-symbol-init : goal.loop-symbol-init
loop-symbol-init c = (none_gone c.args.symbols.now.items, c.requires)

pub loop-symbol-preserved : goal.loop-symbol-preserved
loop-symbol-preserved c =
    (gone_more c.loop-symbol._symbol c.args.symbols.now.items c.loop-symbol.symbols.items c.pop_symbol.new.symbols.items c.loop-symbol.invariant.0 c.pop_symbol.ensures.symbols, c.pop_symbol.ensures.indexed)
