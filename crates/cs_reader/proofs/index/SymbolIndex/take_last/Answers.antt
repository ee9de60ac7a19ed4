use Rattle.vx_smt_meaning.specs.Views.{declared_symbol}
use Rattle.cs_reader.proofs.Indexing.{index_less}
use Rattle.cs_reader.proofs.index.SymbolIndex.take_last.Goals as goal

pub returns : goal.returns
returns c = index_less c.args.self.now.index c.take_last.new.self (declared_symbol c.args.last.now) c.symbol_key.result c.symbol_key.ensures c.take_last.ensures
