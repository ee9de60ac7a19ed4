use Rattle.vx_smt_meaning.specs.Views.{declared_symbol}
use Rattle.cs_reader.proofs.Indexing.{index_more}
use Rattle.cs_reader.proofs.index.SymbolIndex.add.Goals as goal

pub returns-clause-added : goal.returns-clause-added
returns-clause-added c = index_more c.args.self.now.index c.add.new.self (declared_symbol c.args.one.now) c.symbol_key.result c.args.at c.symbol_key.ensures c.in_ok-add.ensures.added
