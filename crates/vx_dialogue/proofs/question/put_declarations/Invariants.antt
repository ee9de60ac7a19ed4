use Rattle.std.proofs.Common.{◌≡◌, ◌++◌, map, drop}
use Rattle.vx_smt_meaning.specs.Views.{command, declared_symbol}
use Rattle.vx_dialogue.specs.Preamble.{declarations}
use Rattle.vx_dialogue.proofs.question.put_declarations.Given as goal

abbrev pub invariant-loop-symbol : goal.invariant-loop-symbol
invariant-loop-symbol l = map command l.commands.items ++ declarations (map declared_symbol (drop l.symbol-index l.symbols)) ≡ map command l.fn.commands.items ++ declarations (map declared_symbol l.symbols)
