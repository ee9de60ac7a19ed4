use Rattle.std.proofs.Common.{◌≡◌, ◌++◌, drop, length, map}
use Rattle.vx_smt_meaning.specs.Views.{declared_symbol}
use Rattle.vx_resolved.specs.Settled.{settled}
use Rattle.vx_live.specs.Functions.{symbols_from}
use Rattle.vx_verifier.proofs.symbols.function_symbols.Given as goal

-- the symbols so far, and those of the members that are left
abbrev pub invariant-loop-number : goal.invariant-loop-number
invariant-loop-number l = map declared_symbol l.symbols.items ++ symbols_from (drop l.number (settled l.program)) (length l.symbols.items) ≡ symbols_from (settled l.program) 0
