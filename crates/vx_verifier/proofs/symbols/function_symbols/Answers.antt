use Rattle.std.proofs.Common.{◌≤◌, length, map, rules}
use Rattle.vx_smt_meaning.specs.Views.{declared_symbol}
use Rattle.vx_resolved.specs.Resolved.{member}
use Rattle.vx_resolved.specs.Settled.{settled}
use Rattle.vx_verifier.proofs.FunctionSymbols.{next_symbols, all_symbols}
use Rattle.vx_verifier.proofs.symbols.function_symbols.Goals as goal

pub loop-number-preserved : goal.loop-number-preserved
loop-number-preserved c =
    let old = c.loop-number.symbols.items in
    let new = c.put_member.new.symbols.items in
    next_symbols (settled c.args.program.now) c.loop-number.number (member c.member.result.now) (map declared_symbol old) (map declared_symbol new) (length old) (length new)
    c.member.ensures c.in_ok-put_member.ensures c.loop-number.invariant

pub returns : goal.returns
returns c =
    let symbols = c.loop-number.symbols.items in
    let end : length (settled c.args.program.now) ≤ c.loop-number.number = search rules in
    all_symbols (settled c.args.program.now) c.loop-number.number (map declared_symbol symbols) (length symbols) end c.loop-number.invariant
