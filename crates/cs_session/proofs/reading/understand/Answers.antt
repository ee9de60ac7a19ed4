use Rattle.std.proofs.Common.{◌≡◌, map, reverse, subst}
use Rattle.std.specs.Prelude.{string_bytes}
use Rattle.vx_smt_meaning.specs.Commands.{declared_in}
use Rattle.vx_smt_meaning.specs.Views.{declared_symbol}
use Rattle.vx_smt_meaning.specs.WellFormed.{sorts_in}
use Rattle.cs_commands.specs.Live.{Scope}
use Rattle.cs_commands.specs.Understanding.{Understands}
use Rattle.cs_session.specs.Views.{levels_of}
use Rattle.cs_session.proofs.Meant.{over_levels, fits}
use Rattle.cs_session.proofs.reading.understand.Goals as goal

pub returns-clause-meant : goal.returns-clause-meant
returns-clause-meant c =
    let levels = levels_of c.args.levels.now in
    let symbols : map declared_symbol c.symbols-symbols.result.declared.now ≡ reverse (declared_in levels) = c.symbols-symbols.ensures.value in
    let sorts : map string_bytes c.sorts.result.now ≡ reverse (sorts_in levels) = c.sorts.ensures in
    over_levels c.understood_in_any_order.ensures.turned levels c.symbols-symbols.ensures.apart c.args.bytes.now c.understand.result
    (subst (λ (s : Scope). Understands s c.args.bytes.now c.understand.result) (λ i. record { symbols = symbols i; sorts = sorts i }) c.understand.ensures)

pub returns-clause-fits : goal.returns-clause-fits
returns-clause-fits c =
    let levels = levels_of c.args.levels.now in
    fits c.understood_may_follow.ensures c.understood_is_sorted.ensures levels c.args.bytes.now c.understand.result (returns-clause-meant c)
