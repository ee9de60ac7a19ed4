use Rattle.std.proofs.Common.{arith}
use Rattle.std.proofs.lemmas.Grind.{common_steps}
use Rattle.std.proofs.lemmas.List.Folds.{list_all-map}
use Rattle.cs_proof.specs.Views.{numbered}
use Rattle.cs_writable.specs.Tests.{is_small_literal}
use Rattle.cs_writable.proofs.writable.is_writable_propagation.Goals as goal

pub returns-then-are_small : goal.returns-then-are_small
returns-then-are_small c =
    let literals = list_all-map is_small_literal numbered c.args.literals.now in
    grind (arith, common_steps)

pub returns-else-are_small : goal.returns-else-are_small
returns-else-are_small c =
    let literals = list_all-map is_small_literal numbered c.args.literals.now in
    grind (arith, common_steps)
