use Rattle.std.proofs.Common.{◌≡◌, true, false, map, arith}
use Rattle.std.specs.List.{list_all}
use Rattle.std.proofs.lemmas.Bool.Decides.{Decides-at}
use Rattle.std.proofs.lemmas.Grind.{common_steps}
use Rattle.cs_proof.specs.Views.{written}
use Rattle.cs_writable.specs.Tests.{is_writable_step}
use Rattle.cs_writable.proofs.Decided.{writable}
use Rattle.cs_writable.proofs.writable.are_writable.Goals as goal

pub returns-then-not-fine : goal.returns-then-not-fine
returns-then-not-fine c =
    let told : false ≡ list_all is_writable_step (map written c.args.steps.now) = grind (arith, common_steps) in
    Decides-at false (list_all is_writable_step (map written c.args.steps.now)) told (writable c.args.steps.now)

pub returns : goal.returns
returns c =
    let told : true ≡ list_all is_writable_step (map written c.args.steps.now) = grind (arith, common_steps) in
    Decides-at true (list_all is_writable_step (map written c.args.steps.now)) told (writable c.args.steps.now)
