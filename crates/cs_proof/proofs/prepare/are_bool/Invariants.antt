use Rattle.std.proofs.Common.{◌≡◌, drop}
use Rattle.std.specs.List.{list_all}
use Rattle.cs_table.specs.Views.{nodes}
use Rattle.cs_table.specs.Gives.{clause}
use Rattle.cs_proof.specs.Prepared.{is_bool}
use Rattle.cs_proof.proofs.prepare.are_bool.Given as goal

abbrev pub invariant-loop-literal : goal.invariant-loop-literal
invariant-loop-literal l = list_all (is_bool (nodes l.all)) (clause l.literals) ≡ list_all (is_bool (nodes l.all)) (clause (drop l.literal-index l.literals))
