-- Which programs are typed, and the first fault of one that isn't: the names of all members, then each member in file
-- order, then measures, and then what leads back to its own group.
use Rattle.std.specs.Prelude.{[], map, ⊤}
use Rattle.vx_ast.specs.Written.{Program}
use Rattle.vx_statements.specs.Statements.{AreNew}
use Rattle.vx_typing.specs.Members.{table_of, AreTypedMembers}
use Rattle.vx_typing.specs.Measures.{AreMeasured, KeepApart}
use Rattle.vx_expressions.specs.Faults.{Checked, ◌>>=◌}
use Rattle.vx_typing.specs.MemberFaults.{new_names, members}
use Rattle.vx_typing.specs.GroupFaults.{measures, all_apart}

pub record IsTyped (p : Program) : Type 0 where
  pub names : AreNew [] (map (λ m. m.name) p)
  pub members : AreTypedMembers (table_of p) p
  pub measures : AreMeasured p
  pub groups : KeepApart p

abbrev pub groups : Program → Checked ⊤
groups p = measures p 0 p >>= λ _. all_apart p 0 p

abbrev pub program : Program → Checked ⊤
program p = new_names [] p >>= λ _. members (table_of p) p >>= λ _. groups p
