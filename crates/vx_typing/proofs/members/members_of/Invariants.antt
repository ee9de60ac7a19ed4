use Rattle.std.proofs.Common.{◌≡◌, ◌++◌, [], drop, map}
use Rattle.vx_ast.specs.Written.{written_member}
use Rattle.vx_typing.specs.Members.{table_of}
use Rattle.vx_typing.specs.MemberFaults.{new_names}
use Rattle.vx_expressions.specs.Views.{table, names_in}
use Rattle.vx_typing.proofs.members.members_of.Given as goal

abbrev pub invariant-loop-m : goal.invariant-loop-m
invariant-loop-m l = record {
  walk : new_names [] (map written_member l.all) ≡ new_names (names_in (table l.members.entries)) (map written_member (drop l.m-index l.all));
  known : table_of (map written_member l.all) ≡ table l.members.entries ++ table_of (map written_member (drop l.m-index l.all));
}
