-- The laws of typing.
use Rattle.std.proofs.Common.{◌≡◌, ap, ◌∙◌, Ok}
use Rattle.vx_typing.specs.Laws.{MembersAgree, GroupsAgree, ProgramsAgree, OtherProgramsAreFaulty}
use Rattle.vx_expressions.specs.Faults.{◌>>=◌}
use Rattle.vx_expressions.proofs.Passed.{bound}
use Rattle.vx_expressions.proofs.Agree.{faulty, gives_none}
use Rattle.vx_typing.proofs.AgreesMembers.{names_to, names_from, members_to, members_from}
use Rattle.vx_typing.proofs.Reachable.{in_its_group, grouped}
use Rattle.std.specs.Prelude.{⊤, []}
use Rattle.vx_ast.specs.Written.{Program}
use Rattle.vx_typing.specs.Members.{table_of}
use Rattle.vx_typing.specs.MemberFaults.{new_names, members as walk}
use Rattle.vx_typing.specs.GroupFaults.{measures, all_apart}
use Rattle.vx_typing.specs.Programs.{IsTyped, program, groups as groups_walk}
use Rattle.vx_typing.proofs.AgreesGroups.{measures_to, measures_from, apart_to, apart_from}

pub members : MembersAgree
members table ms = (members_to table ms tt, members_from table ms)

pub groups : GroupsAgree
groups p a b = (in_its_group p a b, grouped p)

program_to : (p : Program) (u : ⊤) → program p ≡ Ok u → IsTyped p
program_to p u h =
    let y = bound (new_names [] p) _ u h in
    let z = bound (walk (table_of p) p) _ u y.2 in
    let w = bound (measures p 0 p) _ u z.2 in
    record { names = names_to [] p y.0 y.1; members = members_to (table_of p) p z.0 z.1; measures = measures_to p w.1; groups = apart_to p w.2 }

program_from : (p : Program) → IsTyped p → program p ≡ Ok tt
program_from p h =
    ap (λ r. r >>= λ u. walk (table_of p) p >>= λ u. groups_walk p) (names_from [] p h.names) ∙ ap (λ r. r >>= λ u. groups_walk p) (members_from (table_of p) p h.members)
    ∙ ap (λ r. r >>= λ u. all_apart p 0 p) (measures_from p h.measures) ∙ apart_from p h.groups

pub programs : ProgramsAgree
programs p = (program_to p tt, program_from p)

pub other_programs : OtherProgramsAreFaulty
other_programs p = (λ h k. gives_none (program p) h tt (program_from p k), λ h. faulty (program p) (λ u k. h (program_to p u k)))
