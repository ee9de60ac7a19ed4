-- Two ways to say what is typed agree, of members and programs.
use Rattle.std.specs.Prelude.{◌≡◌, ◌↔◌, ℕ, true, Ok, List}
use Rattle.vx_ast.specs.Written.{Program, Member}
use Rattle.vx_expressions.specs.Settings.{Table}
use Rattle.vx_typing.specs.Members.{AreTypedMembers}
use Rattle.vx_typing.specs.MemberFaults.{members}
use Rattle.vx_typing.specs.Groups.{InGroup, in_group}
use Rattle.vx_typing.specs.Programs.{IsTyped, program}
use Rattle.vx_expressions.specs.Laws.{HasFault}

-- the members, one after another
abbrev pub MembersAgree : Type 0
MembersAgree = (table : Table) (ms : List Member) → (members table ms ≡ Ok tt) ↔ AreTypedMembers table ms

-- groups, as a relation and as a test
abbrev pub GroupsAgree : Type 0
GroupsAgree = (p : Program) (a b : ℕ) → (in_group p a b ≡ true) ↔ InGroup p a b

-- a program
abbrev pub ProgramsAgree : Type 0
ProgramsAgree = (p : Program) → (program p ≡ Ok tt) ↔ IsTyped p

abbrev pub OtherProgramsAreFaulty : Type 0
OtherProgramsAreFaulty = (p : Program) → HasFault (program p) ↔ (IsTyped p → ⊥)
