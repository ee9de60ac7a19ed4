-- What is typed as it is written is typed when it is settled, member by member and, where it is executed, as a whole, and
-- keeps its members apart.
use Rattle.std.specs.Prelude.{◌≡◌, ◌≤◌, ℕ, Some, slice_get}
use Rattle.vx_ast.specs.Written as written
use Rattle.vx_ast.specs.Resolve.{program}
use Rattle.vx_ast.specs.Syntax.{Name, Program, Member, Kind, Method, IsMethod}
use Rattle.vx_typing.specs.Programs.{IsTyped}
use Rattle.vx_types.specs.Typing.{IsTypedMethod}
use Rattle.vx_rules.specs.Rules.{outer}
use Rattle.vx_rules.specs.Members.{depth, tree_over, tree}
use Rattle.vx_ast.specs.Apart.{KeepsApart}
use Rattle.vx_types.specs.Premises.{IsTypedProgram}
use Rattle.vx_resolved.specs.Numbers.{number_named}

-- this holds of the methods of a program
abbrev pub OfMethods : Program → (Method → Type 0) → Type 0
OfMethods p Holds = (n : ℕ) (x : Member) (m : Method) → slice_get p n ≡ Some x → x.kind ≡ IsMethod m → Holds m

-- for the whole language
abbrev pub TypedWhenSettled : Type 0
TypedWhenSettled = (p : written.Program) → IsTyped p → OfMethods (program p) (IsTypedMethod (program p))

-- no two members have one name in what is typed
abbrev pub DistinctWhenSettled : Type 0
DistinctWhenSettled = (p : written.Program) → IsTyped p → (n : ℕ) (m : Member) → slice_get (program p) n ≡ Some m → number_named 0 (program p) m.name ≡ Some n

-- no member is entered within itself in what is typed
abbrev pub KeptApartWhenSettled : Type 0
KeptApartWhenSettled = (p : written.Program) → IsTyped p → KeepsApart (program p)

-- so the depth of the rules suffices: with more, each member's tree is the same
abbrev pub DepthSufficesWhenSettled : Type 0
DepthSufficesWhenSettled = (p : written.Program) (d : ℕ) → IsTyped p → depth (program p) ≤ d → (x : Name) (k : Kind) → tree_over (program p) (outer (program p) d) x k ≡ tree (program p) x k

-- for the whole language
abbrev pub TypedProgramWhenSettled : Type 0
TypedProgramWhenSettled = (p : written.Program) → IsTyped p → IsTypedProgram (program p)
