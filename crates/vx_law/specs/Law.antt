-- The law for the whole language.
use Rattle.std.specs.Prelude.{◌≡◌, List, Some}
use Rattle.vx_ast.specs.Syntax.{Name, Program, Kind, member_named}
use Rattle.vx_smt_meaning.specs.declared.reply.Reply.{Reply}
use Rattle.vx_meaning.specs.Fails.{Fails}
use Rattle.vx_types.specs.Premises.{IsTypedProgram}
use Rattle.vx_types.specs.Closure.{InClosure}
use Rattle.vx_sound.specs.Law.{Passes}

-- In a typed program a member doesn't fail, where the walks of all that it leads to passed, with right unsat replies.
abbrev pub MembersAreSound : Type 0
MembersAreSound =
    (p : Program) (x : Name) (k : Kind) (replies : Name → List Reply) → IsTypedProgram p → member_named p x ≡ Some k →
    ((y : Name) (l : Kind) → InClosure p x y → member_named p y ≡ Some l → Passes p y l (replies y)) → Fails p x k → ⊥
