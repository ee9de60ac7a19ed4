-- A program that is typed as it is written is typed as a whole when it is settled.
use Rattle.vx_ast.specs.Written as written
use Rattle.vx_ast.specs.Resolve as resolve
use Rattle.vx_typing.specs.Programs.{IsTyped}
use Rattle.vx_settled.specs.WhenSettled.{TypedProgramWhenSettled, DistinctWhenSettled}
use Rattle.vx_verifier.specs.Headline.{IsWhole}

pub whole : (p : written.Program) → IsTyped p → TypedProgramWhenSettled → DistinctWhenSettled → IsWhole (resolve.program p)
whole p t law distinct = record { typed = law p t; distinct = distinct p t }
