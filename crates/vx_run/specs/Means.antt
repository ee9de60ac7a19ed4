-- When an outcome in code is that of the drawn run.
use Rattle.std.specs.Prelude.{◌≡◌, ℕ, Some, slice_get}
use Rattle.vx_ast.specs.declared.MemberId.{MemberId}
use Rattle.vx_ast.specs.Syntax.{Name, Program, Method, Block, IsMethod}
use Rattle.vx_run.specs.Drawn.{drawn}
use Rattle.vx_run.specs.Views.{outcome}
use Rattle.vx_run.specs.declared.outcome.Whole.{Whole}

-- the member of this number is this method, and has this body
pub record HasBody (p : Program) (n : MemberId) (m : Method) (b : Block) : Type 0 where
  pub name : Name
  pub is_method : slice_get p n.0 ≡ Some record { name = name; kind = IsMethod m }
  pub is_body : m.body ≡ Some b

-- it is the outcome of the drawn run of that method
abbrev pub IsDrawn : Program → MemberId → (seed steps : ℕ) → Whole → Type 0
IsDrawn p n seed steps w = (m : Method) (b : Block) → HasBody p n m b → outcome w ≡ drawn p m b seed steps
