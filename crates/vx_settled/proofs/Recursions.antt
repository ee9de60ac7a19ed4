-- A function that applies itself in its precondition isn't kept apart.
use Rattle.std.proofs.Common.{inl, refl}
use Rattle.vx_ast.specs.Resolve.{program}
use Rattle.vx_ast.specs.Apart.{Reaches, KeepsApart}
use Rattle.vx_settled.specs.Recursions.{f, counts_down, applies_itself_before}

pub leads_back : Reaches (program counts_down) f f
leads_back = (1, inl (inl refl))

pub not_apart : KeepsApart (program applies_itself_before) → ⊥
not_apart apart = apart.precondition f _ f refl (inl refl) (1, inl (inl refl))
