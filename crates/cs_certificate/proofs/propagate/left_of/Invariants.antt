use Rattle.std.proofs.Common.{◌≡◌, drop}
use Rattle.cs_certificate.specs.declared.literal.Left.TheVariants.{Nothing}
use Rattle.cs_certificate.specs.Marks.{is_marked, flip, left_by}
use Rattle.cs_certificate.proofs.propagate.left_of.Given as goal

abbrev pub invariant-loop-literal : goal.invariant-loop-literal
invariant-loop-literal l = left_by (λ k. is_marked l.marks (flip k)) Nothing l.clause ≡ left_by (λ k. is_marked l.marks (flip k)) l.found (drop l.literal-index l.clause)
