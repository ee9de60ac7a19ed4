use Rattle.std.proofs.Common.{◌≡◌, Option, None, Some, SomeIff, FitsSigned}
use Rattle.std.specs.Int.{w128}
use Rattle.vx_frac.proofs.Fits.{product_not}
use Rattle.vx_frac.proofs.Frac.common.Goals as goal

none_where : {T : Type 0} (o : Option T) (P : Type 0) (v : T) → o ≡ None → (P → ⊥) → SomeIff o P v
none_where None P v e f = f
none_where (Some x) P v e f = absurd (cc)

pub returns-in_err-right-clause-value : goal.returns-in_err-right-clause-value
returns-in_err-right-clause-value c =
    let l : FitsSigned w128 c.num-3.result = record { sfits = c.num-3.type_inv } in
    let r : FitsSigned w128 c.den-2.result = record { sfits = c.den-2.type_inv } in
    none_where _ _ _ c.from_residual-in_err-right.ensures
    (λ fits. product_not _ _ _ _ l r c.num-3.ensures c.den-2.ensures.value c.in_err-right.ensures fits.1)

pub returns-in_err-den-clause-value : goal.returns-in_err-den-clause-value
returns-in_err-den-clause-value c = none_where _ _ _ c.from_residual-in_err-den.ensures (λ fits. c.in_err-den.ensures.value fits.2)
