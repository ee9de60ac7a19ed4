use Rattle.std.proofs.Common.{◌≡◌, ℤ, arith, ap, ap₂, sym, ◌∙◌, FitsSigned, to_z, of_z}
use Rattle.std.specs.Prelude.{int_lt}
use Rattle.std.specs.Int.{w128}
use Rattle.std.proofs.lemmas.Int.{to_z-of_z}
use Rattle.vx_frac.specs.Fraction.{fraction}
use Rattle.vx_frac.proofs.Order.{numerators}
use Rattle.std.proofs.lemmas.Grind.{common_steps}
use Rattle.std.proofs.lemmas.Int.{ints}
use Rattle.vx_frac.proofs.Frac.is_less.Goals as goal

pub returns-in-true-true : goal.returns-in-true-true
returns-in-true-true c = grind (ints, arith, common_steps)

pub returns-in-false-false : goal.returns-in-false-false
returns-in-false-false c = grind (ints, arith, common_steps)

known : (x : ℤ) → FitsSigned w128 x → to_z w128 (of_z w128 x) ≡ x
known x f = to_z-of_z w128 x f

pub returns-then-den : goal.returns-then-den
returns-then-den c =
    let dens = sym (known _ record { sfits = c.den.type_inv }) ∙ ap (to_z w128) c.if-den.true ∙ known _ record { sfits = c.den-2.type_inv } in
    let below = numerators (fraction c.args.self) (fraction c.args.other) (sym c.den.ensures.value ∙ dens ∙ c.den-2.ensures.value) in
    ap₂ int_lt (known _ record { sfits = c.num.type_inv } ∙ c.num.ensures) (known _ record { sfits = c.num-then-den.type_inv } ∙ c.num-then-den.ensures) ∙ below
