use Rattle.std.proofs.Common.{◌≡◌, ◌≤◌, ◌-◌, true, nat_le, refl, arith}
use Rattle.std.proofs.lemmas.Grind.{common_steps}
use Rattle.vx_sexp.specs.declared.token.Token.TheVariants.{Close}
use Rattle.vx_sexp.proofs.Pieces.{found_ends, found_on}
use Rattle.vx_sexp.proofs.reading.Reading.closed.Goals as goal

pub returns-then-self-eq1-clause-step : goal.returns-then-self-eq1-clause-step
returns-then-self-eq1-clause-step c = λ bytes m place.
    let some : nat_le 1 c.args.self.depth ≡ true = grind (arith, common_steps) in
    let none : c.args.self.depth - 1 ≡ 0 = omega arith in
    found_ends c.args.self bytes Close _ m some none

pub returns-else-self-eq1-clause-step : goal.returns-else-self-eq1-clause-step
returns-else-self-eq1-clause-step c = λ bytes m place.
    let d = c.args.self.depth in
    let some : nat_le 1 d ≡ true = grind (arith, common_steps) in
    let low : d - 1 ≤ 4096 = omega arith in
    rw c.behind.ensures (found_on c.args.self bytes Close _ (d - 1) m some refl (λ z. omega arith) low)
