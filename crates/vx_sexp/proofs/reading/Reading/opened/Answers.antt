use Rattle.std.proofs.Common.{◌≤◌, ◌+◌, refl, arith}
use Rattle.vx_sexp.specs.declared.token.Token.TheVariants.{Open}
use Rattle.vx_sexp.proofs.Pieces.{found_on}
use Rattle.vx_sexp.proofs.reading.Reading.opened.Goals as goal

pub returns-else-self-eq-MOST_OPEN-clause-step : goal.returns-else-self-eq-MOST_OPEN-clause-step
returns-else-self-eq-MOST_OPEN-clause-step c = λ bytes m place.
    let d = c.args.self.depth in
    let low : d + 1 ≤ 4096 = omega arith in
    rw c.behind.ensures (found_on c.args.self bytes Open _ (d + 1) m refl refl (λ z. omega arith) low)
