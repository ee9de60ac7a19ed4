use Rattle.vx_sexp.specs.declared.token.Token.TheVariants.{Atom}
use Rattle.std.proofs.Common.{refl}
use Rattle.vx_sexp.proofs.Pieces.{found_ends, found_on}
use Rattle.vx_sexp.proofs.reading.Reading.atom.Goals as goal

pub returns-then-self-eq0-clause-step : goal.returns-then-self-eq0-clause-step
returns-then-self-eq0-clause-step c = λ bytes kind text m. found_ends c.args.self bytes (Atom kind text) c.args.at m refl c.if-self-eq0.true

pub returns-else-self-eq0-clause-step : goal.returns-else-self-eq0-clause-step
returns-else-self-eq0-clause-step c = λ bytes kind text m.
    rw c.behind.ensures (found_on c.args.self bytes (Atom kind text) c.args.at c.args.self.depth m refl refl c.if-self-eq0.false m.so_far.low)
