use Rattle.std.proofs.Common.{reverse, refl, sym, subst}
use Rattle.cs_proof.specs.Fits.{seen}
use Rattle.cs_commands.specs.Laws.{AreApart}
use Rattle.cs_session.specs.Views.{all_of}
use Rattle.cs_session.proofs.Apart.{apart_means}
use Rattle.cs_session.proofs.Spread.{stands, symbols_on}
use Rattle.cs_session.proofs.levels.Levels.stack.Goals as goal

pub returns-clause-value : goal.returns-clause-value
returns-clause-value c =
    let s = c.args.self.now in
    stands (reverse s.counts.items) (all_of s) (seen s.stack) refl refl

pub returns-clause-apart : goal.returns-clause-apart
returns-clause-apart c =
    let s = c.args.self.now in
    subst AreApart (sym (symbols_on (reverse s.counts.items) (all_of s))) (apart_means (all_of s).symbols s.apart)
