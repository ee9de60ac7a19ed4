use Rattle.std.proofs.Common.{map, reverse, refl, sym, ap, subst, ◌∙◌}
use Rattle.vx_smt_meaning.specs.Views.{declared_symbol}
use Rattle.cs_commands.specs.Laws.{AreApart}
use Rattle.cs_session.specs.Views.{all_of}
use Rattle.cs_session.proofs.Apart.{apart_means}
use Rattle.cs_session.proofs.Spread.{symbols_on, symbols_stand}
use Rattle.cs_session.proofs.levels.Levels.symbols.Goals as goal

pub returns-clause-value : goal.returns-clause-value
returns-clause-value c =
    let s = c.args.self.now in
    ap (map declared_symbol) (c.new.ensures ∙ c.deref.ensures.value) ∙ symbols_stand (reverse s.counts.items) (all_of s) (map declared_symbol s.stack.symbols.items) refl

pub returns-clause-apart : goal.returns-clause-apart
returns-clause-apart c =
    let s = c.args.self.now in
    subst AreApart (sym (symbols_on (reverse s.counts.items) (all_of s))) (apart_means (all_of s).symbols s.apart)
