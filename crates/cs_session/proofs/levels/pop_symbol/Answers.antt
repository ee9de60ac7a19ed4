use Rattle.std.proofs.Common.{[], ◌∷◌, map, ap, subst, ◌∙◌}
use Rattle.std.proofs.lemmas.List.{map-append}
use Rattle.vx_smt_meaning.specs.Views.{declared_symbol}
use Rattle.cs_reader.specs.Indexing.{IsIndexOf}
use Rattle.cs_session.proofs.Lists.{last_gone}
use Rattle.cs_session.proofs.levels.pop_symbol.Goals as goal

pub returns-clause-symbols : goal.returns-clause-symbols
returns-clause-symbols c = last_gone c.args.symbols.now.items c.pop.new.self.items c.in-Some.last c.in-Some.ensures.items

pub returns-clause-indexed : goal.returns-clause-indexed
returns-clause-indexed c =
    let left = c.pop.new.self.items in
    let last = c.in-Some.last in
    c.take_last.ensures (map declared_symbol left)
    (subst (λ ds. IsIndexOf ds c.args.index.now) (ap (map declared_symbol) c.in-Some.ensures.items ∙ map-append declared_symbol left (last ∷ [])) c.requires)
