use Rattle.std.proofs.Common.{rules, sym, subst}
use Rattle.cs_search.specs.Extended.{AreKnown}
use Rattle.cs_ground.proofs.Unset.{unset_search}
use Rattle.cs_ground.proofs.feed.search_over.Goals as goal

pub returns-clause-ready : goal.returns-clause-ready
returns-clause-ready c = record {
  sound = unset_search c.args.clauses.items c.in_ok-values.values.items c.new-2.result.items (subst (AreKnown c.args.clauses.items) (sym c.in_ok-values.ensures.count) c.requires)
      c.in_ok-values.ensures.unset c.new-2.ensures.items;
  queued = search rules;
}
