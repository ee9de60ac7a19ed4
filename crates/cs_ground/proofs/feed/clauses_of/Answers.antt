use Rattle.std.proofs.Common.{rules, length, sym, ◌∙◌, subst}
use Rattle.cs_ground.specs.Atoms.{AreBool}
use Rattle.cs_ground.proofs.Fed.{item_bool, fed_more, known_more}
use Rattle.cs_ground.proofs.feed.clauses_of.Goals as goal

pub returns-in_err-literals-clause-found : goal.returns-in_err-literals-clause-found
returns-in_err-literals-clause-found c = λ all are bools.
    let h = c.in_err-literals.ensures.found all are (subst (AreBool all) (sym c.deref.ensures.value) (item_bool all c.args.clauses.now c.loop-clause.clause-index c.clause-item.result c.loop-clause-test.true c.clause-item.is bools)) in
    search rules

pub loop-clause-preserved : goal.loop-clause-preserved
loop-clause-preserved c = record {
  same = fed_more c.args.atoms.now.terms.items c.loop-clause.all.items c.push.new.self.items c.args.clauses.now c.loop-clause.clause-index c.clause-item.result _
      c.loop-clause-test.true c.clause-item.is c.loop-clause.invariant.same (c.in_ok-literals.ensures.same ∙ c.deref.ensures.value) c.in_ok-push.ensures.items;
  known = known_more (length c.args.atoms.now.terms.items) c.loop-clause.all.items c.push.new.self.items _ c.loop-clause.invariant.known c.in_ok-literals.ensures.within c.in_ok-push.ensures.items;
}
