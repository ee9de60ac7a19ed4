use Rattle.std.proofs.Common.{All, length, sym, subst, arith}
use Rattle.std.proofs.lemmas.Grind.{common_steps}
use Rattle.std.proofs.lemmas.List.Elements.{All-push}
use Rattle.cs_proof.specs.Views.{IsFitClause}
use Rattle.cs_derivation.proofs.derivation.Derivation.push.Goals as goal

pub invariant_of-self-in-Ok : goal.invariant_of-self-in-Ok
invariant_of-self-in-Ok c =
    let self = c.args.self.now in
    let n = length self.nodes.nodes.items in
    record {
      few_roots = self.few_roots;
      few_clauses = grind (arith, common_steps);
      fit_clauses = subst (λ cs. All (IsFitClause n) cs) (sym c.in_ok-push.ensures.items) (All-push (IsFitClause n) self.clauses.items c.args.clause self.fit_clauses c.requires);
      same_terms = self.same_terms;
      rounds = self.rounds;
    }
