use Rattle.std.proofs.Common.{All, ap, sym, subst, arith}
use Rattle.std.proofs.lemmas.Grind.{common_steps}
use Rattle.std.proofs.lemmas.List.Elements.{All-take}
use Rattle.cs_table.specs.Views.{nodes}
use Rattle.cs_certificate.specs.Marks.{terms_in}
use Rattle.cs_proof.specs.Views.{duty, IsFitClause}
use Rattle.cs_proof.specs.Checking.{met}
use Rattle.cs_proof.proofs.checker.meet.Goals as goal

pub returns-in-Missed-clause-value : goal.returns-in-Missed-clause-value
returns-in-Missed-clause-value c = ap (λ d. met (nodes c.args.all.now) c.args.clauses.now c.args.derived (duty d)) c.in-Missed.is

pub returns-in_err-add_up-in-Sum-clause-value : goal.returns-in_err-add_up-in-Sum-clause-value
returns-in_err-add_up-in-Sum-clause-value c = grind (arith, common_steps)

pub returns-in_ok-add_up-in-Sum-clause-value : goal.returns-in_ok-add_up-in-Sum-clause-value
returns-in_ok-add_up-in-Sum-clause-value c = grind (arith, common_steps)

pub returns-then-refutes_by-clause-value : goal.returns-then-refutes_by-clause-value
returns-then-refutes_by-clause-value c = grind (arith, common_steps)

pub returns-else-refutes_by-clause-value : goal.returns-else-refutes_by-clause-value
returns-else-refutes_by-clause-value c = grind (arith, common_steps)

pub refutes_by-requires-clause-clauses : goal.refutes_by-requires-clause-clauses
refutes_by-requires-clause-clauses c =
    subst (λ cs. All (IsFitClause (terms_in c.args.marks.now)) cs) (sym c.first.ensures)
    (All-take (IsFitClause (terms_in c.args.marks.now)) c.args.derived c.args.clauses.now (subst (λ n. All (IsFitClause n) c.args.clauses.now) (sym c.requires.marks) c.requires.clauses))
