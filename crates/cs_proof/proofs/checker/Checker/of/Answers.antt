use Rattle.std.proofs.Common.{◌≡◌, ◌↔◌, ◌<◌, ◌^◌, length, map, None, sym, subst, arith}
use Rattle.cs_table.specs.Views.{nodes}
use Rattle.cs_proof.specs.Answers.{Answers}
use Rattle.cs_proof.specs.Checking.{verdict}
use Rattle.cs_proof.specs.Fits.{seen}
use Rattle.cs_proof.specs.Views.{written, duty}
use Rattle.cs_proof.proofs.Begun.{begun_answers}
use Rattle.cs_proof.proofs.checker.Checker.of.Goals as goal

pub returns-clause-answers : goal.returns-clause-answers
returns-clause-answers c =
    let few : length c.in_ok-plans.plans.clauses.items < 2 ^ 32 = (let a = c.if-len-2.false in let b = c.len-2.ensures in omega arith) in
    λ sorted v.
    subst (λ ns. Answers (seen c.args.stack.now) (map written c.args.steps.now) v
    ↔ (v ≡ verdict record { nodes = nodes ns.items; clauses = c.in_ok-plans.plans.clauses.items; duties = map duty c.in_ok-plans.plans.duties.items; done = 0; derived = 0; refusal = None }))
    (sym c.into_nodes-nodes.ensures)
    (begun_answers c.args.stack.now (map written c.args.steps.now) c.in_ok-plans.plans c.in_ok-plans.ensures.value c.in_ok-plans.ensures.fits c.in_ok-plans.ensures.few few sorted v)
