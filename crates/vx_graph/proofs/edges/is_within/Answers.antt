use Rattle.std.proofs.Common.{◌<◌, subst, rules}
use Rattle.std.specs.Prelude.{All}
use Rattle.std.proofs.lemmas.List.{take_all}
use Rattle.std.proofs.lemmas.List.Elements.{All-more}
use Rattle.vx_ast.specs.declared.MemberId.{MemberId}
use Rattle.vx_graph.proofs.edges.is_within.Goals as goal

pub loop-m-preserved : goal.loop-m-preserved
loop-m-preserved c = All-more (λ (m : MemberId). m.0 < c.args.members) c.args.row.now c.loop-m.m-index record { 0 = 0 } c.loop-m-test.true c.loop-m.invariant (search rules)

pub returns : goal.returns
returns c = ((λ t. subst (All (λ m. m.0 < c.args.members)) (take_all c.loop-m.m-index c.args.row.now c.loop-m-test.false) c.loop-m.invariant), (λ all. search rules))
