use Rattle.std.proofs.Common.{◌<◌, ◌∙◌, sym, subst, length, get_or}
use Rattle.std.specs.Prelude.{Some}
use Rattle.std.proofs.lemmas.List.{get_or_default, length-set}
use Rattle.std.proofs.lemmas.List.Elements.{All-get_or}
use Rattle.vx_ast.specs.declared.MemberId.{MemberId}
use Rattle.vx_graph.proofs.Marks.{root_more}
use Rattle.vx_graph.proofs.groups.set_root.Goals as goal

pub loop-m-preserved : goal.loop-m-preserved
loop-m-preserved c =
    let old = c.args.roots.now.items in
    let now = c.loop-m.roots.items in
    let ms = c.args.group.now in
    let i = c.loop-m.m-index in
    let m : MemberId = get_or ms i record { 0 = 0 } in
    let below : m.0 < length old = All-get_or (λ (k : MemberId). k.0 < length old) ms i record { 0 = 0 } c.loop-m-test.true c.requires in
    record {
      members = length-set now m.0 _ ∙ c.loop-m.invariant.members;
      roots = root_more old now ms i m (Some c.args.root) c.loop-m-test.true (get_or_default ms i _ _ c.loop-m-test.true) (subst (λ k. m.0 < k) (sym c.loop-m.invariant.members) below) c.loop-m.invariant.roots;
    }
