use Rattle.std.proofs.Common.{◌∙◌, map, true, false, Bool}
use Rattle.vx_ast.specs.Written.{written_member}
use Rattle.vx_graph.specs.Groups.{roots}
use Rattle.vx_expressions.specs.Views.{table}
use Rattle.vx_typing.proofs.Graphs.{measures_at, one_mark}
use Rattle.vx_typing.proofs.groups.kinds_of.Goals as goal

pub loop-n-preserved : goal.loop-n-preserved
loop-n-preserved c =
    let p = map written_member c.args.g.all.now in
    let rs = roots c.args.g.groups.now in
    let n = c.loop-n.n in
    let root = c.root-root.result in
    let measures = λ (b : Bool). measures_at c.args.g.all.now (table c.args.g.members.now.entries) b n c.index-g-n.result c.requires.table c.loop-n-test.true in (
      one_mark p rs true n c.loop-n.by_instance.items c.mark.new.marks.items root c.measures_by.result c.requires.groups c.root-root.ensures.root
          (c.measures_by.ensures ∙ measures true) c.mark.ensures.members c.mark.ensures.marks c.loop-n.invariant.0,
      one_mark p rs false n c.loop-n.by_number.items c.mark-in-loop-n.new.marks.items root c.measures_by-in-loop-n.result c.requires.groups c.root-root.ensures.root
          (c.measures_by-in-loop-n.ensures ∙ measures false) c.mark-in-loop-n.ensures.members c.mark-in-loop-n.ensures.marks c.loop-n.invariant.1,
    )
