use Rattle.std.proofs.Common.{sym, ◌∙◌}
use Rattle.std.specs.Prelude.{None}
use Rattle.std.proofs.lemmas.List.{get_or_read}
use Rattle.vx_graph.proofs.Marks.{root_reads}
use Rattle.vx_graph.proofs.groups.Groups.root.Goals as goal

pub returns : goal.returns
returns c =
    let roots = c.args.self.now.roots.items in
    record { root = get_or_read roots c.args.member.0 c.index.result.now c.requires c.index.ensures None ∙ sym (root_reads roots c.args.member.0) }
