use Rattle.std.proofs.Common.{◌∙◌, map, sym}
use Rattle.std.proofs.lemmas.List.{length-map}
use Rattle.vx_ast.specs.Written.{written_member}
use Rattle.vx_typing.proofs.groups.check_groups.Goals as goal

pub kinds_of-requires-clause-groups : goal.kinds_of-requires-clause-groups
kinds_of-requires-clause-groups c = c.in_ok-groups.ensures (map written_member c.args.all.now) (c.requires.count ∙ sym (length-map c.args.all.now written_member)) c.requires.edges

pub all_measured-requires-clause-groups : goal.all_measured-requires-clause-groups
all_measured-requires-clause-groups c = c.in_ok-groups.ensures (map written_member c.args.all.now) (c.requires.count ∙ sym (length-map c.args.all.now written_member)) c.requires.edges

pub all_apart-requires-clause-groups : goal.all_apart-requires-clause-groups
all_apart-requires-clause-groups c = c.in_ok-groups.ensures (map written_member c.args.all.now) (c.requires.count ∙ sym (length-map c.args.all.now written_member)) c.requires.edges
