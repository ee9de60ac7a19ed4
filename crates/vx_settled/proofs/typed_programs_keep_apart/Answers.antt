use Rattle.vx_ast.specs.Resolve.{program}
use Rattle.vx_settled.proofs.KeptApart.{kept_apart}
use Rattle.vx_settled.proofs.typed_programs_keep_apart.Goals as goal

pub returns-clause-apart : goal.returns-clause-apart
returns-clause-apart c p typed = kept_apart p typed

pub returns-clause-depth : goal.returns-clause-depth
returns-clause-depth c p d typed deep x k = c.groups_kept_apart.ensures.trees (program p) d (kept_apart p typed) deep x k
