use Rattle.std.proofs.Common.{◌≡◌, ◌||◌, ℕ, drop}
use Rattle.vx_ast.specs.Written.{Program}
use Rattle.vx_graph.specs.Listed.{is_in}
use Rattle.vx_typing.specs.Groups.{are_of}
use Rattle.vx_typing.specs.Members.{table_of}
use Rattle.vx_typing.specs.Seen.{seen}
use Rattle.vx_expressions.specs.Views.{table}
use Rattle.vx_typing.proofs.groups.row.Given as goal

abbrev pub invariant-loop-u : goal.invariant-loop-u
invariant-loop-u l = (p : Program) → table l.members.entries ≡ table_of p → (b : ℕ) → are_of p b (seen l.uses) ≡ (is_in l.row.items b || are_of p b (seen (drop l.u-index l.uses)))
