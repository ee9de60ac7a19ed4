use Rattle.std.proofs.Common.{◌≡◌, drop}
use Rattle.std.specs.Prelude.{string_bytes}
use Rattle.vx_ast.specs.Mentions.{is_among}
use Rattle.vx_resolved.specs.Resolved.{names_of}
use Rattle.vx_states.proofs.forgetting.is_among.Given as goal

abbrev pub invariant-loop-other : goal.invariant-loop-other
invariant-loop-other l = is_among (string_bytes l.name.value) (names_of l.those) ≡ is_among (string_bytes l.name.value) (names_of (drop l.other-index l.those))
