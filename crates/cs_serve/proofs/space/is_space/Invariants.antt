use Rattle.std.proofs.Common.{◌≡◌, drop}
use Rattle.vx_sexp.specs.Tokens.{is_space, is_space_from}
use Rattle.cs_serve.proofs.space.is_space.Given as goal

abbrev pub invariant-loop-b : goal.invariant-loop-b
invariant-loop-b l = is_space_from l.comment (drop l.b-index l.bytes) ≡ is_space l.bytes
