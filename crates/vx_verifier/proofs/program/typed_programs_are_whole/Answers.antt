use Rattle.vx_typing.specs.Typed.{written_of}
use Rattle.vx_verifier.proofs.Covered.{whole}
use Rattle.vx_verifier.proofs.program.typed_programs_are_whole.Goals as goal

pub returns : goal.returns
returns c = whole (written_of c.args.typed.now) c.typed.ensures c.typed_programs_settle_whole.ensures c.typed_programs_name_apart.ensures
